-- Replacing one field gives this at each key, and settings are their values at the keys: no lemma here names a
-- setting but the first of the table, under which the others fall.
use Rattle.std.proofs.Common.{◌≡◌, ◌≢◌, ◌↔◌, Bool, true, false, cond, List, [], ◌∷◌, Some, refl, sym, ap, ◌∙◌}
use Rattle.std.specs.Prelude.{IsSome, IfSome, find, map, if◌then◌else◌}
use Rattle.std.specs.Str.{bytes_eq}
use Rattle.std.proofs.lemmas.Slice.Eq.{bytes_eq-Decides}
use mathlib.Core.HLevel.{is_prop→PathP}
use Rattle.pd_settings.specs.declared.allowed_values.AllowedValues.{AllowedValues}
use Rattle.pd_settings.specs.declared.allowed_values.AllowedValues.TheVariants.{Numbers, Booleans, WindowRules, Algorithms}
use Rattle.pd_settings.specs.declared.settings.Settings.{Settings}
use Rattle.pd_settings.specs.declared.keys.Key.{Key}
use Rattle.pd_settings.specs.declared.keys.Key.TheVariants.{Mss}
use Rattle.pd_settings.specs.declared.values.Value.{Value}
use Rattle.pd_settings.specs.declared.values.Value.TheVariants.{Number, Boolean, WindowRule, Algorithm}
use Rattle.pd_settings.specs.Keys.{Allows, allowed_values_of, name_of}
use Rattle.pd_settings.specs.Rows.{all_keys}
use Rattle.pd_settings.specs.Settings.{ChangesOnly, held, number_in, put, replaced, algorithm_in, boolean_in, value_at, window_rule_in}
use Rattle.pd_settings.proofs.Names.{named-name_of, same_key}
use Rattle.pd_settings.proofs.Allowed.{if_allowed, allowed_accepted, allowed_inside, allows_prop}

-- One key

-- the value as a field of its domain holds it
abbrev rebuilt : AllowedValues → Value → Value
rebuilt (Numbers least greatest) v = Number (number_in v)
rebuilt Booleans v = Boolean (boolean_in v)
rebuilt WindowRules v = WindowRule (window_rule_in v)
rebuilt Algorithms v = Algorithm (algorithm_in v)

back : (d : AllowedValues) (v : Value) → Allows d v → rebuilt d v ≡ v
back (Numbers least greatest) (Number n) h = refl
back (Numbers least greatest) _ h = absurd h
back Booleans (Boolean b) h = refl
back Booleans _ h = absurd h
back WindowRules (WindowRule w) h = refl
back WindowRules _ h = absurd h
back Algorithms (Algorithm r) h = refl
back Algorithms _ h = absurd h

-- the value at each key after one was replaced
abbrev pub value_after : Settings → Key → Value → Key → Value
value_after s key v other = if bytes_eq (name_of key) (name_of other) then rebuilt (allowed_values_of key) v else value_at s other

put_values : (s : Settings) (key : Key) (v : Value) (h : Allows (allowed_values_of key) v) (other : Key) → value_at (put s key v h) other ≡ value_after s key v other
put_values s Mss v h Mss = refl
put_values s Mss v h other = refl
put_values s key v h Mss = refl
put_values s key v h other = refl

at_itself : {A : Type 0} (key : Key) (x y : A) → (if bytes_eq (name_of key) (name_of key) then x else y) ≡ x
at_itself key x y = ap (λ (b : Bool). if b then x else y) ((bytes_eq-Decides (name_of key) (name_of key)).1 refl)

at_others : {A : Type 0} (key other : Key) (x y : A) → other ≢ key → (if bytes_eq (name_of key) (name_of other) then x else y) ≡ y
at_others {A} key other x y apart = go (bytes_eq (name_of key) (name_of other)) refl
  where
    go : (b : Bool) → bytes_eq (name_of key) (name_of other) ≡ b → (if b then x else y) ≡ y
    go true e = absurd (apart (sym (same_key (name_of key) key other (named-name_of key) ((bytes_eq-Decides (name_of key) (name_of other)).0 e))))
    go false e = refl

put_changes : (s : Settings) (key : Key) (v : Value) (h : Allows (allowed_values_of key) v) → ChangesOnly s key v (put s key v h)
put_changes s key v h = record {
  at_key = put_values s key v h key ∙ at_itself key (rebuilt (allowed_values_of key) v) (value_at s key) ∙ back (allowed_values_of key) v h;
  elsewhere = λ other apart. put_values s key v h other ∙ at_others key other (rebuilt (allowed_values_of key) v) (value_at s other) apart;
}

-- a change is accepted exactly where the key takes the value
pub replaced_accepted : (s : Settings) (key : Key) (v : Value) → IsSome (replaced s key v) ↔ Allows (allowed_values_of key) v
replaced_accepted s key v = allowed_accepted (allowed_values_of key) v (put s key v)

-- an accepted change changes that key alone
pub replaced_changes : (s : Settings) (key : Key) (v : Value) → IfSome (replaced s key v) (ChangesOnly s key v)
replaced_changes s key v = if_allowed (allowed_values_of key) v (put s key v) (ChangesOnly s key v) (λ h. put_changes s key v h)

-- All keys

-- the settings with the values of some keys put into them, one after the other
abbrev copied : (f : Key → Value) → ((key : Key) → Allows (allowed_values_of key) (f key)) → List Key → Settings → Settings
copied f h [] s = s
copied f h (key ∷ keys) s = copied f h keys (put s key (f key) (h key))

-- with the values of all keys nothing is left of them
copied_all : (s base : Settings) → copied (value_at s) (held s) all_keys base ≡ s
copied_all s base = refl

-- settings are equal where their values at all keys are
pub determined : (s t : Settings) → ((key : Key) → value_at s key ≡ value_at t key) → s ≡ t
determined s t e =
    sym (copied_all s s)
    ∙ (λ i. copied (λ key. e key i)
    (λ key. is_prop→PathP (λ j. Allows (allowed_values_of key) (e key j)) (λ j. allows_prop (allowed_values_of key) (e key j)) (held s key) (held t key) i)
    all_keys s)
    ∙ copied_all t s

-- what is found in a list has the same image where all have
mapped_same : {A B : Type 0} (f g : A → B) (p : A → Bool) (xs : List A) (x : A) → map f xs ≡ map g xs → find p xs ≡ Some x → f x ≡ g x
mapped_same f g p [] x e h = absurd cc
mapped_same {A} {B} f g p (y ∷ ys) x e h = go (p y) (let head : f y ≡ g y = cc in head) (mapped_same f g p ys x (let tail : map f ys ≡ map g ys = cc in tail)) h
  where
    go : (b : Bool) → f y ≡ g y → (find p ys ≡ Some x → f x ≡ g x) → cond b (Some y) (find p ys) ≡ Some x → f x ≡ g x
    go true head later h = let same : y ≡ x = cc in cc
    go false head later h = later h

-- settings with the values of a change are what it answers
pub answered : (s t : Settings) (key : Key) (v : Value) → Allows (allowed_values_of key) v → map (value_at t) all_keys ≡ map (value_after s key v) all_keys
    → Some t ≡ replaced s key v
answered s t key v h e =
    ap Some (determined t (put s key v h) (λ other.
    mapped_same (value_at t) (value_after s key v) (λ k. bytes_eq (name_of k) (name_of other)) all_keys other e (named-name_of other)
    ∙ sym (put_values s key v h other)))
    ∙ allowed_inside (allowed_values_of key) v (put s key v) h
