-- The test of agreement says that the settings of the set are equal.
use Rattle.std.proofs.Common.{◌≡◌, Bool, true, false, not, ◌||◌, cond, List, [], ◌∷◌, Some, IsTrue, ◌↔◌, refl, subst, ap}
use Rattle.std.specs.Cmp.{booleans_Decides}
use Rattle.std.specs.List.{list_all}
use Rattle.std.specs.Prelude.{find}
use Rattle.std.specs.Str.{bytes_eq}
use Rattle.std.proofs.lemmas.Bool.Decides.{Decides-eqb}
use Rattle.std.proofs.lemmas.Bool.{and_parts, and_from}
use Rattle.pd_settings.specs.declared.settings.Settings.{Settings}
use Rattle.pd_settings.specs.declared.initial_window.InitialWindow.{InitialWindow}
use Rattle.pd_settings.specs.declared.initial_window.InitialWindow.TheVariants.{Rfc5681, Rfc6928}
use Rattle.pd_settings.specs.declared.recovery_algorithm.RecoveryAlgorithm.{RecoveryAlgorithm}
use Rattle.pd_settings.specs.declared.recovery_algorithm.RecoveryAlgorithm.TheVariants.{Rfc6675, Rfc9937}
use Rattle.pd_settings.specs.declared.keys.Key.{Key}
use Rattle.pd_settings.specs.declared.setting_set.SettingSet.{SettingSet}
use Rattle.pd_settings.specs.declared.values.Value.{Value}
use Rattle.pd_settings.specs.declared.values.Value.TheVariants.{Number, Boolean, WindowRule, Algorithm, Other}
use Rattle.pd_settings.specs.Keys.{name_of}
use Rattle.pd_settings.specs.Rows.{all_keys}
use Rattle.pd_settings.specs.Settings.{value_at}
use Rattle.pd_settings.specs.SettingSets.{Agree, agrees, is_unconsulted_or_same, has, is_same, is_same_at, is_same_value, is_same_window, is_same_algorithm}
use Rattle.pd_settings.proofs.Changes.{determined}
use Rattle.pd_settings.proofs.Names.{named-name_of}

-- Values

same_window : (a b : InitialWindow) → is_same_window a b ≡ true → a ≡ b
same_window Rfc5681 Rfc5681 e = refl
same_window Rfc6928 Rfc6928 e = refl
same_window Rfc5681 Rfc6928 e = absurd cc
same_window Rfc6928 Rfc5681 e = absurd cc

same_rate : (a b : RecoveryAlgorithm) → is_same_algorithm a b ≡ true → a ≡ b
same_rate Rfc6675 Rfc6675 e = refl
same_rate Rfc9937 Rfc9937 e = refl
same_rate _ _ e = absurd cc

same_value : (a b : Value) → is_same_value a b ≡ true → a ≡ b
same_value (Number a) (Number b) e = ap Number ((Decides-eqb a b).0 e)
same_value (Boolean a) (Boolean b) e = ap Boolean ((booleans_Decides a b).0 e)
same_value (WindowRule a) (WindowRule b) e = ap WindowRule (same_window a b e)
same_value (Algorithm a) (Algorithm b) e = ap Algorithm (same_rate a b e)
same_value Other Other e = refl
same_value _ _ e = absurd cc

window_same : (a : InitialWindow) → is_same_window a a ≡ true
window_same Rfc5681 = refl
window_same Rfc6928 = refl

rate_same : (a : RecoveryAlgorithm) → is_same_algorithm a a ≡ true
rate_same Rfc6675 = refl
rate_same Rfc9937 = refl

value_same : (a : Value) → is_same_value a a ≡ true
value_same (Number a) = (Decides-eqb a a).1 refl
value_same (Boolean a) = (booleans_Decides a a).1 refl
value_same (WindowRule a) = window_same a
value_same (Algorithm a) = rate_same a
value_same Other = refl

-- Lists

-- a test that all pass is passed by what is found
passed : {A : Type 0} (p q : A → Bool) (xs : List A) (x : A) → list_all q xs ≡ true → find p xs ≡ Some x → q x ≡ true
passed p q [] x h e = absurd cc
passed p q (y ∷ ys) x h e = go (p y) (passed p q ys x (and_parts (q y) (list_all q ys) h).1) e
  where
    go : (b : Bool) → (find p ys ≡ Some x → q x ≡ true) → cond b (Some y) (find p ys) ≡ Some x → q x ≡ true
    go true later e = let same : y ≡ x = cc in subst (λ z. q z ≡ true) same (and_parts (q y) (list_all q ys) h).0
    go false later e = later e

passed_by_all : {A : Type 0} (q : A → Bool) (xs : List A) → ((x : A) → q x ≡ true) → list_all q xs ≡ true
passed_by_all q [] h = refl
passed_by_all q (x ∷ xs) h = and_from (q x) (list_all q xs) (h x) (passed_by_all q xs h)

-- Agreement

holds : (used same : Bool) → (not used || same) ≡ true → used ≡ true → same ≡ true
holds true same h e = h
holds false same h e = absurd cc

where_used : (used same : Bool) → (used ≡ true → same ≡ true) → (not used || same) ≡ true
where_used true same h = h refl
where_used false same h = refl

same_at : (consulted : SettingSet) (a b : Settings) → agrees consulted a b ≡ true → Agree consulted a b
same_at consulted a b h key e =
    same_value (value_at a key) (value_at b key)
    (holds (has consulted key) (is_same_value (value_at a key) (value_at b key))
    (passed (λ k. bytes_eq (name_of k) (name_of key)) (is_unconsulted_or_same consulted a b) all_keys key h (named-name_of key)) e)

all_same : (consulted : SettingSet) (a b : Settings) → Agree consulted a b → agrees consulted a b ≡ true
all_same consulted a b h =
    passed_by_all (is_unconsulted_or_same consulted a b) all_keys
    (λ key. where_used (has consulted key) (is_same_value (value_at a key) (value_at b key))
    (λ e. subst (λ v. is_same_value (value_at a key) v ≡ true) (h key e) (value_same (value_at a key))))

-- the test holds where the two are equal at the keys of the set, and nowhere else
pub agrees_is : (consulted : SettingSet) (a b : Settings) → IsTrue (agrees consulted a b) ↔ Agree consulted a b
agrees_is consulted a b = (same_at consulted a b, all_same consulted a b)

-- Equality

-- settings are equal where they are equal at all keys, and nowhere else
pub is_same_is : (a b : Settings) → IsTrue (is_same a b) ↔ (a ≡ b)
is_same_is a b = (equal, same)
  where
    equal : is_same a b ≡ true → a ≡ b
    equal h =
        determined a b (λ key. same_value (value_at a key) (value_at b key)
        (passed (λ k. bytes_eq (name_of k) (name_of key)) (is_same_at a b) all_keys key h (named-name_of key)))

    same : a ≡ b → is_same a b ≡ true
    same e = subst (λ x. is_same a x ≡ true) e (passed_by_all (is_same_at a a) all_keys (λ key. value_same (value_at a key)))

-- settings that are the same agree in any set
or_second : (x y : Bool) → y ≡ true → (x || y) ≡ true
or_second true y h = refl
or_second false y h = h

pub same_agrees : (consulted : SettingSet) (a b : Settings) → is_same a b ≡ true → agrees consulted a b ≡ true
same_agrees consulted a b h = over all_keys h
  where
    over : (keys : List Key) → list_all (is_same_at a b) keys ≡ true → list_all (is_unconsulted_or_same consulted a b) keys ≡ true
    over [] h = refl
    over (key ∷ keys) h =
        let parts = and_parts (is_same_at a b key) (list_all (is_same_at a b) keys) h in
        and_from (is_unconsulted_or_same consulted a b key) (list_all (is_unconsulted_or_same consulted a b) keys) (or_second (not (has consulted key)) (is_same_at a b key) parts.0) (over keys parts.1)
