-- Laying entries over settings gives this value at each key, or this fault.
use Rattle.std.proofs.Common.{◌≡◌, ℕ, Bool, true, false, List, Option, Some, None, refl, sym, ap, subst, inl, inr, ◌∙◌}
use Rattle.std.specs.Prelude.{IsSome, IfSome, IsSomeAnd, MatchResult, unwrap_or, ok_or, if◌then◌else◌, Result, Ok, Err}
use Rattle.std.specs.Option.{option_or}
use Rattle.std.specs.Str.{bytes_eq}
use Rattle.std.proofs.lemmas.Slice.Eq.{bytes_eq-Decides}
use Rattle.toml.specs.Data.{Data, Members, no_members, member}
use Rattle.pd_settings.specs.declared.faults.SettingsFault.{SettingsFault}
use Rattle.pd_settings.specs.declared.faults.SettingsFault.TheVariants.{BadValue}
use Rattle.pd_settings.specs.declared.settings.Settings.{Settings}
use Rattle.pd_settings.specs.declared.keys.Key.{Key}
use Rattle.pd_settings.specs.declared.values.Value.{Value}
use Rattle.pd_settings.specs.Keys.{Allows, allowed_values_of, key_named, name_of}
use Rattle.pd_settings.specs.Settings.{ChangesOnly, changed, replaced, value_at}
use Rattle.pd_settings.specs.Table.{value_of, unless_refused, overlaid, written, IsOverlay, AreAccepted, IsFirstFault}
use Rattle.pd_settings.proofs.Changes.{replaced_accepted, replaced_changes}
use Rattle.pd_settings.proofs.Names.{named-is, same_key}

-- the answer says: every entry is accepted and laid over the settings; or which fault is the first
abbrev Says : Settings → Members → Result Settings SettingsFault → Type 0
Says s entries r = MatchResult r (λ t. AreAccepted entries × IsOverlay s entries t) (IsFirstFault entries)

-- one entry before the others
written-first : (later : Option Value) (b : Bool) (before after v : Value) → (b ≡ true → after ≡ v) → (b ≡ false → after ≡ before)
    → unwrap_or later after ≡ unwrap_or (option_or later (if b then Some v else None)) before
written-first (Some x) b before after v yes_ no_ = refl
written-first None true before after v yes_ no_ = yes_ refl
written-first None false before after v yes_ no_ = no_ refl

-- what the settings have at each key after an entry was accepted
after_entry : (s t : Settings) (name : List ℕ) (v : Value) (k : Key) → key_named name ≡ Some k → ChangesOnly s k v t
    → (rest : Members) (u : Settings) → IsOverlay t rest u
    → (key : Key) → value_at u key ≡ unwrap_or (option_or (written (name_of key) rest) (if bytes_eq name (name_of key) then Some v else None)) (value_at s key)
after_entry s t name v k named changes rest u overlay key =
    overlay key ∙ written-first (written (name_of key) rest) (bytes_eq name (name_of key)) (value_at s key) (value_at t key) v
    (λ e. let same : k ≡ key = same_key name k key named ((bytes_eq-Decides name (name_of key)).0 e) in
    subst (λ (j : Key). value_at t j ≡ v) same changes.at_key)
    (λ e. changes.elsewhere key
    (λ same. let there : name_of k ≡ name = named-is name k named in
    let here : name ≡ name_of key = sym there ∙ ap name_of (sym same) in
    let passes : bytes_eq name (name_of key) ≡ true = (bytes_eq-Decides name (name_of key)).1 here in cc))

-- the first entry is accepted, and the others answer
accepted_first : (s t : Settings) (name : List ℕ) (entry : Data) (rest : Members) (k : Key) → key_named name ≡ Some k
    → Allows (allowed_values_of k) (value_of entry) → ChangesOnly s k (value_of entry) t → (r : Result Settings SettingsFault) → Says t rest r
    → Says s (member name entry rest) r
accepted_first s t name entry rest k named takes changes (Ok u) says = (
  (subst (λ (o : Option Key). IsSomeAnd o (λ key. Allows (allowed_values_of key) (value_of entry))) (sym named) takes, says.0),
  after_entry s t name (value_of entry) k named changes rest u says.1,
)
accepted_first s t name entry rest k named takes changes (Err fault) first =
    inr (subst (λ (o : Option Key). IsSomeAnd o (λ key. Allows (allowed_values_of key) (value_of entry))) (sym named) takes, first)

pub overlaid_answers : (s : Settings) (entries : Members) → Says s entries (overlaid s entries)
overlaid_answers s no_members = (tt, λ key. refl)
overlaid_answers s (member name entry rest) = go (key_named name) refl (λ t. overlaid_answers t rest)
  where
    by_key : (k : Key) → key_named name ≡ Some k → (o : Option Settings) → (IsSome o → Allows (allowed_values_of k) (value_of entry))
        → (Allows (allowed_values_of k) (value_of entry) → IsSome o) → IfSome o (ChangesOnly s k (value_of entry))
        → ((t : Settings) → Says t rest (overlaid t rest))
        → Says s (member name entry rest) (unless_refused (ok_or o BadValue) (λ t. overlaid t rest))
    by_key k named (Some t) takes needs changes later =
        accepted_first s t name entry rest k named (takes refl) changes (overlaid t rest) (later t)
    by_key k named None takes needs changes later =
        inl (subst (λ (o : Option Key). IsSomeAnd o (λ key. ¬ Allows (allowed_values_of key) (value_of entry))) (sym named) (λ h. let e = needs h in absurd cc))

    go : (o : Option Key) → key_named name ≡ o → ((t : Settings) → Says t rest (overlaid t rest))
        → Says s (member name entry rest) (unless_refused (changed s o (value_of entry)) (λ t. overlaid t rest))
    go None named later = inl named
    go (Some k) named later =
        by_key k named (replaced s k (value_of entry)) (replaced_accepted s k (value_of entry)).0 (replaced_accepted s k (value_of entry)).1
        (replaced_changes s k (value_of entry)) later
