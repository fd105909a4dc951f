-- A change by name and its answer.
use Rattle.std.proofs.Common.{◌≡◌, ℕ, List, Option, Some, None, refl, sym, subst}
use Rattle.std.specs.Prelude.{IsSome, IfSome, IsSomeAnd, MatchResult, ok_or}
use Rattle.pd_settings.specs.declared.faults.SettingsFault.TheVariants.{BadValue}
use Rattle.pd_settings.specs.declared.settings.Settings.{Settings}
use Rattle.pd_settings.specs.declared.keys.Key.{Key}
use Rattle.pd_settings.specs.declared.values.Value.{Value}
use Rattle.pd_settings.specs.Keys.{Allows, allowed_values_of, key_named}
use Rattle.pd_settings.specs.Settings.{ChangesOnly, changed, replaced, with_value}
use Rattle.pd_settings.specs.Change.{IsRefused, IsChanged}
use Rattle.pd_settings.proofs.Changes.{replaced_accepted, replaced_changes}

module _ (s : Settings) (name : List ℕ) (v : Value) where
  by_key : (k : Key) → key_named name ≡ Some k → (o : Option Settings) → (IsSome o → Allows (allowed_values_of k) v) → (Allows (allowed_values_of k) v → IsSome o) → IfSome o (ChangesOnly s k v)
      → MatchResult (ok_or o BadValue) (IsChanged s name v) (IsRefused name v)
  by_key k named (Some t) takes needs changes =
      subst (λ (o : Option Key). IsSomeAnd o (λ key. Allows (allowed_values_of key) v × ChangesOnly s key v t)) (sym named) (takes refl, changes)
  by_key k named None takes needs changes =
      subst (λ (o : Option Key). IsSomeAnd o (λ key. ¬ Allows (allowed_values_of key) v)) (sym named) (λ h. let e = needs h in absurd cc)

  by_name : (o : Option Key) → key_named name ≡ o → MatchResult (changed s o v) (IsChanged s name v) (IsRefused name v)
  by_name None named = named
  by_name (Some k) named = by_key k named (replaced s k v) (replaced_accepted s k v).0 (replaced_accepted s k v).1 (replaced_changes s k v)

  pub with_answers : MatchResult (with_value s name v) (IsChanged s name v) (IsRefused name v)
  with_answers = by_name (key_named name) refl
