-- A domain's test answers for a value inside it and for one outside.
use Rattle.std.proofs.Common.{◌≡◌, ◌↔◌, Option, Some, None, refl, sym}
use Rattle.std.specs.Prelude.{IsSome, IfSome}
use Rattle.std.specs.Coded.{×_prop, le_prop}
use mathlib.Core.HLevel.{⊥_prop, Unit-prop}
use mathlib.Core.Logic.{dite, dif_pos, dif_neg}
use Rattle.pd_settings.specs.declared.allowed_values.AllowedValues.{AllowedValues}
use Rattle.pd_settings.specs.declared.allowed_values.AllowedValues.TheVariants.{Numbers, Booleans, WindowRules, Algorithms}
use Rattle.pd_settings.specs.declared.values.Value.{Value}
use Rattle.pd_settings.specs.declared.values.Value.TheVariants.{Number, Boolean, WindowRule, Algorithm, Other}
use Rattle.pd_settings.specs.Keys.{Allows, made_if_allowed, decide_allowed}

-- a domain has one fact of each value at most
pub allows_prop : (d : AllowedValues) (v : Value) → IsProp (Allows d v)
allows_prop (Numbers least greatest) (Number n) = ×_prop le_prop le_prop
allows_prop (Numbers least greatest) _ = ⊥_prop
allows_prop Booleans (Boolean b) = Unit-prop
allows_prop Booleans _ = ⊥_prop
allows_prop WindowRules (WindowRule w) = Unit-prop
allows_prop WindowRules _ = ⊥_prop
allows_prop Algorithms (Algorithm r) = Unit-prop
allows_prop Algorithms _ = ⊥_prop

pub allowed_inside : {A : Type 0} (d : AllowedValues) (v : Value) (made : Allows d v → A) (h : Allows d v) → Some (made h) ≡ made_if_allowed d v made
allowed_inside d v made h = sym (dif_pos (decide_allowed d v) (allows_prop d v) h _ _)

pub allowed_outside : {A : Type 0} (d : AllowedValues) (v : Value) (made : Allows d v → A) → ¬ Allows d v → None ≡ made_if_allowed d v made
allowed_outside d v made k = sym (dif_neg (decide_allowed d v) k _ _)

-- no domain takes a value of no kind
pub never_other : (d : AllowedValues) → ¬ Allows d Other
never_other (Numbers least greatest) h = h
never_other Booleans h = h
never_other WindowRules h = h
never_other Algorithms h = h

-- an answer comes exactly where the domain takes the value
pub allowed_accepted : {A : Type 0} (d : AllowedValues) (v : Value) (made : Allows d v → A) → IsSome (made_if_allowed d v made) ↔ Allows d v
allowed_accepted {A} d v made = go (decide_allowed d v)
  where
    go : (o : Dec (Allows d v)) → IsSome (dite {C = Option A} o (λ h. Some (made h)) (λ _. None)) ↔ Allows d v
    go (yes h) = (λ _. h, λ _. refl)
    go (no k) = (λ e. absurd cc, λ h. absurd (k h))

-- what holds of all that is made of the value holds of the answer
pub if_allowed : {A : Type 0} (d : AllowedValues) (v : Value) (made : Allows d v → A) (P : A → Type 0) → ((h : Allows d v) → P (made h)) → IfSome (made_if_allowed d v made) P
if_allowed {A} d v made P each = go (decide_allowed d v)
  where
    go : (o : Dec (Allows d v)) → IfSome (dite {C = Option A} o (λ h. Some (made h)) (λ _. None)) P
    go (yes h) = each h
    go (no k) = tt
