-- The first check that rules, as a chain of `or`.
use Rattle.std.proofs.Common.{◌≡◌, refl, ◌∷◌, [], Option, None, Some}
use Rattle.std.specs.Option.{option_or}
use Rattle.pd_host.specs.declared.connection.segment_check.SegmentCheck.{SegmentCheck}
use Rattle.pd_host.specs.Arrivals.{first_failed_check}

-- the first of six checks
pub first_of_six : (a b c d e f : Option SegmentCheck) → option_or (option_or (option_or (option_or (option_or a b) c) d) e) f ≡ first_failed_check (a ∷ b ∷ c ∷ d ∷ e ∷ f ∷ [])
first_of_six (Some r) b c d e f = refl
first_of_six None (Some r) c d e f = refl
first_of_six None None (Some r) d e f = refl
first_of_six None None None (Some r) e f = refl
first_of_six None None None None (Some r) f = refl
first_of_six None None None None None (Some r) = refl
first_of_six None None None None None None = refl
