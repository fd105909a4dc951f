-- So many origins are reported.
use Rattle.std.proofs.Common.{◌≡◌, ℕ, ◌+◌, ◌-◌, length, slice_get, Some}
use Rattle.pd_seg.specs.declared.segments.Sent.{Sent}
use Rattle.pd_cause.specs.Inner.{origin_by}
use Rattle.pd_cause.specs.declared.origins.Origin.{Origin}
use Rattle.pd_cause.specs.declared.origins.Trigger.{Trigger}
use Rattle.pd_cause.proofs.origins.origins_of_oldest_unmatched.Given as goal

abbrev pub invariant-loop-place : goal.invariant-loop-place
invariant-loop-place l = record {
  all : length l.origins.items ≡ l.place;
  each : (place : ℕ) (sent : Sent) (origin : Origin) → slice_get l.outbox place ≡ Some sent → slice_get l.origins.items place ≡ Some origin
      → (trigger : Trigger) × (slice_get l.triggers (length l.triggers - length l.outbox + place) ≡ Some trigger) × (origin ≡ origin_by trigger sent);
}
