-- How far along a run is.
use Rattle.std.proofs.Common.{◌≡◌, ◌+◌, ◌*◌, ◌≤◌, Option, Some, None, is_none, find, refl, subst, arith}
use Rattle.pd_script.specs.declared.script_header.HeaderItem.{HeaderItem}
use Rattle.pd_run.specs.Inner.{InputsOnlyUse, SenderIsLawful}
use Rattle.pd_run.specs.Laws.{IsUnderway, StartsUnderway, StepsGoOn, OtherSettingsGoOn, IsHeldUnder, StartsHeld, StepsStayHeld}
use Rattle.pd_run.specs.Run.{tolerance_in}
use Rattle.pd_run.specs.RunStates.{KeepsTime}
use Rattle.pd_run.proofs.Bounds.{IsWithin, given, step_within}
use Rattle.pd_run.proofs.Queued.{end_of, step_queues}
use Rattle.pd_run.proofs.Timed.{keeps_time, IsHeld, stays_held}

pub starts_underway : SenderIsLawful → StartsUnderway
starts_underway laws header settings r h = go (find (λ (item : HeaderItem). is_none (tolerance_in item)) header) refl
  where
    go : (o : Option HeaderItem) → find (λ (item : HeaderItem). is_none (tolerance_in item)) header ≡ o → IsUnderway 0 r
    go None is = subst (IsUnderway 0) (given _ r (rw is at h)) (record {
      live = refl;
      clock = omega arith;
      base = omega arith;
      up_to = record { begun = settings; up_to = laws.start settings };
      queued = omega arith;
    })
    go (Some item) is = absurd (let refused = rw is at h in cc)

pub steps_go_on : SenderIsLawful → StepsGoOn
steps_go_on laws n r s e underway h =
    let within : IsWithin KeepsTime (3600000000 * n) r = record { live = underway.live; clock = underway.clock; base = underway.base; up_to = underway.up_to } in
    let next : IsWithin KeepsTime (3600000000 * n + 3600000000) s = step_within KeepsTime (keeps_time laws) (3600000000 * n) r s e within h in
    let more : end_of s ≤ end_of r + 262144 = step_queues laws r s e h in
    record {
      live = next.live;
      clock = omega (arith, next.clock);
      base = omega (arith, next.base);
      up_to = next.up_to;
      queued = omega (arith, more, underway.queued);
    }

pub rebinding_goes_on : SenderIsLawful → OtherSettingsGoOn
rebinding_goes_on laws n r settings underway = record {
  live = underway.live;
  clock = underway.clock;
  base = underway.base;
  up_to = record {
    begun = underway.up_to.begun;
    up_to = laws.rebinding underway.up_to.begun settings r.clock r.host.state underway.up_to.up_to;
  };
  queued = underway.queued;
}

-- under the settings that are held

pub starts_held : SenderIsLawful → StartsHeld
starts_held laws header settings r h = go (find (λ (item : HeaderItem). is_none (tolerance_in item)) header) refl
  where
    go : (o : Option HeaderItem) → find (λ (item : HeaderItem). is_none (tolerance_in item)) header ≡ o → IsHeldUnder r
    go None is = subst IsHeldUnder (given _ r (rw is at h)) (laws.start settings)
    go (Some item) is = absurd (let refused = rw is at h in cc)

pub steps_stay_held : SenderIsLawful → InputsOnlyUse → StepsStayHeld
steps_stay_held laws consulted_settings n r s e underway held h =
    let within : IsWithin IsHeld (3600000000 * n) r = record { live = underway.live; clock = underway.clock; base = underway.base; up_to = held } in
    let next : IsWithin IsHeld (3600000000 * n + 3600000000) s = step_within IsHeld (stays_held laws consulted_settings) (3600000000 * n) r s e within h in
    next.up_to
