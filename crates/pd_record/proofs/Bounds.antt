-- How far a recording comes.
use Rattle.std.proofs.Common.{◌≡◌, ℕ, ◌+◌, ◌-◌, ◌<◌, ◌≤◌, max, Bool, true, false, nat_le, nat_lt, if◌then◌else◌, Option, Some, None, List, [], ◌∷◌, ◌++◌, refl, arith}
use Rattle.std.specs.List.{AllByRecursion, list_any}
use Rattle.std.specs.Prelude.{IfSome}
use Rattle.std.proofs.lemmas.Bool.{leb-false, ltb-false}
use Rattle.std.proofs.lemmas.Bool.Decides.{nat_tests}
use Rattle.pd_script.specs.declared.timing.Time.{Time}
use Rattle.pd_script.specs.declared.timing.Time.TheVariants.{Any, Absolute, Relative, AbsoluteRange, RelativeRange}
use Rattle.pd_host.specs.Expiries.{deadline_of}
use Rattle.pd_run.specs.Laws.{IsUnderway}
use Rattle.pd_run.specs.Limits.{is_long, written_times}
use Rattle.pd_run.specs.Step.{RunStateView}
use Rattle.pd_run.specs.Times.{single_moment_or_base, base_from_moment_or_later_of_base_and_sent}
use Rattle.pd_record.specs.Recorder.{RecorderView, refusal_if_over_event_or_gap_limit, with_unmet}
use Rattle.pd_record.specs.Inner.{Sound, IsReached}
use Rattle.pd_record.specs.declared.record_error.RecordError.TheVariants.{TooManyEvents, TooLongGap}

-- an event that isn't refused is no 4,097th one, and comes at most 3,600 seconds after the one before
pub not_refused : (t : RecorderView) (at : ℕ) → refusal_if_over_event_or_gap_limit t at ≡ None → (t.count < 4096) × (at ≤ t.run.base + 3600000000)
not_refused t at = go (nat_le 4096 t.count) (nat_lt 3600000000 (at - t.run.base)) refl refl
  where
    go : (a b : Bool) → nat_le 4096 t.count ≡ a → nat_lt 3600000000 (at - t.run.base) ≡ b
        → (if a then Some TooManyEvents else (if b then Some TooLongGap else None)) ≡ None
        → (t.count < 4096) × (at ≤ t.run.base + 3600000000)
    go true b many long h = absurd cc
    go false true many long h = absurd cc
    go false false many long h =
        let few : t.count < 4096 = leb-false 4096 t.count many in
        let near : at - t.run.base ≤ 3600000000 = ltb-false 3600000000 (at - t.run.base) long in
        (few, omega arith)

-- so its moment is within reach
pub await_count_or_note_late : (t : RecorderView) (at : ℕ) → Sound t → refusal_if_over_event_or_gap_limit t at ≡ None → IsReached at
await_count_or_note_late t at sound h =
    let within = not_refused t at h in
    omega (arith, within.0, within.1, sound.run.base)

-- the next expiry lies at most an hour ahead
pub deadline_near : (n at : ℕ) (r : RunStateView) → IsUnderway n r → deadline_of r.host.state ≡ Some at → at ≤ r.clock + 3600000000
deadline_near n at r underway is =
    let most : underway.up_to.begun.max_rto_us ≤ 3600000000 = underway.up_to.begun.max_rto_us_in_range.1 in
    go (deadline_of r.host.state) underway.up_to.up_to.deadline is
  where
    go : (due : Option ℕ) → IfSome due (λ d. (r.clock < d) × (d ≤ r.clock + underway.up_to.begun.max_rto_us)) → due ≡ Some at
        → at ≤ r.clock + 3600000000
    go None h is = absurd cc
    go (Some d) h is =
        let most : underway.up_to.begun.max_rto_us ≤ 3600000000 = underway.up_to.begun.max_rto_us_in_range.1 in
        let same : d ≡ at = cc in
        omega (arith, h.1, most, same)

-- a single time within its limit lies at most 3,600 seconds after the base, or after the start
pub moment_within : (base : ℕ) (time : Time) → list_any is_long (written_times time) ≡ false → single_moment_or_base base time ≤ base + 3600000000
moment_within base Any h = omega arith
moment_within base (Absolute t) h = grind (arith, nat_tests)
moment_within base (Relative t) h = grind (arith, nat_tests)
moment_within base (AbsoluteRange first last) h = omega arith
moment_within base (RelativeRange first last) h = omega arith

-- so the base stays within reach
pub base_within : (base at : ℕ) (time : Time) → list_any is_long (written_times time) ≡ false
    → base_from_moment_or_later_of_base_and_sent base time at ≤ max (base + 3600000000) at
base_within base at Any h = omega arith
base_within base at (Absolute t) h = let m = moment_within base (Absolute t) h in omega (arith, m)
base_within base at (Relative t) h = let m = moment_within base (Relative t) h in omega (arith, m)
base_within base at (AbsoluteRange first last) h = omega arith
base_within base at (RelativeRange first last) h = omega arith

-- one more moment within reach
pub all_more : (moments : List ℕ) (at : ℕ) → AllByRecursion IsReached moments → IsReached at → AllByRecursion IsReached (moments ++ at ∷ [])
all_more [] at all more = (more, tt)
all_more (m ∷ moments) at all more = (all.0, all_more moments at all.1 more)

-- and the tape stays sound
pub unmet_sound : (t : RecorderView) (at : ℕ) → Sound t → IsReached at → Sound (with_unmet t at)
unmet_sound t at sound reached = record { run = sound.run; few = sound.few; unmet = all_more t.unmet at sound.unmet reached }
