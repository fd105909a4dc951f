-- The packets that are left are counted from here on.
use Rattle.std.proofs.Common.{◌≡◌, ◌<◌, ◌^◌, false}
use Rattle.std.specs.List.{list_any}
use Rattle.pd_run.specs.Laws.{unmatched}
use Rattle.pd_run.specs.Limits.{is_long, written_times}
use Rattle.pd_run.specs.Step.{tolerance_of}
use Rattle.pd_cause.specs.Unexpected.{IsEarly}
use Rattle.pd_cause.proofs.UnexpectedLemmas.{Left}
use Rattle.pd_cause.proofs.causes.unmatched.count_unmatched_before_match_if_any.Given as goal

abbrev pub invariant-loop-count : goal.invariant-loop-count
invariant-loop-count l = record {
  early : IsEarly l.run → l.base < 2 ^ 61;
  left : IsEarly l.run → list_any is_long (written_times l.time) ≡ false
      → Left l.packet l.time (tolerance_of l.run) l.run.base l.base l.count (unmatched l.run);
}
