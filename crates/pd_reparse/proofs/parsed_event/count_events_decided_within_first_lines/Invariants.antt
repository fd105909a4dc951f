-- None of those that were passed over is one of them.
use Rattle.std.proofs.Common.{◌≡◌, ◌≤◌, length, drop}
use Rattle.pd_reparse.proofs.Stays.{tally}
use Rattle.pd_reparse.proofs.parsed_event.count_events_decided_within_first_lines.Given as goal

abbrev pub invariant-later : goal.invariant-later
invariant-later l = (l.count ≤ length l.events) × (tally l.same (drop l.count l.events) ≡ 0)

abbrev pub decreases-later : goal.decreases-later
decreases-later l = l.count
