-- None of the later states serves.
use Rattle.std.proofs.Common.{◌≡◌, ◌+◌, ◌*◌, ◌≤◌, ◌<◌, ℕ, false}
use Rattle.pd_settings.specs.SettingSets.{agrees}
use Rattle.pd_track.specs.Reuse.{consulted_settings}
use Rattle.pd_track.proofs.start_point.count_up_to_last_agreeing_checkpoint.Given as goal

abbrev pub invariant-loop-i : goal.invariant-loop-i
invariant-loop-i l = (j : ℕ) → l.most < j + l.i → j ≤ l.most → agrees (consulted_settings l.track (4 * j)) l.track.settings l.settings ≡ false
