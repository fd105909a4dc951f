-- `retain` leaves the tasks but the one.
use Rattle.std.proofs.Common.{rules, not, ◌==◌}
use Rattle.pd_track.specs.declared.task.Task.{Task}
use Rattle.pd_book.proofs.Retained.{filter_from_captured}
use Rattle.pd_book.proofs.records.remove_task_by_number.Goals as goal

pub returns : goal.returns
returns c = filter_from_captured _ (λ (h : Task). not (c.args.number == h.number)) _ (λ x b q r. search rules) _ _ c.retain.ensures.filtered
