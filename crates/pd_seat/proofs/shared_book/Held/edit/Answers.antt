-- The copy that is kept of the edit is equal to it.
use Rattle.std.proofs.Common.{subst}
use Rattle.pd_text.specs.declared.line_edit.LineEdit.{LineEdit}
use Rattle.pd_book.specs.Replies.{GivesEdit}
use Rattle.pd_book.specs.declared.faults.BookFault.TheVariants.{OutOfMemory}
use Rattle.pd_seat.specs.Seats.{Unless}
use Rattle.pd_seat.proofs.shared_book.Held.edit.Goals as goal

pub returns-clause-gives : goal.returns-clause-gives
returns-clause-gives c =
    subst (λ (edit : LineEdit). Unless OutOfMemory c.edit_and_note_act_with_shared_edit.result (GivesEdit c.args.self.now.book.history c.args.name.now edit c.edit_and_note_act_with_shared_edit.result c.edit_and_note_act_with_shared_edit.new.self.book.history)) c.in_ok-edit.ensures
    c.edit_and_note_act_with_shared_edit.ensures.gives
