-- The job was that of a start after the history that was held.
use Rattle.pd_book.specs.declared.faults.BookFault.TheVariants.{OutOfMemory}
use Rattle.pd_book.specs.Replies.{GivesStart}
use Rattle.pd_desk.proofs.AfterSome.{after_some}
use Rattle.pd_desk.proofs.HandedOut.{handed_out}
use Rattle.pd_desk.proofs.desk.Desk.start.Goals as goal

pub returns-clause-given : goal.returns-clause-given
returns-clause-given g c =
    handed_out c.deref_mut.result.now.held.book.history c.start.new.self.book.history c.start.result c.start.ensures.gives c.start.ensures.legal

pub returns-clause-gives : goal.returns-clause-gives
returns-clause-gives g c =
    after_some OutOfMemory c.start.result (λ before after. GivesStart before c.start.result after) c.deref_mut.result.now.held.book.history c.start.new.self.book.history c.start.ensures.legal c.start.ensures.gives
