-- The book's reply, after the history that was held.
use Rattle.pd_book.specs.declared.faults.BookFault.TheVariants.{OutOfMemory}
use Rattle.pd_book.specs.Replies.{GivesEdit}
use Rattle.pd_desk.proofs.AfterSome.{after_some}
use Rattle.pd_desk.proofs.desk.Desk.edit.Goals as goal

pub returns-clause-gives : goal.returns-clause-gives
returns-clause-gives g c =
    after_some OutOfMemory c.edit-reply.result (λ before after. GivesEdit before c.args.name.now c.args.edit.now c.edit-reply.result after) c.deref_mut.result.now.held.book.history c.edit-reply.new.self.book.history c.edit-reply.ensures.legal c.edit-reply.ensures.gives
