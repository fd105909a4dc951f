-- The book's reply, after the history that was held.
use Rattle.pd_book.specs.declared.faults.BookFault.TheVariants.{OutOfMemory}
use Rattle.pd_book.specs.Replies.{GivesRemove}
use Rattle.pd_desk.proofs.AfterSome.{after_some}
use Rattle.pd_desk.proofs.desk.Desk.remove.Goals as goal

pub returns-clause-gives : goal.returns-clause-gives
returns-clause-gives g c =
    after_some OutOfMemory c.remove-reply.result (λ before after. GivesRemove before c.args.name.now c.remove-reply.result after) c.deref_mut.result.now.held.book.history c.remove-reply.new.self.book.history c.remove-reply.ensures.legal c.remove-reply.ensures.gives
