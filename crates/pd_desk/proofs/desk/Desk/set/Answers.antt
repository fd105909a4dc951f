-- The book's reply, after the history that was held.
use Rattle.pd_book.specs.declared.faults.BookFault.TheVariants.{OutOfMemory}
use Rattle.pd_book.specs.Replies.{GivesSet}
use Rattle.pd_desk.proofs.AfterSome.{after_some}
use Rattle.pd_desk.proofs.desk.Desk.set.Goals as goal

pub returns-clause-gives : goal.returns-clause-gives
returns-clause-gives g c =
    after_some OutOfMemory c.set-reply.result (λ before after. GivesSet before c.args.key.now c.args.value c.set-reply.result after) c.deref_mut.result.now.held.book.history c.set-reply.new.self.book.history c.set-reply.ensures.legal c.set-reply.ensures.gives
