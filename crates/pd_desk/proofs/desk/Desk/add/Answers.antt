-- The book's reply, after the history that was held.
use Rattle.pd_book.specs.declared.faults.BookFault.TheVariants.{OutOfMemory}
use Rattle.pd_book.specs.Replies.{GivesAdd}
use Rattle.pd_desk.proofs.AfterSome.{after_some}
use Rattle.pd_desk.proofs.desk.Desk.add.Goals as goal

pub returns-clause-gives : goal.returns-clause-gives
returns-clause-gives g c =
    after_some OutOfMemory c.add-reply.result (λ before after. GivesAdd before c.args.name c.args.lines c.add-reply.result after) c.deref_mut.result.now.held.book.history c.add-reply.new.self.book.history c.add-reply.ensures.legal c.add-reply.ensures.gives
