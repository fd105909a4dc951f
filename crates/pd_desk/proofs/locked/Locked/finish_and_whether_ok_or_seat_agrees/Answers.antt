-- The book's reply, and whether the history that was held agrees with the seat.
use Rattle.std.proofs.Common.{◌∙◌, sym}
use Rattle.pd_book.specs.declared.act.Ruling.{Ruling}
use Rattle.pd_book.specs.declared.faults.FinishFault.TheVariants.{OutOfMemory}
use Rattle.pd_book.specs.Replies.{GivesFinish}
use Rattle.pd_desk.proofs.AfterSome.{after_some, compared_by}
use Rattle.pd_desk.proofs.locked.Locked.finish_and_whether_ok_or_seat_agrees.Goals as goal

pub returns-then-is_ok-clause-gives : goal.returns-then-is_ok-clause-gives
returns-then-is_ok-clause-gives c =
    after_some OutOfMemory c.finish-reply.result (λ before after. GivesFinish before c.args.done.now c.finish-reply.result after) c.args.self.now.held.book.history c.finish-reply.new.self.book.history c.finish-reply.ensures.legal c.finish-reply.ensures.gives

pub returns-else-is_ok-clause-gives : goal.returns-else-is_ok-clause-gives
returns-else-is_ok-clause-gives c =
    after_some OutOfMemory c.finish-reply.result (λ before after. GivesFinish before c.args.done.now c.finish-reply.result after) c.args.self.now.held.book.history c.finish-reply.new.self.book.history c.finish-reply.ensures.legal c.finish-reply.ensures.gives

pub returns-else-is_ok-clause-compared : goal.returns-else-is_ok-clause-compared
returns-else-is_ok-clause-compared c =
    compared_by Ruling c.finish-reply.result c.agrees-agrees.result (λ before after. GivesFinish before c.args.done.now c.finish-reply.result after) c.args.self.now.held c.finish-reply.new.self c.finish-reply.new.self.book.history c.args.seat.now c.finish-reply.new.seat
    (sym c.is_ok.ensures.value ∙ c.if-is_ok.false) c.finish-reply.ensures.refuses c.agrees-agrees.ensures.compared (record { legal = c.agrees-agrees.ensures.legal; noted = c.agrees-agrees.ensures.noted }) c.finish-reply.ensures.gives
