use Rattle.std.proofs.Common.{Ok, ap, List, ℕ}
use Rattle.pd_settings.specs.Keys.{key_named}
use Rattle.pd_book.specs.Refusals.{set_refusal}
use Rattle.pd_book.specs.History.{History}
use Rattle.pd_protocol.specs.declared.command.Command.TheVariants.{Set}
use Rattle.pd_cli.proofs.Observed.{act_failed, act_printed, act_ready}
use Rattle.pd_cli.proofs.Settled.{if_ok_map, acts_set}
use Rattle.pd_cli.proofs.local_handler.LocalHandlerCommandHandler.set.Goals as goal

pub returns-clause-printed : goal.returns-clause-printed
returns-clause-printed g c =
    let book = c.args.self.now.book in
    act_printed g.L.JobObserver.observes c.empty_reply_or_refusal_line.result (λ v. v.items) book.history c.set.new.self.history (Set c.args.key.now c.args.value) c.args.self.now.observer tt
    (rw (← c.as_slice.ensures) (if_ok_map c.empty_reply_or_refusal_line.result _ _ (λ v p. ap (λ (x : List ℕ × History). Ok x) (acts_set c.set.result book c.set.new.self (set_refusal book.history c.as_slice.result.now c.args.value) (key_named c.as_slice.result.now) c.args.value v.items c.set.ensures.ok c.set.ensures.allowed c.set.ensures.err c.set.ensures.same p)) c.empty_reply_or_refusal_line.ensures.reply_to_result))

pub returns-clause-ready : goal.returns-clause-ready
returns-clause-ready g c =
    let book = c.args.self.now.book in
    act_ready c.empty_reply_or_refusal_line.result (λ v. v.items) book.history c.set.new.self.history (Set c.args.key.now c.args.value) tt c.requires
    (rw (← c.as_slice.ensures) (if_ok_map c.empty_reply_or_refusal_line.result _ _ (λ v p. ap (λ (x : List ℕ × History). Ok x) (acts_set c.set.result book c.set.new.self (set_refusal book.history c.as_slice.result.now c.args.value) (key_named c.as_slice.result.now) c.args.value v.items c.set.ensures.ok c.set.ensures.allowed c.set.ensures.err c.set.ensures.same p)) c.empty_reply_or_refusal_line.ensures.reply_to_result))

pub returns-clause-failed : goal.returns-clause-failed
returns-clause-failed g c =
    act_failed g.L.JobObserver.observes c.empty_reply_or_refusal_line.result c.args.self.now.book.history c.set.new.self.history (Set c.args.key.now c.args.value) c.args.self.now.observer c.empty_reply_or_refusal_line.ensures.only
