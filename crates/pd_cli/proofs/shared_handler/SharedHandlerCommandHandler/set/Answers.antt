use Rattle.std.proofs.Common.{List, ℕ, IfOk, option_map, subst}
use Rattle.pd_settings.specs.Keys.{key_named}
use Rattle.pd_book.specs.declared.act.Act.TheVariants as act
use Rattle.pd_book.specs.Acts.{now}
use Rattle.pd_book.specs.Refusals.{history_full_fault_unless_space_for, refusal_if_key_unknown_or_value_bad}
use Rattle.pd_protocol.specs.declared.command.Command.TheVariants.{Set}
use Rattle.pd_cli.specs.Beside.{MayAct}
use Rattle.pd_cli.proofs.Beside.{set_printed, set_unprinted}
use Rattle.pd_cli.proofs.shared_handler.SharedHandlerCommandHandler.set.Goals as goal

pub returns-in-Ok-clause-printed : goal.returns-in-Ok-clause-printed
returns-in-Ok-clause-printed g c =
    let history = c.args.self.now.own.history in
    let next = c.set-in-Ok.new.self.history in
    let settings = now history.opening history.past in
    let value = c.args.value in
    let key = c.as_slice-key.result.now in
    subst (λ (k : List ℕ). IfOk c.empty_reply_if_own_result_ok.result (λ v. MayAct history (refusal_if_key_unknown_or_value_bad settings (key_named k) value) (option_map (λ x. act.Set x value) (key_named k)) v.items next)) c.as_slice-key.ensures
    (set_printed c.empty_reply_if_own_result_ok.result (λ v. v.items) c.set-in-Ok.result history next (key_named key) value (refusal_if_key_unknown_or_value_bad settings (key_named key) value) (history_full_fault_unless_space_for 1 history) c.empty_reply_if_own_result_ok.ensures.none c.empty_reply_if_own_result_ok.ensures.too c.set-in-Ok.ensures.ok c.set-in-Ok.ensures.allowed)

pub returns-in-Ok-clause-failed : goal.returns-in-Ok-clause-failed
returns-in-Ok-clause-failed g c = c.empty_reply_if_own_result_ok.ensures.only (Set c.args.key.now c.args.value)

pub returns-in-Err-clause-printed : goal.returns-in-Err-clause-printed
returns-in-Err-clause-printed g c =
    let history = c.args.self.now.own.history in
    let settings = now history.opening history.past in
    let value = c.args.value in
    let key = c.as_slice-key.result.now in
    subst (λ (k : List ℕ). IfOk c.refusal_line_if_own_copy_agrees.result (λ v. MayAct history (refusal_if_key_unknown_or_value_bad settings (key_named k) value) (option_map (λ x. act.Set x value) (key_named k)) v.items history)) c.as_slice-key.ensures
    (set_unprinted c.refusal_line_if_own_copy_agrees.result (λ v. v.items) history (key_named key) value c.refusal_if_key_unknown_or_value_bad.result c.refusal_if_key_unknown_or_value_bad.ensures c.refusal_line_if_own_copy_agrees.ensures.line)

pub returns-in-Err-clause-failed : goal.returns-in-Err-clause-failed
returns-in-Err-clause-failed g c = c.refusal_line_if_own_copy_agrees.ensures.only (Set c.args.key.now c.args.value)
