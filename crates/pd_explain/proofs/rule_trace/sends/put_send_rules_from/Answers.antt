-- The rule of one packet more.
use Rattle.std.proofs.Common.{List, ℕ, ap, sym, ◌∙◌, arith}
use Rattle.pd_explain.specs.Inner.{names_of}
use Rattle.pd_explain.specs.RuleNames.{with_name}
use Rattle.pd_explain.proofs.RuleTraceLemmas.{rule_noted}
use Rattle.pd_explain.proofs.rule_trace.sends.put_send_rules_from.Goals as goal

pub loop-place-preserved : goal.loop-place-preserved
loop-place-preserved c =
    let before : List (List ℕ) = names_of c.loop-place.names.items in
    record {
      low = omega (arith, c.loop-place.invariant.low);
      names = rule_noted c.args.from c.loop-place.place c.args.outbox.now c.in-Some.sent.now (names_of c.args.names.now.items) before
          (names_of c.put_name_unless_there.new.names.items) c.loop-place.invariant.low (sym c.in-Some.ensures) c.loop-place.invariant.names
          (c.in_ok-put_name_unless_there-in-Some.ensures ∙ ap (λ (name : List ℕ). with_name before name) c.send_rule_name.ensures);
    }
