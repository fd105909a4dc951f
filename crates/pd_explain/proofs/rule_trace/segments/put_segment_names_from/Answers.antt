-- The name of the segment of one packet more.
use Rattle.std.proofs.Common.{List, ℕ, Option, ap, sym, ◌∙◌, fold, arith}
use Rattle.pd_explain.specs.Inner.{names_of}
use Rattle.pd_explain.specs.RuleNames.{as_list, with_name}
use Rattle.pd_explain.proofs.RuleTraceLemmas.{segment_noted}
use Rattle.pd_explain.proofs.rule_trace.segments.put_segment_names_from.Goals as goal

pub loop-place-preserved : goal.loop-place-preserved
loop-place-preserved c =
    let before : List (List ℕ) = names_of c.loop-place.names.items in
    record {
      low = omega (arith, c.loop-place.invariant.low);
      names = segment_noted c.args.smss c.args.from c.loop-place.place c.args.outbox.now c.in-Some.sent.now (names_of c.args.names.now.items) before
          (names_of c.put_name_if_some.new.names.items) c.loop-place.invariant.low (sym c.in-Some.ensures) c.loop-place.invariant.names
          (c.in_ok-put_name_if_some-in-Some.ensures ∙ ap (λ (name : Option (List ℕ)). fold with_name before (as_list name)) c.segment_name.ensures);
    }
