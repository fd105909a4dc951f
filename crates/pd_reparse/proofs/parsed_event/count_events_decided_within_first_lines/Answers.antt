-- The last that is one of them has none but such before it.
use Rattle.std.proofs.Common.{◌∙◌, sym, ap, arith}
use Rattle.pd_reparse.specs.Reading.{is_decided_within_first_lines}
use Rattle.pd_reparse.specs.declared.parsed_event.ParsedEvent.{ParsedEvent}
use Rattle.pd_reparse.proofs.Rising.{all_so_far, none_so_far}
use Rattle.pd_reparse.proofs.parsed_event.count_events_decided_within_first_lines.Goals as goal

pub returns-then-is_decided_within_first_lines : goal.returns-then-is_decided_within_first_lines
returns-then-is_decided_within_first_lines c =
    let within = ap (λ (d : ParsedEvent). is_decided_within_first_lines c.args.same d.lookahead_line) (sym c.at.ensures) ∙ sym c.is_decided_within_first_lines.ensures ∙ c.if-is_decided_within_first_lines.true in
    all_so_far c.args.same c.later.count c.args.events.now c.at.result.now c.requires c.later.invariant.0 (omega (arith, c.later-test.true)) within c.later.invariant.1

pub returns : goal.returns
returns c = none_so_far c.args.same c.later.count c.args.events.now (omega (arith, c.later-test.false)) c.later.invariant.1
