-- Each line either has the end or is passed over.
use Rattle.std.proofs.Common.{◌≡◌, ◌∙◌, ap, length, drop, Some, None, arith}
use Rattle.std.specs.Option.{option_copied}
use Rattle.std.proofs.lemmas.List.{length-drop}
use Rattle.pd_lex.specs.Places.{line_at}
use Rattle.pd_lex.specs.Pieces.{rest_after_closing}
use Rattle.pd_lex.proofs.Endings.{end_suffix}
use Rattle.pd_lex.proofs.Steps.{closed_at, not_closed_at, not_closed}
use Rattle.pd_lex.proofs.step.place_after_closing.Goals as goal

pub overflow_sub-result : goal.overflow_sub-result
overflow_sub-result c =
    let e : rest_after_closing c.args.opener c.in_ok-rest.rest.now ≡ Some c.in-Some.after.now = cc (ap option_copied c.in-Some.is, c.rest_after_closing.ensures.after) in
    let last = end_suffix c.args.opener c.in_ok-rest.rest.now c.in-Some.after.now e in
    omega (arith, ap length last.2, length-drop last.0 c.in_ok-rest.rest.now)

pub returns-in-Some : goal.returns-in-Some
returns-in-Some c =
    let here : c.in_ok-rest.rest.now ≡ drop c.loop-line.at (line_at c.args.lines.now c.loop-line.line) = c.in_ok-rest.ensures.rest in
    let e : rest_after_closing c.args.opener (drop c.loop-line.at (line_at c.args.lines.now c.loop-line.line)) ≡ Some c.in-Some.after.now = cc (ap option_copied c.in-Some.is, c.rest_after_closing.ensures.after, here) in
    rw (c.loop-line.invariant.same, here) (closed_at c.args.lines.now (record { line = c.loop-line.line; at = c.loop-line.at }) c.loop-line.invariant.place (omega arith) c.args.opener c.in-Some.after.now e)

pub loop-line-preserved : goal.loop-line-preserved
loop-line-preserved c =
    let here : c.in_ok-rest.rest.now ≡ drop c.loop-line.at (line_at c.args.lines.now c.loop-line.line) = c.in_ok-rest.ensures.rest in
    let e : rest_after_closing c.args.opener (drop c.loop-line.at (line_at c.args.lines.now c.loop-line.line)) ≡ None = cc (ap option_copied c.in_default.is, c.rest_after_closing.ensures.after, here) in
    record {
      place = record { from_one = omega arith; within = omega arith; at = omega arith };
      same = c.loop-line.invariant.same ∙ not_closed_at c.args.lines.now (record { line = c.loop-line.line; at = c.loop-line.at }) c.loop-line.invariant.place (omega arith) c.args.opener e;
    }

pub returns : goal.returns
returns c = rw (c.loop-line.invariant.same, not_closed c.args.lines.now (record { line = c.loop-line.line; at = c.loop-line.at }) c.args.opener (omega arith)) tt
