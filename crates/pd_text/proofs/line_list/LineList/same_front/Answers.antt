-- Each line either is equal or ends the front.
use Rattle.std.proofs.Common.{◌≡◌, ◌+◌, ◌≤◌, suc, true, false, arith, length, min}
use Rattle.std.specs.Str.{bytes_eq}
use Rattle.pd_text.proofs.SameLines.{is_not, front_step, front_ended}
use Rattle.pd_text.proofs.line_list.LineList.same_front.Goals as goal

pub returns-then-ne : goal.returns-then-ne
returns-then-ne c =
    let differ : bytes_eq c.at.result.now c.at-in-lines.result.now ≡ false = is_not c.ne.result _ true c.ne.ensures c.if-ne.true in
    let stops = front_step c.lines.i c.args.self.now c.args.other.now c.at.result.now c.at-in-lines.result.now false c.at.ensures.line c.at-in-lines.ensures.line differ in
    omega (arith, stops, c.lines.invariant)

pub lines-preserved : goal.lines-preserved
lines-preserved c =
    let same : bytes_eq c.at.result.now c.at-in-lines.result.now ≡ true = is_not c.ne.result _ false c.ne.ensures c.if-ne.false in
    let goes = front_step c.lines.i c.args.self.now c.args.other.now c.at.result.now c.at-in-lines.result.now true c.at.ensures.line c.at-in-lines.ensures.line same in
    let next : c.lines.i + 1 ≡ suc c.lines.i = omega arith in
    rw next (omega (arith, goes, c.lines.invariant))

pub returns : goal.returns
returns c =
    let most : min (length c.args.self.now) (length c.args.other.now) ≤ c.lines.i = omega arith in
    let ended = front_ended c.lines.i c.args.self.now c.args.other.now most in
    omega (arith, ended, c.lines.invariant)
