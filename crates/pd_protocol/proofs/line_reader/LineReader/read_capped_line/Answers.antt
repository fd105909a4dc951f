use Rattle.std.proofs.Common.{arith, inr}
use Rattle.pd_protocol.proofs.Fronts.{front_more, front_cut, front_end}
use Rattle.pd_protocol.proofs.Spending.{gave_more, held_none}
use Rattle.pd_protocol.proofs.line_reader.LineReader.read_capped_line.Goals as goal

pub returns-then-branch-clause-line : goal.returns-then-branch-clause-line
returns-then-branch-clause-line g c =
    let p = c.in_ok-take_octets_up_to_newline_capped.ensures.piece in
    front_cut _ _ _ p.0 c.loop-line.self.0 c.take_octets_up_to_newline_capped.new.self.0 _ (g.R.Read.remaining c.loop-line.reader) c.loop-line.invariant.front (rw c.if-branch.true at p.1) p.2

pub returns-then-not-branch-clause-line : goal.returns-then-not-branch-clause-line
returns-then-not-branch-clause-line g c =
    let p = c.in_ok-take_octets_up_to_newline_capped.ensures.piece in
    let e = rw c.if-not-branch.true at c.in_ok-refill_if_input_remains.ensures.end in
    front_end _ _ _ p.0 c.loop-line.self.0 c.take_octets_up_to_newline_capped.new.self.0 c.refill_if_input_remains.new.self.0 _ (g.R.Read.remaining c.loop-line.reader) (g.R.Read.remaining c.refill_if_input_remains.new.reader) c.loop-line.invariant.front (rw c.if-branch.false at p.1) p.2 c.in_ok-refill_if_input_remains.ensures.more e.0 e.1

pub loop-line-preserved : goal.loop-line-preserved
loop-line-preserved g c =
    let p = c.in_ok-take_octets_up_to_newline_capped.ensures.piece in
    record {
      room = c.take_octets_up_to_newline_capped.ensures.room;
      less = omega (arith, c.in_ok-take_octets_up_to_newline_capped.ensures.less, c.in_ok-refill_if_input_remains.ensures.less, c.loop-line.invariant.less);
      front = front_more _ _ _ p.0 c.loop-line.self.0 c.take_octets_up_to_newline_capped.new.self.0 c.refill_if_input_remains.new.self.0 _ (g.R.Read.remaining c.loop-line.reader) (g.R.Read.remaining c.refill_if_input_remains.new.reader) c.loop-line.invariant.front (rw c.if-branch.false at p.1) p.2 c.in_ok-refill_if_input_remains.ensures.more;
      gave = gave_more _ _ _ _ _ _ _ c.loop-line.invariant.gave c.in_ok-refill_if_input_remains.ensures.more (rw c.if-not-branch.false at c.in_ok-refill_if_input_remains.ensures.some) (rw c.take_octets_up_to_newline_capped.ensures.reads at c.in_ok-refill_if_input_remains.ensures.one);
      held = inr (held_none _ _ _ _ c.loop-line.invariant.held (rw c.if-branch.false at p.1));
    }
