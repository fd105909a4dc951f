use Rattle.std.proofs.Common.{ℕ, List, [], ◌∷◌, ◌++◌, option_and_then, ◌+◌, ◌∙◌, ◌≡◌, ap, arith}
use Rattle.pd_protocol.specs.Commands.{fitted}
use Rattle.pd_protocol.specs.Input.{IfKnown, to_come, work_left, Spends}
use Rattle.pd_protocol.specs.NextLines.{TakesLine}
use Rattle.pd_protocol.specs.NextCommand.{TakesLines, LinesFault}
use Rattle.pd_protocol.specs.declared.line_reader.NextLine.TheVariants.{Whole, Long, End}
use Rattle.pd_protocol.specs.declared.faults.ServeFault.TheVariants.{Truncated}
use Rattle.pd_protocol.proofs.Known.{known_then, known_map, known_same, fact_then}
use Rattle.pd_protocol.proofs.Spending.{spends_same, spends_then, spends_at_hand}
use Rattle.pd_protocol.proofs.BuildText.{SoFar, Added, known_added, so_added, so_first, so_whole, so_long, so_done, so_short}
use Rattle.pd_protocol.proofs.command.read_all_lines_or_none_if_too_large.Goals.{in-Whole+in_ok-add_line_or_mark_too_large-in-Whole, in-Long}
use Rattle.pd_protocol.proofs.command.read_all_lines_or_none_if_too_large.Goals as goal

pub returns-in-End-clause-err : goal.returns-in-End-clause-err
returns-in-End-clause-err g c =
    let none = rw c.if-branch.false at c.in_ok-add_next_line_if_buffered_whole.ensures.none in
    let far_now : IfKnown (SoFar c.loop-turn._turn c.add_next_line_if_buffered_whole.new.text_builder) (to_come c.args.line_reader.now (g.R.Read.remaining c.args.reader.now)) (to_come c.add_next_line_if_buffered_whole.new.line_reader (g.R.Read.remaining c.loop-turn.reader)) = rw (none.0, none.1) c.loop-turn.invariant.so_far in
    fact_then (SoFar c.loop-turn._turn c.add_next_line_if_buffered_whole.new.text_builder) (TakesLine 65536 End) (LinesFault Truncated c.args.count)
    (to_come c.args.line_reader.now (g.R.Read.remaining c.args.reader.now)) (to_come c.add_next_line_if_buffered_whole.new.line_reader (g.R.Read.remaining c.loop-turn.reader)) (to_come c.next_line_or_long_or_end.new.self (g.R.Read.remaining c.next_line_or_long_or_end.new.reader))
    (λ x y z s t. so_short c.loop-turn._turn c.args.count c.add_next_line_if_buffered_whole.new.text_builder x y c.loop-turn-test.true s t.0) far_now (rw c.in-End.is at c.in_ok-line.ensures.line)

pub loop-turn-preserved-then-branch : goal.loop-turn-preserved-then-branch
loop-turn-preserved-then-branch g c =
    let added = rw c.if-branch.true at c.in_ok-add_next_line_if_buffered_whole.ensures.some in
    let left = g.R.Read.remaining c.loop-turn.reader in
    let old = to_come c.args.line_reader.now (g.R.Read.remaining c.args.reader.now) in
    let next = SoFar (c.loop-turn._turn + 1) c.add_next_line_if_buffered_whole.new.text_builder in
    let kept = Added c.loop-turn.text_builder c.add_next_line_if_buffered_whole.new.text_builder in
    record {
      less = omega (arith, c.in_ok-add_next_line_if_buffered_whole.ensures.less, c.loop-turn.invariant.less);
      so_far = known_then (SoFar c.loop-turn._turn c.loop-turn.text_builder) kept next old (to_come c.loop-turn.line_reader left) (to_come c.add_next_line_if_buffered_whole.new.line_reader left)
          (λ x y z s t. so_added c.loop-turn._turn c.loop-turn.text_builder c.add_next_line_if_buffered_whole.new.text_builder x y z s t) c.loop-turn.invariant.so_far
          (known_added c.loop-turn.line_reader.0 c.add_next_line_if_buffered_whole.new.line_reader.0 left c.loop-turn.text_builder c.add_next_line_if_buffered_whole.new.text_builder added);
      spent = spends_then c.args.line_reader.now c.loop-turn.line_reader c.add_next_line_if_buffered_whole.new.line_reader (g.R.Read.remaining c.args.reader.now) left left c.loop-turn.invariant.spent
          (spends_at_hand c.loop-turn.line_reader c.add_next_line_if_buffered_whole.new.line_reader added.line left added.cut.1 c.add_next_line_if_buffered_whole.ensures.reads);
    }

pub loop-turn-preserved : goal.loop-turn-preserved
loop-turn-preserved g c =
    let none = rw c.if-branch.false at c.in_ok-add_next_line_if_buffered_whole.ensures.none in
    let far_now : IfKnown (SoFar c.loop-turn._turn c.add_next_line_if_buffered_whole.new.text_builder) (to_come c.args.line_reader.now (g.R.Read.remaining c.args.reader.now)) (to_come c.add_next_line_if_buffered_whole.new.line_reader (g.R.Read.remaining c.loop-turn.reader)) = rw (none.0, none.1) c.loop-turn.invariant.so_far in
    let spent_now : IfKnown (Spends c.args.line_reader.now c.add_next_line_if_buffered_whole.new.line_reader) (g.R.Read.remaining c.args.reader.now) (g.R.Read.remaining c.loop-turn.reader) = rw none.0 c.loop-turn.invariant.spent in
    let old = to_come c.args.line_reader.now (g.R.Read.remaining c.args.reader.now) in
    let mid = to_come c.add_next_line_if_buffered_whole.new.line_reader (g.R.Read.remaining c.loop-turn.reader) in
    let new = to_come c.next_line_or_long_or_end.new.self (g.R.Read.remaining c.next_line_or_long_or_end.new.reader) in
    let far = SoFar c.loop-turn._turn c.add_next_line_if_buffered_whole.new.text_builder in
    let next = SoFar (c.loop-turn._turn + 1) c.match-branch-4.text_builder in
    let back : c.match-branch-4.line_reader ≡ c.next_line_or_long_or_end.new.self =
    elim c.match-branch-4.branch [
      | in-Whole+in_ok-add_line_or_mark_too_large-in-Whole w ↦ w.line_reader-is ∙ w.recycle.ensures
      | in-Long w ↦ w.line_reader-is
    ] in
    let so_far : IfKnown next old new =
    elim c.match-branch-4.branch [
      | in-Whole+in_ok-add_line_or_mark_too_large-in-Whole w ↦ known_then far (TakesLine 65536 (Whole w.in-Whole.line)) next old mid new
          (λ x y z s t. so_whole c.loop-turn._turn c.add_next_line_if_buffered_whole.new.text_builder c.match-branch-4.text_builder w.in-Whole.line.items x y z (◌∙◌ {c = option_and_then (λ (texts : List (List ℕ)). fitted (texts ++ w.in-Whole.line.items ∷ [])) c.add_next_line_if_buffered_whole.new.text_builder} w.text_builder-is (rw w.as_slice.ensures.value at w.in_ok-add_line_or_mark_too_large-in-Whole.ensures)) s t) far_now (rw w.in-Whole.is at c.in_ok-line.ensures.line)
      | in-Long w ↦ known_then far (TakesLine 65536 Long) next old mid new
          (λ x y z s t. so_long c.loop-turn._turn c.add_next_line_if_buffered_whole.new.text_builder c.match-branch-4.text_builder x y z (w.text_builder-is ∙ w.mark_text_too_large.ensures) s t) far_now (rw w.in-Long.is at c.in_ok-line.ensures.line)
    ] in
    let spent : IfKnown (Spends c.add_next_line_if_buffered_whole.new.line_reader c.next_line_or_long_or_end.new.self) (g.R.Read.remaining c.loop-turn.reader) (g.R.Read.remaining c.next_line_or_long_or_end.new.reader) =
    elim c.match-branch-4.branch [
      | in-Whole+in_ok-add_line_or_mark_too_large-in-Whole w ↦ (rw w.in-Whole.is at c.in_ok-line.ensures.reads) tt
      | in-Long w ↦ (rw w.in-Long.is at c.in_ok-line.ensures.reads) tt
    ] in
    record {
      less = omega (arith, c.in_ok-line.ensures.less, c.loop-turn.invariant.less, ap work_left none.0, ap work_left back);
      so_far = rw back so_far;
      spent = rw back (spends_then c.args.line_reader.now c.add_next_line_if_buffered_whole.new.line_reader c.next_line_or_long_or_end.new.self (g.R.Read.remaining c.args.reader.now) (g.R.Read.remaining c.loop-turn.reader) (g.R.Read.remaining c.next_line_or_long_or_end.new.reader) spent_now spent);
    }

pub loop-turn-init : goal.loop-turn-init
loop-turn-init g c = record {
  less = omega arith;
  so_far = known_same (SoFar 0 c.in_ok-text_builder.text_builder) (to_come c.args.line_reader.now (g.R.Read.remaining c.args.reader.now)) (λ x. so_first c.in_ok-text_builder.text_builder x c.in_ok-text_builder.ensures);
  spent = spends_same c.args.line_reader.now (g.R.Read.remaining c.args.reader.now);
}

pub returns-clause-lines : goal.returns-clause-lines
returns-clause-lines g c = known_map (SoFar c.loop-turn._turn c.loop-turn.text_builder) (TakesLines c.args.count c.into_lines_unless_too_large.result) (to_come c.args.line_reader.now (g.R.Read.remaining c.args.reader.now)) (to_come c.loop-turn.line_reader (g.R.Read.remaining c.loop-turn.reader))
    (λ x y s. so_done c.loop-turn._turn c.args.count c.loop-turn.text_builder c.into_lines_unless_too_large.result x y (omega (arith, c.loop-turn-test.false, c.loop-turn.auto._turn-end)) c.into_lines_unless_too_large.ensures s) c.loop-turn.invariant.so_far
