use Rattle.std.proofs.Common.{ℕ, List, [], ◌∷◌, ◌++◌, ◌+◌, Bor, arith, take, ap, sym, ◌∙◌}
use Rattle.pdrecord.proofs.Joining.{next_line, written_first, written_turn}
use Rattle.pdrecord.proofs.trace_text.recording_octets.Goals as goal

pub loop-done-init : goal.loop-done-init
loop-done-init c = written_first c.args.with_trace c.new-out.result.items c.new-out.ensures.items

pub loop-done-preserved : goal.loop-done-preserved
loop-done-preserved c =
    let lines = c.args.recording.now.lines in
    let done = c.loop-done.done in
    let next = next_line lines done c.line.result _ (omega (arith, c.loop-done-test.true, c.loop-done.auto.done-end, c.len-done-end.ensures.len)) c.line.ensures.line ∙ ap (λ (b : Bor (List ℕ)). take done lines ++ b.now ∷ []) (sym c.unwrap_or.ensures) in
    written_turn c.args.with_trace (take done lines) (take (done + 1) lines) c.loop-done.out.items c.put_recording_line_refusing_trace.new.out.items c.put_trace_returning_whether_event_ends.new.out.items c.unwrap_or.result.now c.loop-done.invariant c.in_ok-put_recording_line_refusing_trace.ensures.line c.in_ok-put_trace_returning_whether_event_ends.ensures.line next
