-- One segment further, or the end.
use Rattle.std.proofs.Common.{◌+◌, ◌-◌, refl, sym, ap, ◌∙◌}
use Rattle.pd_seg.specs.declared.send_rule.SendRule.{SendRule}
use Rattle.pd_host.specs.Host.{with_packet}
use Rattle.pd_host.specs.Packets.{data_of}
use Rattle.pd_host.specs.Steps.{with_connection_and_packets}
use Rattle.pd_host.proofs.Recovering.{filling_done, filling_goes}
use Rattle.pd_host.proofs.ack_actions.send_nextseg_or_new_while_cwnd_exceeds_pipe.Goals as goal

pub loop-sent-preserved : goal.loop-sent-preserved
loop-sent-preserved c = λ s.
    let segment = c.segment-segment.result in
    filling_goes c.args.now c.args.filling s c.loop-sent.connection c.note_fill_sent_in_board_timer_and_congestion.new.self c.loop-sent.outbox c.push_data_segment_to_outbox.new.outbox
    c.loop-sent.pipe (c.loop-sent.pipe + (segment.end - segment.start)) c.in-Some.sent segment
    (sym c.in-Some.ensures.value) c.segment-segment.ensures
    (ap (λ (rule : SendRule). with_packet c.args.now rule (data_of c.loop-sent.connection segment) c.loop-sent.outbox) (sym c.rule.ensures)
    ∙ c.in_ok-push_data_segment_to_outbox.ensures)
    c.in_ok-note_fill_sent_in_board_timer_and_congestion.ensures refl
    ∙ c.loop-sent.invariant s

pub returns : goal.returns
returns c = λ s.
    sym (c.loop-sent.invariant s) ∙ filling_done c.args.now c.args.filling (with_connection_and_packets c.loop-sent.connection c.loop-sent.outbox s, c.loop-sent.pipe)
    (sym c.in_default.ensures.value)
