-- One segment further, or the end.
use Rattle.std.proofs.Common.{ap, sym, ◌∙◌}
use Rattle.pd_seg.specs.declared.send_rule.SendRule.{SendRule}
use Rattle.pd_host.specs.Host.{with_packet}
use Rattle.pd_host.specs.Packets.{data_of}
use Rattle.pd_host.specs.Sending.{with_next_past_sacked}
use Rattle.pd_host.specs.Steps.{with_connection_and_packets}
use Rattle.pd_host.proofs.Sends.{sending_done, sending_goes}
use Rattle.pd_host.proofs.send.send_all_windows_and_nagle_permit.Goals as goal

pub loop-segment-preserved : goal.loop-segment-preserved
loop-segment-preserved c = λ s.
    sending_goes c.args.now s c.loop-segment.connection c.advance_next_past_sacked-in-Some.new.self c.loop-segment.outbox c.push_data_segment_to_outbox.new.outbox c.in-Some.segment
    (sym c.in-Some.ensures.value)
    (ap (λ (rule : SendRule). with_packet c.args.now rule (data_of c.loop-segment.connection c.in-Some.segment) c.loop-segment.outbox) (sym c.ordinary_rule-rule.ensures)
    ∙ c.in_ok-push_data_segment_to_outbox.ensures)
    (c.advance_next_past_sacked-in-Some.ensures ∙ ap with_next_past_sacked c.in_ok-note_segment_sent.ensures)
    ∙ c.loop-segment.invariant s

pub returns : goal.returns
returns c = λ s.
    sym (c.loop-segment.invariant s) ∙ sending_done c.args.now (with_connection_and_packets c.loop-segment.connection c.loop-segment.outbox s) (sym c.in_default.ensures.value)
