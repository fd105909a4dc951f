-- An entry and a fast retransmit go on with this sending.
use Rattle.std.proofs.Common.{rules}
use Rattle.pd_host.proofs.ack_actions.send_segments_by_ack_action.Goals as goal

pub returns-in_err-retransmit_una_unless_sacked_and_set_high_rxt-in-Entry : goal.returns-in_err-retransmit_una_unless_sacked_and_set_high_rxt-in-Entry
returns-in_err-retransmit_una_unless_sacked_and_set_high_rxt-in-Entry c = λ s. let entered = c.in_err-retransmit_una_unless_sacked_and_set_high_rxt-in-Entry.ensures s in search rules

pub returns-in_ok-push_data_segment_to_outbox-in-FastRetransmit : goal.returns-in_ok-push_data_segment_to_outbox-in-FastRetransmit
returns-in_ok-push_data_segment_to_outbox-in-FastRetransmit c = λ s. let sent = c.send_all_windows_and_nagle_permit-in-FastRetransmit.ensures s in search rules
