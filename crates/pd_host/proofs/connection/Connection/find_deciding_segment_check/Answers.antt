-- The chain of `or` gives the first ruling.
use Rattle.std.proofs.Common.{sym, ◌∙◌}
use Rattle.pd_host.specs.Arrivals.{not_run_if_data_syn_misplaced_fin_or_closed, failed_check_if_outside_receive_window, exact_or_challenged_check_if_rst, failed_check_if_ack_flag_missing, first_or_refused_ack_check_in_handshake, failed_check_if_ack_above_top_or_below_una}
use Rattle.pd_host.proofs.FirstAck.{first_ack}
use Rattle.pd_host.proofs.FirstFailedCheck.{first_of_six}
use Rattle.pd_host.proofs.connection.Connection.find_deciding_segment_check.Goals as goal

pub returns-clause-failed_check : goal.returns-clause-failed_check
returns-clause-failed_check c =
    let b = c.args.self.now in
    let s = c.args.segment.now in
    cc (first_of_six (not_run_if_data_syn_misplaced_fin_or_closed b s) (failed_check_if_outside_receive_window b s) (exact_or_challenged_check_if_rst b s) (failed_check_if_ack_flag_missing s) (first_or_refused_ack_check_in_handshake b s) (failed_check_if_ack_above_top_or_below_una b s))

pub returns-clause-first : goal.returns-clause-first
returns-clause-first c = λ h. first_ack c.args.self.now c.args.segment.now c.first_or_refused_ack_check_in_handshake.ensures.known (sym (returns-clause-failed_check c) ∙ h)
