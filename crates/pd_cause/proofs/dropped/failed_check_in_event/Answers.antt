-- Where no expiry lies at or before the moment, none comes.
use Rattle.std.proofs.Common.{◌≡◌, IfOk, Option, subst, sym, ◌∙◌}
use Rattle.pd_host.specs.declared.connection.segment_check.SegmentCheck.{SegmentCheck}
use Rattle.pd_host.specs.Arrivals.{failed_check_in}
use Rattle.pd_host.specs.Host.{HostView}
use Rattle.pd_host.specs.declared.endpoint.SenderState.{SenderState}
use Rattle.pd_run.specs.InboundSegment.{segment_in}
use Rattle.pd_run.specs.Step.{action_time_not_before_clock}
use Rattle.pd_cause.specs.Dropped.{failed_check_after_expiries}
use Rattle.pd_cause.proofs.TriggerLemmas.{none_due}
use Rattle.pd_cause.proofs.dropped.failed_check_in_event.Goals as goal

pub returns : goal.returns
returns c =
    let state : SenderState = c.args.run.now.host.state in
    let came = none_due (action_time_not_before_clock c.args.run.now c.args.event.now) c.action_time_not_before_clock-moment.result state c.action_time_not_before_clock-moment.ensures.acts (sym c.has_expiry_by.ensures ∙ c.if-has_expiry_by.false) in
    subst (λ came. IfOk c.failed_check_of_arriving_packet.result (λ (failed_check : Option SegmentCheck). failed_check ≡ failed_check_after_expiries c.args.packet.now came)) (sym came)
    (subst (λ (host : HostView). IfOk c.failed_check_of_arriving_packet.result (λ (failed_check : Option SegmentCheck). failed_check ≡ failed_check_in (segment_in c.args.packet.now) host.state)) c.host-2.ensures c.failed_check_of_arriving_packet.ensures)
