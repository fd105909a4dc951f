-- The recording of the script that was read is the recording of the text.
use Rattle.std.proofs.Common.{◌≡◌, List, Some, Ok, subst}
use Rattle.pd_script.specs.Script.{script_of}
use Rattle.pd_script.specs.declared.script_events.Event.{Event}
use Rattle.pd_record.specs.Recording.{recorded_script_of, events_of}
use Rattle.pd_record.specs.PlacedScripts.{IsRead}
use Rattle.pd_record.proofs.Again.{Bases}
use Rattle.pd_record.proofs.Right.{on_ok, kept_recording, written_recording, settled_recording}
use Rattle.pd_record.proofs.recording.record_script_text.Goals as goal

pub returns-then-branch-clause-recorded : goal.returns-then-branch-clause-recorded
returns-then-branch-clause-recorded c =
    let laws : Bases = record { after = c.law_expiries_append_in_order_without_settings.ensures.packets; one_by_one = c.law_each_send_appends_one_packet.ensures; starts = c.law_clock_base_and_queue_bounded_per_event.ensures.start; steps = c.law_clock_base_and_queue_bounded_per_event.ensures.step; reasons = c.law_verdicts_have_reasons.ensures.reasons } in
    let read : IsRead (script_of c.args.lines.now) (Some c.in-Some.script) = subst (IsRead (script_of c.args.lines.now)) c.in-Some.is c.in_ok-script.ensures.read in
    let recorded_script : recorded_script_of c.in-Some.script.header.items c.in-Some.script.events.items c.args.settings.now ≡ Ok c.in_ok-recorded_script.recorded_script = subst (λ (es : List Event). recorded_script_of c.in-Some.script.header.items es c.args.settings.now ≡ Ok c.in_ok-recorded_script.recorded_script) c.as_slice.ensures.value c.in_ok-recorded_script.ensures in
    on_ok c.copy_lines_as_recording.result (kept_recording laws c.args.lines.now c.args.settings.now c.in_ok-recorded_script.recorded_script c.in-Some.script c.copy_lines_as_recording.result read recorded_script (c.in_ok-is_own_recording_without_trace.ensures.0 c.if-branch.true).1 c.copy_lines_as_recording.ensures.same) (λ x both. both.once)

pub returns-then-branch-clause-again : goal.returns-then-branch-clause-again
returns-then-branch-clause-again c =
    let laws : Bases = record { after = c.law_expiries_append_in_order_without_settings.ensures.packets; one_by_one = c.law_each_send_appends_one_packet.ensures; starts = c.law_clock_base_and_queue_bounded_per_event.ensures.start; steps = c.law_clock_base_and_queue_bounded_per_event.ensures.step; reasons = c.law_verdicts_have_reasons.ensures.reasons } in
    let read : IsRead (script_of c.args.lines.now) (Some c.in-Some.script) = subst (IsRead (script_of c.args.lines.now)) c.in-Some.is c.in_ok-script.ensures.read in
    let recorded_script : recorded_script_of c.in-Some.script.header.items c.in-Some.script.events.items c.args.settings.now ≡ Ok c.in_ok-recorded_script.recorded_script = subst (λ (es : List Event). recorded_script_of c.in-Some.script.header.items es c.args.settings.now ≡ Ok c.in_ok-recorded_script.recorded_script) c.as_slice.ensures.value c.in_ok-recorded_script.ensures in
    on_ok c.copy_lines_as_recording.result (kept_recording laws c.args.lines.now c.args.settings.now c.in_ok-recorded_script.recorded_script c.in-Some.script c.copy_lines_as_recording.result read recorded_script (c.in_ok-is_own_recording_without_trace.ensures.0 c.if-branch.true).1 c.copy_lines_as_recording.ensures.same) (λ x both. both.twice)

pub returns-clause-recorded : goal.returns-clause-recorded
returns-clause-recorded c =
    let laws : Bases = record { after = c.law_expiries_append_in_order_without_settings.ensures.packets; one_by_one = c.law_each_send_appends_one_packet.ensures; starts = c.law_clock_base_and_queue_bounded_per_event.ensures.start; steps = c.law_clock_base_and_queue_bounded_per_event.ensures.step; reasons = c.law_verdicts_have_reasons.ensures.reasons } in
    let read : IsRead (script_of c.args.lines.now) (Some c.in-Some.script) = subst (IsRead (script_of c.args.lines.now)) c.in-Some.is c.in_ok-script.ensures.read in
    let recorded_script : recorded_script_of c.in-Some.script.header.items c.in-Some.script.events.items c.args.settings.now ≡ Ok c.in_ok-recorded_script.recorded_script = subst (λ (es : List Event). recorded_script_of c.in-Some.script.header.items es c.args.settings.now ≡ Ok c.in_ok-recorded_script.recorded_script) c.as_slice.ensures.value c.in_ok-recorded_script.ensures in
    on_ok c.compose_and_reread.result (written_recording laws c.args.lines.now c.args.settings.now c.in_ok-recorded_script.recorded_script c.in-Some.script c.compose_and_reread.result read recorded_script c.compose_and_reread.ensures.written) (λ x both. both.once)

pub returns-clause-again : goal.returns-clause-again
returns-clause-again c =
    let laws : Bases = record { after = c.law_expiries_append_in_order_without_settings.ensures.packets; one_by_one = c.law_each_send_appends_one_packet.ensures; starts = c.law_clock_base_and_queue_bounded_per_event.ensures.start; steps = c.law_clock_base_and_queue_bounded_per_event.ensures.step; reasons = c.law_verdicts_have_reasons.ensures.reasons } in
    let read : IsRead (script_of c.args.lines.now) (Some c.in-Some.script) = subst (IsRead (script_of c.args.lines.now)) c.in-Some.is c.in_ok-script.ensures.read in
    let recorded_script : recorded_script_of c.in-Some.script.header.items c.in-Some.script.events.items c.args.settings.now ≡ Ok c.in_ok-recorded_script.recorded_script = subst (λ (es : List Event). recorded_script_of c.in-Some.script.header.items es c.args.settings.now ≡ Ok c.in_ok-recorded_script.recorded_script) c.as_slice.ensures.value c.in_ok-recorded_script.ensures in
    on_ok c.compose_and_reread.result (written_recording laws c.args.lines.now c.args.settings.now c.in_ok-recorded_script.recorded_script c.in-Some.script c.compose_and_reread.result read recorded_script c.compose_and_reread.ensures.written) (λ x both. both.twice)

pub returns-clause-settled : goal.returns-clause-settled
returns-clause-settled c =
    let laws : Bases = record { after = c.law_expiries_append_in_order_without_settings.ensures.packets; one_by_one = c.law_each_send_appends_one_packet.ensures; starts = c.law_clock_base_and_queue_bounded_per_event.ensures.start; steps = c.law_clock_base_and_queue_bounded_per_event.ensures.step; reasons = c.law_verdicts_have_reasons.ensures.reasons } in
    let read : IsRead (script_of c.args.lines.now) (Some c.in-Some.script) = subst (IsRead (script_of c.args.lines.now)) c.in-Some.is c.in_ok-script.ensures.read in
    let recorded_script : recorded_script_of c.in-Some.script.header.items c.in-Some.script.events.items c.args.settings.now ≡ Ok c.in_ok-recorded_script.recorded_script = subst (λ (es : List Event). recorded_script_of c.in-Some.script.header.items es c.args.settings.now ≡ Ok c.in_ok-recorded_script.recorded_script) c.as_slice.ensures.value c.in_ok-recorded_script.ensures in
    settled_recording c.args.lines.now c.args.settings.now c.in-Some.script.header.items (events_of c.in_ok-recorded_script.recorded_script) c.compose_and_reread.result c.compose_and_reread.ensures.written (written_recording laws c.args.lines.now c.args.settings.now c.in_ok-recorded_script.recorded_script c.in-Some.script c.compose_and_reread.result read recorded_script c.compose_and_reread.ensures.written)
