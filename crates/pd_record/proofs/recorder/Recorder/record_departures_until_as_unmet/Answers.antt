-- Each turn records the packet that leaves next, until none does.
use Rattle.std.proofs.Common.{◌≡◌, ◌≢◌, ◌+◌, ◌-◌, Some, None, nat_le, sym, ap, subst, ◌∙◌, arith}
use Rattle.pd_record.specs.Recorder.{RecorderView, leaves_next, left_by}
use Rattle.pd_record.specs.Inner.{Sound}
use Rattle.pd_record.specs.declared.record_error.RecordError.TheVariants.{OutOfMemory}
use Rattle.pd_record.proofs.Bounds.{unmet_sound}
use Rattle.pd_record.proofs.Leaving.{none_left, comes_zero, comes_over, comes_got, comes_refused}
use Rattle.pd_record.proofs.Whole.{gives_refused}
use Rattle.pd_record.proofs.recorder.Recorder.record_departures_until_as_unmet.Goals as goal

pub returns-in_default-clause-packets : goal.returns-in_default-clause-packets
returns-in_default-clause-packets c =
    let none : c.in_ok-sent.field-0 ≡ None = none_left _ c.in_default.not-Some in
    let next : leaves_next (λ due. nat_le due c.args.until) c.packets.self.run ≡ None = sym c.in_ok-sent.ensures ∙ none in
    sym c.packets.invariant.left
    ∙ comes_over (4096 - c.packets.counter) (4096 - (c.packets.counter + 1)) c.args.line c.args.until c.packets.before.items c.packets.self (omega (arith, c.packets-test.true)) next

pub returns-in_err-recorded-clause-packets : goal.returns-in_err-recorded-clause-packets
returns-in_err-recorded-clause-packets c =
    let next : leaves_next (λ due. nat_le due c.args.until) c.packets.self.run ≡ Some c.in-Some.sent = sym c.in_ok-sent.ensures ∙ c.in-Some.is in
    gives_refused _ (left_by c.args.line c.args.until c.args.self.now) c.from_residual-in_err-recorded.result c.in_err-recorded.field-0.0 c.record_sent_packet.new.self c.from_residual-in_err-recorded.ensures.1
    (λ (other : c.in_err-recorded.field-0.0 ≢ OutOfMemory).
    sym c.packets.invariant.left
    ∙ comes_refused (4096 - c.packets.counter) (4096 - (c.packets.counter + 1)) c.args.line c.args.until c.packets.before.items c.packets.self c.in-Some.sent c.in_err-recorded.field-0.0 (omega (arith, c.packets-test.true)) next (c.in_err-recorded.ensures.packet other))

pub packets-preserved : goal.packets-preserved
packets-preserved c =
    let next : leaves_next (λ due. nat_le due c.args.until) c.packets.self.run ≡ Some c.in-Some.sent = sym c.in_ok-sent.ensures ∙ c.in-Some.is in
    let step = comes_got (4096 - c.packets.counter) (4096 - (c.packets.counter + 1)) c.args.line c.args.until c.packets.before.items c.packets.self c.record_sent_packet.new.self c.in-Some.sent c.in_ok-recorded.recorded (omega (arith, c.packets-test.true)) next c.in_ok-recorded.ensures.packet in
    record {
      sound = subst Sound (sym c.in_ok-push_unmet_departure_time.ensures) (unmet_sound c.record_sent_packet.new.self c.in-Some.sent.at c.in_ok-recorded.ensures.sound c.in_ok-recorded.ensures.reached);
      base = ap (λ (t : RecorderView). t.base) c.in_ok-push_unmet_departure_time.ensures ∙ (c.in_ok-recorded.ensures.base ∙ c.packets.invariant.base);
      left = rw (c.in_ok-append_recorded_event.ensures, c.in_ok-push_unmet_departure_time.ensures) (sym step ∙ c.packets.invariant.left);
    }

pub returns-clause-packets : goal.returns-clause-packets
returns-clause-packets c other =
    sym c.packets.invariant.left
    ∙ comes_zero (4096 - c.packets.counter) c.args.line c.args.until c.packets.before.items c.packets.self (omega (arith, c.packets-test.false))
