-- Each turn takes the event that comes next, and the last one that may come is kept where the end follows it.
use Rattle.std.proofs.Common.{◌≡◌, ◌∙◌, sym, suc, ◌+◌, ◌-◌, false, is_some, None, arith}
use Rattle.pd_script.specs.Script.{found_in, at_end}
use Rattle.pd_script.proofs.Finding.{found_got, found_last, found_over, found_fault, found_zero, in_front-append, in_front-none}
use Rattle.pd_script.proofs.cursor.Cursor.take_events_and_fault_if_any.Goals.{else-i-eq-MAX_EVENTS-via-then-i-eq-MAX_EVENTS+else-is_some, else-i-eq-MAX_EVENTS-via-else-i-eq-MAX_EVENTS}
use Rattle.pd_script.proofs.cursor.Cursor.take_events_and_fault_if_any.Goals as goal

pub returns-then-is_some : goal.returns-then-is_some
returns-then-is_some c =
    let n = 4096 - c.events.i in
    let next = rw c.in-After.is at c.in_ok-lookahead_line.ensures.next in
    let left = rw c.in-After.is at c.in_ok-lookahead_line.ensures.left in
    let one : n ≡ 1 = omega (arith, c.if-i-eq-MAX_EVENTS.true) in
    let some = sym c.is_some.ensures ∙ c.if-is_some.true in
    sym (in_front-none c.events.events c.in-After.lookahead_line) ∙ (rw (found_last n c.events.self c.read_event_into_giving_status.new.event c.in-After.field-0 c.in-After.lookahead_line c.read_event_into_giving_status.new.self one next left some) at c.events.invariant)

pub returns-in-End : goal.returns-in-End
returns-in-End c =
    let next = rw c.in-End.is at c.in_ok-lookahead_line.ensures.next in
    sym (in_front-none c.events.events None) ∙ (rw (found_over (4096 - c.events.i) c.events.self next) at c.events.invariant)

pub returns-in-Fault : goal.returns-in-Fault
returns-in-Fault c =
    let n = 4096 - c.events.i in
    let m = 4096 - c.events.i - 1 in
    let more : n ≡ suc m = omega (arith, c.events-test.true) in
    let next = rw c.in-Fault.is at c.in_ok-lookahead_line.ensures.next in
    sym (in_front-none c.events.events _) ∙ (rw (found_fault n m c.events.self c.in-Fault.line more next) at c.events.invariant)

pub events-preserved : goal.events-preserved
events-preserved c =
    let n = 4096 - c.events.i in
    let m = 4096 - c.events.i - 1 in
    let more : n ≡ suc m = omega (arith, c.events-test.true) in
    let less : 4096 - (c.events.i + 1) ≡ m = omega arith in
    let next = rw c.in-After.is at c.in_ok-lookahead_line.ensures.next in
    let left = rw c.in-After.is at c.in_ok-lookahead_line.ensures.left in
    let last : m ≡ 0 → is_some c.in-After.lookahead_line ≡ false = λ (none : m ≡ 0). (elim c.else-i-eq-MAX_EVENTS.branch [
      | else-i-eq-MAX_EVENTS-via-then-i-eq-MAX_EVENTS+else-is_some w ↦ sym w.is_some.ensures ∙ w.if-is_some.false
      | else-i-eq-MAX_EVENTS-via-else-i-eq-MAX_EVENTS w ↦ absurd (omega (arith, none, c.events-test.true, w.if-i-eq-MAX_EVENTS.false))
    ]) in
    let step = found_got n m c.events.self c.read_event_into_giving_status.new.event c.in-After.field-0 c.in-After.lookahead_line c.read_event_into_giving_status.new.self more next left last in
    rw (c.in_ok-push-in-After.ensures, less) (in_front-append c.events.events c.read_event_into_giving_status.new.event (found_in m c.read_event_into_giving_status.new.self) ∙ (rw step at c.events.invariant))

pub returns : goal.returns
returns c =
    let none_left : 4096 - c.events.i ≡ 0 = omega (arith, c.events-test.false) in
    rw c.line_of_next_token_if_any-fault.ensures (sym (in_front-none c.events.events (at_end c.events.self).fault) ∙ (rw (found_zero (4096 - c.events.i) c.events.self none_left) at c.events.invariant))
