-- Each turn takes the event that comes next, and the last one that may come is kept where the end follows it.
use Rattle.std.proofs.Common.{◌≡◌, ◌∙◌, suc, ◌+◌, ◌-◌, true, false, is_some, Some, None, sym, ap, arith}
use Rattle.pd_script.specs.declared.parsed.EventsAndFault.{EventsAndFault}
use Rattle.pd_script.proofs.Finding.{found_got, found_last, found_over, found_fault, found_zero}
use Rattle.pd_record.proofs.Found.{got_ends, goes_further, none_left, one_longer, stops}
use Rattle.pd_record.proofs.placed_script.read_events_and_places_or_none.Goals as goal
use Rattle.pd_record.proofs.placed_script.read_events_and_places_or_none.Goals.{else-i-eq-MAX_EVENTS-via-then-i-eq-MAX_EVENTS+else-is_some, else-i-eq-MAX_EVENTS-via-else-i-eq-MAX_EVENTS}

pub returns-then-is_some : goal.returns-then-is_some
returns-then-is_some c =
    let n = 4096 - c.events.i in
    let next = rw c.in-After.is at c.in_ok-after.ensures.next in
    let left = rw c.in-After.is at c.in_ok-after.ensures.left in
    let one : n ≡ 1 = omega (arith, c.if-i-eq-MAX_EVENTS.true) in
    let some : is_some c.in-After.lookahead_line ≡ true = sym c.is_some.ensures ∙ c.if-is_some.true in
    let found = stops c.events.events.items _ _ c.in-After.lookahead_line c.events.invariant.found (found_last n c.events.reader c.read_next_event_into.new.event c.in-After.after c.in-After.lookahead_line c.read_next_event_into.new.self one next left some) in
    record { found = ap (λ (f : EventsAndFault). is_some f.fault) found ∙ some; few = tt }

pub returns-in-End : goal.returns-in-End
returns-in-End c =
    let next = rw c.in-End.is at c.in_ok-after.ensures.next in
    record {
      found = stops c.events.events.items _ _ None c.events.invariant.found (found_over (4096 - c.events.i) c.events.reader next);
      few = omega (arith, c.events.invariant.few, c.events-test.true);
    }

pub returns-in-Fault : goal.returns-in-Fault
returns-in-Fault c =
    let n = 4096 - c.events.i in
    let m = 4096 - (c.events.i + 1) in
    let more : n ≡ suc m = omega (arith, c.events-test.true) in
    let next = rw c.in-Fault.is at c.in_ok-after.ensures.next in
    let found = stops c.events.events.items _ _ (Some c.in-Fault.field-0) c.events.invariant.found (found_fault n m c.events.reader c.in-Fault.field-0 more next) in
    record { found = ap (λ (f : EventsAndFault). is_some f.fault) found; few = tt }

pub events-preserved : goal.events-preserved
events-preserved c =
    let n = 4096 - c.events.i in
    let m = 4096 - (c.events.i + 1) in
    let more : n ≡ suc m = omega (arith, c.events-test.true) in
    let next = rw c.in-After.is at c.in_ok-after.ensures.next in
    let left = rw c.in-After.is at c.in_ok-after.ensures.left in
    let ends : c.events.i + 1 ≡ 4096 → is_some c.in-After.lookahead_line ≡ false = λ (e : c.events.i + 1 ≡ 4096). (elim c.else-i-eq-MAX_EVENTS.branch [
      | else-i-eq-MAX_EVENTS-via-then-i-eq-MAX_EVENTS+else-is_some w ↦ sym w.is_some.ensures ∙ w.if-is_some.false
      | else-i-eq-MAX_EVENTS-via-else-i-eq-MAX_EVENTS w ↦ absurd (w.if-i-eq-MAX_EVENTS.false e)
    ]) in
    let last : m ≡ 0 → is_some c.in-After.lookahead_line ≡ false = λ (z : m ≡ 0). ends (omega (arith, z, c.events-test.true)) in
    let step = found_got n m c.events.reader c.read_next_event_into.new.event c.in-After.after c.in-After.lookahead_line c.read_next_event_into.new.self more next left last in
    record {
      found = goes_further c.events.events.items c.push_event_onto_list.new.events.items c.read_next_event_into.new.event _ _ _ c.in_ok-push_event_onto_list-in-After.ensures c.events.invariant.found step;
      few = one_longer c.events.events.items c.push_event_onto_list.new.events.items c.read_next_event_into.new.event c.events.i c.in_ok-push_event_onto_list-in-After.ensures c.events.invariant.few;
      last = λ e. got_ends c.events.reader c.read_next_event_into.new.event c.in-After.after c.in-After.lookahead_line c.read_next_event_into.new.self next left (ends e);
    }

pub returns : goal.returns
returns c =
    let all : c.events.i ≡ 4096 = omega (arith, c.events-test.false, c.events.auto.i-end) in
    let none : 4096 - c.events.i ≡ 0 = omega (arith, all) in
    record {
      found = stops c.events.events.items _ _ None c.events.invariant.found (found_zero (4096 - c.events.i) c.events.reader none ∙ none_left c.events.reader (c.events.invariant.last all));
      few = omega (arith, c.events.invariant.few, all);
    }
