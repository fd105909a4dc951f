-- Each answer of the next event is a step.
use Rattle.std.proofs.Common.{◌≡◌, true, false, is_some, sym, arith}
use Rattle.pd_reparse.proofs.OnTheWay.{at_end_is, fault_is, stops_at_limit, goes_further_on}
use Rattle.pd_reparse.proofs.reparse.read_event_or_stop_at_end_fault_or_limit.Goals.{else-more-eq0-via-then-more-eq0+else-is_some, else-more-eq0-via-else-more-eq0}
use Rattle.pd_reparse.proofs.reparse.read_event_or_stop_at_end_fault_or_limit.Goals as goal

pub returns-then-is_some : goal.returns-then-is_some
returns-then-is_some c =
    let next = rw c.in-After.is at c.in_ok-after.ensures.next in
    let some : is_some c.in-After.lookahead_line ≡ true = cc (c.is_some.ensures, c.if-is_some.true) in
    stops_at_limit c.args.reader.now c.args.more c.read_next_event_into.new.event c.in-After.after c.in-After.lookahead_line (sym next) (omega arith) some

pub returns-else-more-eq0 : goal.returns-else-more-eq0
returns-else-more-eq0 c =
    let next = rw c.in-After.is at c.in_ok-after.ensures.next in
    let there = rw c.in-After.is at c.in_ok-after.ensures.left in
    let few : c.args.more ≡ 0 → is_some c.in-After.lookahead_line ≡ false = elim c.else-more-eq0.branch [
      | else-more-eq0-via-then-more-eq0+else-is_some w ↦ λ z. (cc (w.is_some.ensures, w.if-is_some.false))
      | else-more-eq0-via-else-more-eq0 w ↦ λ z. absurd (omega (arith, z, w.if-more-eq0.false))
    ] in
    goes_further_on _ c.args.reader.now c.args.more c.read_next_event_into.new.event c.in-After.after c.in-After.lookahead_line (sym next) there few

pub returns-in-End : goal.returns-in-End
returns-in-End c =
    let next = rw c.in-End.is at c.in_ok-after.ensures.next in
    at_end_is _ c.args.reader.now (sym next)

pub returns-in-Fault : goal.returns-in-Fault
returns-in-Fault c =
    let next = rw c.in-Fault.is at c.in_ok-after.ensures.next in
    fault_is c.args.more c.in-Fault.line c.args.reader.now (sym next)
