-- The events that were found on the way are those that are found from the start.
use Rattle.std.proofs.Common.{◌∙◌, ◌-◌, ℕ, ap, length, Option, None, arith}
use Rattle.pd_lex.specs.Lexing.{items}
use Rattle.pd_script.specs.Header.{HeaderView}
use Rattle.pd_reparse.specs.Reading.{ParsedEventsAndFault}
use Rattle.pd_reparse.proofs.OnTheWay.{none_more, at_limit}
use Rattle.pd_reparse.proofs.reparse.complete_reading_from_place.Goals as goal

pub returns-in-Stops : goal.returns-in-Stops
returns-in-Stops c =
    let front = c.args.front in
    let step = rw c.in-Stops.is at c.in_ok-read_event_or_stop_at_end_fault_or_limit.ensures in
    let found = none_more front (4096 - length front) (items c.args.lines.now c.args.place) c.events.events c.events.i c.events.reader c.in-Stops.fault c.events.invariant.1 (omega arith) step in
    c.in_ok-new-in-Stops.ensures ∙ ap (λ (h : HeaderView). record { header = h; events = c.events.events; fault = c.in-Stops.fault }) c.events.invariant.0 ∙ ap (λ (f : ParsedEventsAndFault). record { header = c.args.header; events = f.events; fault = f.fault }) found

pub returns : goal.returns
returns c =
    let none : Option ℕ = None in
    let front = c.args.front in
    let count = ap length c.reserve.ensures in
    let found = at_limit front (4096 - length front) (items c.args.lines.now c.args.place) c.events.events c.events.i c.events.reader c.events.invariant.1 (omega (arith, count)) in
    c.in_ok-new.ensures ∙ ap (λ (h : HeaderView). record { header = h; events = c.events.events; fault = none }) c.events.invariant.0 ∙ ap (λ (f : ParsedEventsAndFault). record { header = c.args.header; events = f.events; fault = f.fault }) found
