-- The header goes on by an item, or ends.
use Rattle.std.proofs.Common.{sym, subst}
use Rattle.pd_lex.specs.Places.{first_place}
use Rattle.pd_lex.specs.Lexing.{items}
use Rattle.pd_script.specs.Header.{HeaderView, HasEnd}
use Rattle.pd_script.proofs.HeaderLaws.{header_goes_on, header_stops, header_has_end}
use Rattle.pd_script.proofs.header_reader.read_header.Goals as goal

pub items-preserved : goal.items-preserved
items-preserved c =
    let at = rw c.end.ensures at c.in-Some.ensures.some in
    let more = header_goes_on c.args.lines.now c.items.header (items c.args.lines.now first_place) _ _ at c.items.invariant in
    rw c.in_ok-push.ensures more.0

pub returns-clause-end : goal.returns-clause-end
returns-clause-end c =
    let all = items c.args.lines.now first_place in
    let none = rw c.end.ensures at c.in_default.ensures.none in
    let stop = header_stops c.items.header (items c.args.lines.now c.items.header.end) all none c.items.invariant in
    subst (λ (h : HeaderView). HasEnd all h) (sym stop.0) (header_has_end all)
