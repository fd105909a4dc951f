-- Only blanks are before what is read in the line that was looked up.
use Rattle.std.proofs.Common.{length, ap, arith}
use Rattle.pd_lex.specs.declared.token.Place.{Place}
use Rattle.pd_lex.proofs.Blanks.{over_blanks, next_on, cut_on}
use Rattle.pd_lex.proofs.TextLines.{line_there}
use Rattle.pd_lex.proofs.next.advance_lookahead_from_place_in_its_line.Goals as goal

pub returns-clause-next : goal.returns-clause-next
returns-clause-next c =
    let lines = c.args.lines.now in
    let one = c.requires.one in
    let line = c.requires.known in
    let le = line_there lines c.args.place.line (omega (arith, c.if-at-octets.false, ap length line)) one in
    let from : Place = record { line = c.args.place.line; at = c.first_nonblank_from-at.result } in
    let on = over_blanks lines c.law_invariant.ensures c.args.place one le c.first_nonblank_from-at.result (rw line at c.first_nonblank_from-at.ensures.place) (rw line at c.if-at-octets.false) in
    next_on lines c.args.place from on.same on.skipped c.set_lookahead_by_class_of_first_octet.new.lookahead.next c.set_lookahead_by_class_of_first_octet.ensures.next

pub returns-clause-cut : goal.returns-clause-cut
returns-clause-cut c =
    let lines = c.args.lines.now in
    let one = c.requires.one in
    let line = c.requires.known in
    let le = line_there lines c.args.place.line (omega (arith, c.if-at-octets.false, ap length line)) one in
    let from : Place = record { line = c.args.place.line; at = c.first_nonblank_from-at.result } in
    let on = over_blanks lines c.law_invariant.ensures c.args.place one le c.first_nonblank_from-at.result (rw line at c.first_nonblank_from-at.ensures.place) (rw line at c.if-at-octets.false) in
    cut_on lines c.args.place from on.same on.skipped c.set_lookahead_by_class_of_first_octet.new.lookahead.next c.set_lookahead_by_class_of_first_octet.ensures.cut
