-- A common token is the piece after blanks and newlines; any other is read on from there.
use Rattle.std.proofs.Common.{◌∙◌, refl, ap, length, arith}
use Rattle.std.proofs.lemmas.List.{length-drop, take_rest}
use Rattle.pd_lex.specs.declared.token.Place.{Place}
use Rattle.pd_lex.specs.Spellings.{here}
use Rattle.pd_lex.proofs.Longest.{Skips-over}
use Rattle.pd_lex.proofs.Blanks.{over_blanks, over_line, next_on, cut_on}
use Rattle.pd_lex.proofs.TextLines.{line_from_one, line_is, line_within}
use Rattle.pd_lex.proofs.next.set_lookahead_to_token_past_blank_lines.Goals as goal

pub lines-init : goal.lines-init
lines-init c = record { same = refl; skipped = here }

pub returns-in_default : goal.returns-in_default
returns-in_default c =
    let read = c.set_lookahead_past_blanks_and_comments.ensures in
    let over = c.lines.invariant in
    record {
      next = next_on c.args.lines.now c.args.place c.lines.here over.same over.skipped c.set_lookahead_past_blanks_and_comments.new.lookahead.next read.next;
      cut = cut_on c.args.lines.now c.args.place c.lines.here over.same over.skipped c.set_lookahead_past_blanks_and_comments.new.lookahead.next read.cut;
      line = read.line;
      text = read.text;
      after = read.after;
    }

pub overflow_add-here : goal.overflow_add-here
overflow_add-here c =
    let lines = c.args.lines.now in
    let one = line_from_one c.lines.here.line c.in-Some.octets.now _ c.in-Some.ensures.line in
    let le = line_within lines c.lines.here.line one c.in-Some.octets.now c.in-Some.ensures.line in
    omega (arith, le, c.in-Some.ensures.fits.0)

pub lines-smaller : goal.lines-smaller
lines-smaller c =
    let lines = c.args.lines.now in
    let one = line_from_one c.lines.here.line c.in-Some.octets.now _ c.in-Some.ensures.line in
    let le = line_within lines c.lines.here.line one c.in-Some.octets.now c.in-Some.ensures.line in
    rw c.line_start-here.ensures (omega (arith, le))

pub lines-preserved : goal.lines-preserved
lines-preserved c =
    let lines = c.args.lines.now in
    let one = line_from_one c.lines.here.line c.in-Some.octets.now _ c.in-Some.ensures.line in
    let le = line_within lines c.lines.here.line one c.in-Some.octets.now c.in-Some.ensures.line in
    let line = line_is lines c.lines.here.line one c.in-Some.octets.now c.in-Some.ensures.line in
    let on = over_line lines c.in-Some.ensures.lines c.lines.here one le c.first_nonblank_from-at.result (rw line at c.first_nonblank_from-at.ensures.place) (rw line at c.if-at-octets.true) in
    rw c.line_start-here.ensures (record { same = c.lines.invariant.same ∙ on.same; skipped = Skips-over c.lines.invariant.skipped on.skipped })

pub set_lookahead_by_class_of_first_octet-requires-clause-left : goal.set_lookahead_by_class_of_first_octet-requires-clause-left
set_lookahead_by_class_of_first_octet-requires-clause-left c =
    let lines = c.args.lines.now in
    let one = line_from_one c.lines.here.line c.in-Some.octets.now _ c.in-Some.ensures.line in
    let le = line_within lines c.lines.here.line one c.in-Some.octets.now c.in-Some.ensures.line in
    let line = line_is lines c.lines.here.line one c.in-Some.octets.now c.in-Some.ensures.line in
    let on = over_blanks lines c.in-Some.ensures.lines c.lines.here one le c.first_nonblank_from-at.result (rw line at c.first_nonblank_from-at.ensures.place) (rw line at c.if-at-octets.false) in
    let rest = take_rest c.in-Some.octets.now c.first_nonblank_from-at.result in
    record { place = on.place; line = le; rest_is = rw (rest, line) refl; some = omega (arith, c.if-at-octets.false, ap length rest, length-drop c.first_nonblank_from-at.result c.in-Some.octets.now); small = omega (arith, c.if-at-octets.false, c.first_nonblank_from-at.ensures.small, ap length rest, length-drop c.first_nonblank_from-at.result c.in-Some.octets.now) }

pub returns-in-lines : goal.returns-in-lines
returns-in-lines c =
    let lines = c.args.lines.now in
    let one = line_from_one c.lines.here.line c.in-Some.octets.now _ c.in-Some.ensures.line in
    let le = line_within lines c.lines.here.line one c.in-Some.octets.now c.in-Some.ensures.line in
    let line = line_is lines c.lines.here.line one c.in-Some.octets.now c.in-Some.ensures.line in
    let from : Place = record { line = c.lines.here.line; at = c.first_nonblank_from-at.result } in
    let on = over_blanks lines c.in-Some.ensures.lines c.lines.here one le c.first_nonblank_from-at.result (rw line at c.first_nonblank_from-at.ensures.place) (rw line at c.if-at-octets.false) in
    let same = c.lines.invariant.same ∙ on.same in
    let skipped = Skips-over c.lines.invariant.skipped on.skipped in
    let read = c.set_lookahead_by_class_of_first_octet.ensures in
    record {
      next = next_on lines c.args.place from same skipped c.set_lookahead_by_class_of_first_octet.new.lookahead.next read.next;
      cut = cut_on lines c.args.place from same skipped c.set_lookahead_by_class_of_first_octet.new.lookahead.next read.cut;
      line = read.line;
      text = read.text;
      after = read.after;
    }

pub set_lookahead_by_class_of_first_octet-requires-clause-known : goal.set_lookahead_by_class_of_first_octet-requires-clause-known
set_lookahead_by_class_of_first_octet-requires-clause-known c =
    let one = line_from_one c.lines.here.line c.in-Some.octets.now _ c.in-Some.ensures.line in
    line_is c.args.lines.now c.lines.here.line one c.in-Some.octets.now c.in-Some.ensures.line
