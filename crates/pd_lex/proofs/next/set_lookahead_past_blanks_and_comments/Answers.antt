-- Blanks, newlines and comments keep the items, and the last step gives the first of them.
use Rattle.std.proofs.Common.{◌∙◌, refl, ap, ◌<◌, length, arith}
use Rattle.std.proofs.lemmas.List.{length-drop, take_rest}
use Rattle.pd_lex.specs.declared.token.Place.{Place}
use Rattle.pd_lex.specs.Places.{octets_from, between}
use Rattle.pd_lex.specs.Lexing.{lexeme_of}
use Rattle.pd_lex.specs.Spellings.{here}
use Rattle.pd_lex.proofs.Rests.{octets_past}
use Rattle.pd_lex.proofs.Longest.{longest_token, stuck_at, Skips-over}
use Rattle.pd_lex.proofs.Items.{token_line, stuck_line, items_past, items_at_token, items_at_stray}
use Rattle.pd_lex.proofs.Blanks.{first_stands, then_gap, then_shorter, over_blanks, over_line, line_shorter}
use Rattle.pd_lex.proofs.FastTokens.{symbol_in}
use Rattle.pd_lex.proofs.TextLines.{line_is, line_within, line_past}
use Rattle.pd_lex.proofs.next.set_lookahead_past_blanks_and_comments.Goals as goal
use Rattle.pd_lex.proofs.next.set_lookahead_past_blanks_and_comments.Goals.{then-place-eq0, else-place-eq0}

pub gaps-init : goal.gaps-init
gaps-init c = elim c.if-place-eq0.branch [
  | then-place-eq0 w ↦ let on = first_stands c.args.lines.now c.args.place w.if-place-eq0.true in rw (w.here-is, w.first-here.ensures) (record { one = omega arith; same = on.same; skipped = on.skipped })
  | else-place-eq0 w ↦ rw w.here-is (record { one = omega (arith, w.if-place-eq0.false); same = refl; skipped = here })
]

pub returns-in_default : goal.returns-in_default
returns-in_default c =
    let past : length c.args.lines.now < c.gaps.here.line = line_past c.args.lines.now c.gaps.here.line c.gaps.invariant.one c.in_default.ensures.line in
    record { next = c.gaps.invariant.same ∙ items_past c.args.lines.now c.line.ensures.lines c.gaps.here past; cut = rw (octets_past c.args.lines.now c.gaps.here past) at c.gaps.invariant.skipped; line = tt; text = tt; after = tt }

pub overflow_add-here : goal.overflow_add-here
overflow_add-here c =
    let le = line_within c.args.lines.now c.gaps.here.line c.gaps.invariant.one c.in-Some.line.now c.in-Some.ensures.line in
    omega (arith, le, c.in-Some.ensures.fits.0)

pub gaps-smaller-then-at-line : goal.gaps-smaller-then-at-line
gaps-smaller-then-at-line c =
    let lines = c.args.lines.now in
    let le = line_within lines c.gaps.here.line c.gaps.invariant.one c.in-Some.line.now c.in-Some.ensures.line in
    let line = line_is lines c.gaps.here.line c.gaps.invariant.one c.in-Some.line.now c.in-Some.ensures.line in
    rw c.line_start-here.ensures (line_shorter lines c.in-Some.ensures.lines c.gaps.here c.gaps.invariant.one le c.first_nonblank_from-at.result (rw line at c.first_nonblank_from-at.ensures.place) (rw line at c.if-at-line.true))

pub gaps-preserved-then-at-line : goal.gaps-preserved-then-at-line
gaps-preserved-then-at-line c =
    let lines = c.args.lines.now in
    let le = line_within lines c.gaps.here.line c.gaps.invariant.one c.in-Some.line.now c.in-Some.ensures.line in
    let line = line_is lines c.gaps.here.line c.gaps.invariant.one c.in-Some.line.now c.in-Some.ensures.line in
    let on = over_line lines c.in-Some.ensures.lines c.gaps.here c.gaps.invariant.one le c.first_nonblank_from-at.result (rw line at c.first_nonblank_from-at.ensures.place) (rw line at c.if-at-line.true) in
    rw c.line_start-here.ensures (record { one = omega arith; same = c.gaps.invariant.same ∙ on.same; skipped = Skips-over c.gaps.invariant.skipped on.skipped })

pub step_at-requires : goal.step_at-requires
step_at-requires c =
    let lines = c.args.lines.now in
    let le = line_within lines c.gaps.here.line c.gaps.invariant.one c.in-Some.line.now c.in-Some.ensures.line in
    let line = line_is lines c.gaps.here.line c.gaps.invariant.one c.in-Some.line.now c.in-Some.ensures.line in
    let on = over_blanks lines c.in-Some.ensures.lines c.gaps.here c.gaps.invariant.one le c.first_nonblank_from-at.result (rw line at c.first_nonblank_from-at.ensures.place) (rw line at c.if-at-line.false) in
    let rest = take_rest c.in-Some.line.now c.first_nonblank_from-at.result in
    record { place = on.place; line = le; rest_is = rw (rest, line) refl; some = omega (arith, c.if-at-line.false, ap length rest, length-drop c.first_nonblank_from-at.result c.in-Some.line.now); small = omega (arith, c.if-at-line.false, c.first_nonblank_from-at.ensures.small, ap length rest, length-drop c.first_nonblank_from-at.result c.in-Some.line.now) }

pub gaps-smaller : goal.gaps-smaller
gaps-smaller c =
    let lines = c.args.lines.now in
    let le = line_within lines c.gaps.here.line c.gaps.invariant.one c.in-Some.line.now c.in-Some.ensures.line in
    let line = line_is lines c.gaps.here.line c.gaps.invariant.one c.in-Some.line.now c.in-Some.ensures.line in
    let on = over_blanks lines c.in-Some.ensures.lines c.gaps.here c.gaps.invariant.one le c.first_nonblank_from-at.result (rw line at c.first_nonblank_from-at.ensures.place) (rw line at c.if-at-line.false) in
    then_shorter lines c.in-Some.ensures.lines c.gaps.here (record { line = c.gaps.here.line; at = c.first_nonblank_from-at.result }) c.in-Gap.after on c.in-Gap.ensures.1

pub gaps-preserved : goal.gaps-preserved
gaps-preserved c =
    let lines = c.args.lines.now in
    let le = line_within lines c.gaps.here.line c.gaps.invariant.one c.in-Some.line.now c.in-Some.ensures.line in
    let line = line_is lines c.gaps.here.line c.gaps.invariant.one c.in-Some.line.now c.in-Some.ensures.line in
    let here = over_blanks lines c.in-Some.ensures.lines c.gaps.here c.gaps.invariant.one le c.first_nonblank_from-at.result (rw line at c.first_nonblank_from-at.ensures.place) (rw line at c.if-at-line.false) in
    let on = then_gap lines c.in-Some.ensures.lines c.gaps.here (record { line = c.gaps.here.line; at = c.first_nonblank_from-at.result }) c.in-Gap.after here c.in-Gap.ensures.0 c.in-Gap.ensures.1 in
    record { one = on.place.from_one; same = c.gaps.invariant.same ∙ on.same; skipped = Skips-over c.gaps.invariant.skipped on.skipped }

pub returns-in-Token : goal.returns-in-Token
unfolding lexeme_of between
returns-in-Token c =
    let lines = c.args.lines.now in
    let le = line_within lines c.gaps.here.line c.gaps.invariant.one c.in-Some.line.now c.in-Some.ensures.line in
    let line = line_is lines c.gaps.here.line c.gaps.invariant.one c.in-Some.line.now c.in-Some.ensures.line in
    let from : Place = record { line = c.gaps.here.line; at = c.first_nonblank_from-at.result } in
    let on = over_blanks lines c.in-Some.ensures.lines c.gaps.here c.gaps.invariant.one le c.first_nonblank_from-at.result (rw line at c.first_nonblank_from-at.ensures.place) (rw line at c.if-at-line.false) in
    record {
      next = c.gaps.invariant.same ∙ on.same ∙ items_at_token lines c.in-Some.ensures.lines from c.in-Token.to c.in-Token.kind on.place c.in-Token.ensures.0 c.in-Token.ensures.1;
      cut = record { skipped = Skips-over c.gaps.invariant.skipped on.skipped; longest = longest_token (octets_from lines from) (octets_from lines c.in-Token.to) c.in-Token.kind c.in-Token.ensures.1; from = on.place; after = c.in-Token.ensures.0 };
      line = token_line lines c.in-Some.ensures.lines from c.in-Token.to c.in-Token.kind on.place c.in-Token.ensures.1;
      text = c.in-Token.ensures.3;
      after = (c.in-Token.ensures.0.from_one, c.line_or_empty-lookahead.ensures);
    }

pub returns-in-Stray : goal.returns-in-Stray
returns-in-Stray c =
    let lines = c.args.lines.now in
    let le = line_within lines c.gaps.here.line c.gaps.invariant.one c.in-Some.line.now c.in-Some.ensures.line in
    let line = line_is lines c.gaps.here.line c.gaps.invariant.one c.in-Some.line.now c.in-Some.ensures.line in
    let from : Place = record { line = c.gaps.here.line; at = c.first_nonblank_from-at.result } in
    let on = over_blanks lines c.in-Some.ensures.lines c.gaps.here c.gaps.invariant.one le c.first_nonblank_from-at.result (rw line at c.first_nonblank_from-at.ensures.place) (rw line at c.if-at-line.false) in
    let stuck = stuck_at (octets_from lines from) c.in-Stray.ensures in
    record {
      next = c.gaps.invariant.same ∙ on.same ∙ items_at_stray lines c.in-Some.ensures.lines from on.place c.in-Stray.ensures;
      cut = record { at = from; skipped = Skips-over c.gaps.invariant.skipped on.skipped; stuck = stuck; place = on.place; line_is = refl };
      line = stuck_line lines c.in-Some.ensures.lines from on.place stuck;
      text = tt;
      after = tt;
    }

pub invariant_of-lookahead : goal.invariant_of-lookahead
invariant_of-lookahead c =
    let from : Place = record { line = c.gaps.here.line; at = c.first_nonblank_from-at.result } in
    record {
      symbol_is = λ symbol. rw c.first_octet_or_zero.ensures (symbol_in c.args.lines.now from c.in-Token.to c.in-Token.kind c.in-Token.text.now c.in-Token.ensures.1 c.in-Token.ensures.3 symbol);
      number_is = c.number_if_int_or_zero.ensures;
      in_line = c.in-Token.ensures.2;
    }

pub line_or_empty-lookahead-requires : goal.line_or_empty-lookahead-requires
line_or_empty-lookahead-requires c = c.in-Token.ensures.0.from_one
