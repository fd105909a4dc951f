-- A token that was found is the piece that is there.
use Rattle.std.proofs.Common.{◌+◌}
use Rattle.pd_lex.specs.declared.token.Place.{Place}
use Rattle.pd_lex.specs.Places.{octets_from, between}
use Rattle.pd_lex.specs.Lexing.{lexeme_of}
use Rattle.pd_lex.specs.Spellings.{here}
use Rattle.pd_lex.proofs.Longest.{longest_token}
use Rattle.pd_lex.proofs.Items.{token_line, items_at_token}
use Rattle.pd_lex.proofs.Steps.{step_whole}
use Rattle.pd_lex.proofs.next.set_fast_token_or_read_any.Goals as goal

pub returns : goal.returns
unfolding lexeme_of between
returns c =
    let lines = c.args.lines.now in
    let from = c.args.from in
    let kind = c.in-Some.plain.kind in
    let n = c.in-Some.plain.len in
    let to : Place = record { line = from.line; at = from.at + n } in
    let left = c.requires.left in
    let whole = step_whole lines from left.place left.line c.args.rest.now kind n left.rest_is (rw c.in-Some.is at c.requires.piece) left.some (rw c.in-Some.is at c.requires.within) in
    record {
      next = items_at_token lines c.requires.plain from to kind left.place whole.0 whole.1;
      cut = record { skipped = here; longest = longest_token (octets_from lines from) (octets_from lines to) kind whole.1; from = left.place; after = whole.0 };
      line = token_line lines c.requires.plain from to kind left.place whole.1;
      text = whole.3;
      after = (left.place.from_one, c.requires.known);
    }
