-- The items from here on are those from the place on; only blanks were passed over.
use Rattle.std.proofs.Common.{◌≡◌, ◌+◌, ◌-◌, length}
use Rattle.pd_lex.specs.Places.{octets_from}
use Rattle.pd_lex.specs.Spellings.{Skips}
use Rattle.pd_lex.specs.Lexing.{items}
use Rattle.pd_lex.proofs.next.set_lookahead_to_token_past_blank_lines.Given as goal

abbrev pub invariant-lines : goal.invariant-lines
invariant-lines l = record {
  same : items l.lines l.fn.place ≡ items l.lines l.here;
  skipped : Skips (octets_from l.lines l.fn.place) (octets_from l.lines l.here);
}

abbrev pub decreases-lines : goal.decreases-lines
decreases-lines l = length l.lines + 1 - l.here.line
