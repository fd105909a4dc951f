-- The items from here on are those from the place on; only blanks and comments were passed over.
use Rattle.std.proofs.Common.{◌≡◌, ◌≤◌, length}
use Rattle.pd_lex.specs.Places.{octets_from}
use Rattle.pd_lex.specs.Spellings.{Skips}
use Rattle.pd_lex.specs.Lexing.{items}
use Rattle.pd_lex.proofs.next.set_lookahead_past_blanks_and_comments.Given as goal

abbrev pub invariant-gaps : goal.invariant-gaps
invariant-gaps l = record {
  one : 1 ≤ l.here.line;
  same : items l.lines l.fn.place ≡ items l.lines l.here;
  skipped : Skips (octets_from l.lines l.fn.place) (octets_from l.lines l.here);
}

abbrev pub decreases-gaps : goal.decreases-gaps
decreases-gaps l = length (octets_from l.lines l.here)
