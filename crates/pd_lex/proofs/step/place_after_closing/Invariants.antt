-- The end is that of what is left from the line on.
use Rattle.std.proofs.Common.{◌≡◌}
use Rattle.pd_lex.specs.Places.{octets_from, IsPlace}
use Rattle.pd_lex.specs.Pieces.{rest_after_closing}
use Rattle.pd_lex.proofs.step.place_after_closing.Given as goal

abbrev pub invariant-loop-line : goal.invariant-loop-line
invariant-loop-line l = record {
  place : IsPlace l.lines (record { line = l.line; at = l.at });
  same : rest_after_closing l.opener (octets_from l.lines l.fn.place) ≡ rest_after_closing l.opener (octets_from l.lines (record { line = l.line; at = l.at }));
}
