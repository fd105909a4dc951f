-- The octets that were passed over are blanks.
use Rattle.std.proofs.Common.{◌≡◌, ◌+◌, ◌-◌, length, drop}
use Rattle.std.specs.List.{prefix_len}
use Rattle.pd_lex.specs.Octets.{is_blank}
use Rattle.pd_lex.proofs.places.first_nonblank_from.Given as goal

abbrev pub invariant-blanks : goal.invariant-blanks
invariant-blanks l = l.at + prefix_len is_blank (drop l.at l.line) ≡ l.fn.at + prefix_len is_blank (drop l.fn.at l.line)

abbrev pub decreases-blanks : goal.decreases-blanks
decreases-blanks l = length l.line - l.at
