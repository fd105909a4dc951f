-- The rest of the tokens holds the part that is looked for.
use Rattle.std.proofs.Common.{◌≡◌, length}
use Rattle.pd_lex.specs.Lexing.{items}
use Rattle.pd_refusal.specs.Parts.{before_first_token, found}
use Rattle.pd_refusal.proofs.parts.locate.find_part.Given as goal

abbrev pub invariant-tokens : goal.invariant-tokens
invariant-tokens l = found l.part l.before (items l.lines l.place) ≡ found l.part before_first_token (items l.lines l.fn.from)

abbrev pub decreases-tokens : goal.decreases-tokens
decreases-tokens l = length (items l.lines l.place)
