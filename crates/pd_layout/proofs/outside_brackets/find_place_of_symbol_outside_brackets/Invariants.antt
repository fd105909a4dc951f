use Rattle.std.proofs.Common.{◌≡◌, ◌+◌, ◌≤◌, length}
use Rattle.pd_lex.specs.Lexing.{items}
use Rattle.pd_lex.specs.Next.{HasText, HasLineAfter}
use Rattle.pd_script.specs.Cursor.{left}
use Rattle.pd_script.specs.Items.{is_symbol}
use Rattle.pd_layout.specs.Canonical.{first_outside}
use Rattle.pd_layout.proofs.outside_brackets.find_place_of_symbol_outside_brackets.Given as goal

abbrev pub invariant-tokens : goal.invariant-tokens
invariant-tokens l = record {
  same : first_outside (is_symbol l.octet) l.depth (left l.lines l.lookahead.next) ≡ first_outside (is_symbol l.octet) 0 (items l.lines l.fn.from);
  few : l.depth + length (left l.lines l.lookahead.next) ≤ length (items l.lines l.fn.from);
  text : HasText l.lines l.lookahead.next;
  line : HasLineAfter l.lines l.lookahead.next l.lookahead.line.now;
}

abbrev pub decreases-tokens : goal.decreases-tokens
decreases-tokens l = length (left l.lines l.lookahead.next)
