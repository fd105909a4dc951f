-- Definitions that contracts of private functions cite and no public one does.
use Rattle.std.specs.Prelude.{ℕ, List, Option}
use Rattle.pd_lex.specs.Lexing.{items}
use Rattle.pd_lex.specs.declared.token.Place.{Place}
use Rattle.pd_script.specs.Items.{is_symbol}
use Rattle.pd_script.specs.Values.{sign}
use Rattle.pd_layout.specs.Canonical.{lines_between, first_outside}
use Rattle.pd_layout.specs.declared.line_cursor.LineCursor.{LineCursor}

-- the lines of a block
abbrev pub lines_of : LineCursor → List (List ℕ)
lines_of b = lines_between b.lines.now b.from b.until

-- where the bracket stands that closes the note of an answer, by the place of the equals sign before it
abbrev pub closing_of : List (List ℕ) → Place → Option Place
closing_of text place = first_outside (is_symbol (sign ")")) 0 (items text place)
