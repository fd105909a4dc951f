-- Classes of octets: what one at the front of a line begins.
use Rattle.std.specs.Prelude.{ℕ, Bool, ◌&&◌, ◌||◌, not, ◌==◌, if◌then◌else◌}
use Rattle.pd_lex.specs.declared.classes.OctetClass.{OctetClass}
use Rattle.pd_lex.specs.declared.classes.OctetClass.TheVariants.{Digit, Letter, Point, Symbol, Other}
use Rattle.pd_lex.specs.Octets.{quote, dash, point, backquote, is_digit, is_word, is_printable}

-- `-`, `/`, `"`, a backquote or `%`, which may begin more than a symbol
abbrev pub begins_more : ℕ → Bool
begins_more b = (b == dash) || (b == 47) || (b == quote) || (b == backquote) || (b == 37)

-- the class of an octet: a digit, a letter or `_`, the point, an octet that can only be a symbol, or another
abbrev pub class_of : ℕ → OctetClass
class_of b =
    if is_digit b then Digit
    else (if is_word b then Letter
    else (if b == point then Point
    else (if is_printable b && not (begins_more b) then Symbol else Other)))
