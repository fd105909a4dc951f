-- Syntax that people write in scripts and the grammar doesn't have.
use Rattle.std.specs.Prelude.{ℕ, ◌==◌, Bool, false, ◌&&◌, ◌||◌, List, [], ◌∷◌, Option, Some, None, if◌then◌else◌}
use Rattle.pd_script.specs.Values.{sign}
use Rattle.pd_refusal.specs.declared.refusals.foreign_syntax.ForeignSyntax.{ForeignSyntax}
use Rattle.pd_refusal.specs.declared.refusals.foreign_syntax.ForeignSyntax.TheVariants.{ByteOrderMark, Hash, Semicolon, AnyResult, EcnBits}

-- by the first octet, after a symbol of this octet
abbrev pub foreign_syntax_of_octet_after : ℕ → ℕ → Option ForeignSyntax
foreign_syntax_of_octet_after after octet =
    if octet == sign "#" then Some Hash
    else (if octet == sign ";" then Some Semicolon
    else (if (octet == sign "?") && (after == sign "=") then Some AnyResult
    else (if (octet == sign "[") && ((after == sign "<") || (after == sign ">")) then Some EcnBits
    else None)))

-- the octets EF BB BF are the byte order mark of UTF-8 (RFC 3629, section 6)
abbrev pub is_mark : List ℕ → Bool
is_mark (a ∷ b ∷ c ∷ octets) = (a == 239) && ((b == 187) && (c == 191))
is_mark _ = false

-- the foreign syntax with which octets begin, after a symbol of this octet
abbrev pub foreign_syntax_at : ℕ → List ℕ → Option ForeignSyntax
foreign_syntax_at after [] = None
foreign_syntax_at after (octet ∷ octets) = if is_mark (octet ∷ octets) then Some ByteOrderMark else foreign_syntax_of_octet_after after octet
