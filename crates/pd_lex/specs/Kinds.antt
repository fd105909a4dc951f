-- Kinds of tokens.
use Rattle.std.specs.Prelude.{Bool, true, false}
use Rattle.pd_lex.specs.declared.token.TokenKind.{TokenKind}
use Rattle.pd_lex.specs.declared.token.TokenKind.TheVariants.{Int, Hex, Word, Decimal, Dots, Opt, Str, Cmd, Code, Symbol}

-- all but a Str, a Cmd and Code lie within one line
abbrev pub stays_in_line : TokenKind → Bool
stays_in_line Int = true
stays_in_line Hex = true
stays_in_line Word = true
stays_in_line Decimal = true
stays_in_line Dots = true
stays_in_line Opt = true
stays_in_line Str = false
stays_in_line Cmd = false
stays_in_line Code = false
stays_in_line Symbol = true
