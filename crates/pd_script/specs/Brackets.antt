-- Pairs of brackets.
use Rattle.std.specs.Prelude.{◌||◌, nat_lt, ℕ, Bool, List, [], ◌∷◌, length, Option, Some, None, if◌then◌else◌}
use Rattle.pd_lex.specs.Tokens.{Item, lexeme, ending, bad}
use Rattle.pd_script.specs.Items.{is_symbol}
use Rattle.pd_script.specs.Values.{sign}
use Rattle.pd_script.specs.declared.brackets.Bracket.{Bracket}
use Rattle.pd_script.specs.declared.brackets.Bracket.TheVariants as brackets

-- the octet that closes a pair
abbrev pub closing_octet : Bracket → ℕ
closing_octet brackets.Round = sign ")"
closing_octet brackets.Square = sign "]"
closing_octet brackets.Curly = sign "}"

-- the pair that an item opens
abbrev pub bracket_opened_by : Item → Option Bracket
bracket_opened_by t =
    if is_symbol (sign "(") t then Some brackets.Round
    else (if is_symbol (sign "[") t then Some brackets.Square else (if is_symbol (sign "{") t then Some brackets.Curly else None))

-- a closing bracket
abbrev pub is_closing_bracket : Item → Bool
is_closing_bracket t = is_symbol (sign ")") t || is_symbol (sign "]") t || is_symbol (sign "}") t

-- the pairs that are left open where a closing bracket fits the innermost
abbrev pub closed : List Bracket → Item → Option (List Bracket)
closed [] t = None
closed (b ∷ open_pairs) t = if is_symbol (closing_octet b) t then Some open_pairs else None

-- the pairs that are open after a token, by the pair that it opens: one more, of at most so many; or else one fewer, where
-- it closes the innermost
abbrev pub paired : ℕ → List Bracket → Item → Option Bracket → Option (List Bracket)
paired most open_pairs t (Some b) = if nat_lt (length open_pairs) most then Some (b ∷ open_pairs) else None
paired most open_pairs t None = if is_closing_bracket t then closed open_pairs t else Some open_pairs

-- the pairs that are open after an item, the innermost first: a bracket opens one, of at most so many, or closes the
-- innermost; other tokens change nothing, and neither the end nor a bad place can be there
abbrev pub pairs_after : ℕ → List Bracket → Item → Option (List Bracket)
pairs_after most open_pairs (lexeme x) = paired most open_pairs (lexeme x) (bracket_opened_by (lexeme x))
pairs_after most open_pairs (ending line) = None
pairs_after most open_pairs (bad line) = None
