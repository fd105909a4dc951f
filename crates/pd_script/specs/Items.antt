-- The items of a text, as the grammar sees them.
use Rattle.std.specs.Prelude.{ℕ, ◌&&◌, ◌||◌, ◌==◌, nat_le, nat_lt, Bool, true, false, List, [], ◌∷◌, length, is_some}
use Rattle.std.specs.List.{list_all}
use Rattle.std.specs.Str.{bytes_eq}
use Rattle.pd_lex.specs.declared.token.TokenKind.{TokenKind}
use Rattle.pd_lex.specs.declared.token.TokenKind.TheVariants as kinds
use Rattle.pd_lex.specs.Octets.{is_digit}
use Rattle.pd_lex.specs.Spellings.{IsSpelled}
use Rattle.pd_lex.specs.Tokens.{Item, lexeme, ending, bad}
use Rattle.pd_script.specs.Values.{sign, number, saturated_hex_number, microseconds, is_flag_letter, find_option_by_name}

-- digits alone
abbrev pub is_int_kind : TokenKind → Bool
is_int_kind kinds.Int = true
is_int_kind _ = false

-- `0x` with hexadecimal digits
abbrev pub is_hex_kind : TokenKind → Bool
is_hex_kind kinds.Hex = true
is_hex_kind _ = false

-- a word
abbrev pub is_word_kind : TokenKind → Bool
is_word_kind kinds.Word = true
is_word_kind _ = false

-- a symbol
abbrev pub is_symbol_kind : TokenKind → Bool
is_symbol_kind kinds.Symbol = true
is_symbol_kind _ = false

-- digits, or digits with a point
abbrev pub is_num_kind : TokenKind → Bool
is_num_kind kinds.Int = true
is_num_kind kinds.Decimal = true
is_num_kind _ = false

-- a token whose kind and octets pass a test
abbrev pub is_token : (TokenKind → List ℕ → Bool) → Item → Bool
is_token test (lexeme x) = test x.kind x.text
is_token test (ending line) = false
is_token test (bad line) = false

-- the octets of a token
abbrev pub text_of : Item → List ℕ
text_of (lexeme x) = x.text
text_of (ending line) = []
text_of (bad line) = []

-- the end of the text
abbrev pub is_end : Item → Bool
is_end (lexeme x) = false
is_end (ending line) = true
is_end (bad line) = false

-- no number of a time, a packet or a result is above 4,294,967,295
abbrev pub is_small : ℕ → Bool
is_small n = nat_le n 4294967295

-- an Int of any size
abbrev pub is_int_of_any_size : Item → Bool
is_int_of_any_size t = is_token (λ kind text. is_int_kind kind) t

-- an Int, where numbers have a bound
abbrev pub is_next_int_within_u32 : Item → Bool
is_next_int_within_u32 t = is_token (λ kind text. is_int_kind kind && is_small (number text)) t

-- one that is at least another
abbrev pub is_int_from : ℕ → Item → Bool
is_int_from least t = is_next_int_within_u32 t && nat_le least (number (text_of t))

-- one that is just this number
abbrev pub is_int_of : ℕ → Item → Bool
is_int_of n t = is_next_int_within_u32 t && (number (text_of t) == n)

-- a Hex, where numbers have a bound
abbrev pub is_next_hex_within_u32 : Item → Bool
is_next_hex_within_u32 t = is_token (λ kind text. is_hex_kind kind && is_small (saturated_hex_number text)) t

-- an Int or a Decimal, as seconds below 4,294,967,296: its whole part has the bound
abbrev pub is_num : Item → Bool
is_num t = is_token (λ kind text. is_num_kind kind && nat_lt (microseconds text) 4294967296000000) t

-- one that is at least so many microseconds
abbrev pub is_num_from : ℕ → Item → Bool
is_num_from least t = is_num t && nat_le least (microseconds (text_of t))

-- the kind of `...`
abbrev pub is_dots_kind : TokenKind → Bool
is_dots_kind kinds.Dots = true
is_dots_kind _ = false

-- the kind of a shell command in backquotes
abbrev pub is_command_kind : TokenKind → Bool
is_command_kind kinds.Cmd = true
is_command_kind _ = false

-- the kind of code between `%{` and `}%`
abbrev pub is_code_kind : TokenKind → Bool
is_code_kind kinds.Code = true
is_code_kind _ = false

-- `...`
abbrev pub is_dots : Item → Bool
is_dots t = is_token (λ kind text. is_dots_kind kind) t

-- a shell command in backquotes
abbrev pub is_command : Item → Bool
is_command t = is_token (λ kind text. is_command_kind kind) t

-- code between `%{` and `}%`
abbrev pub is_code : Item → Bool
is_code t = is_token (λ kind text. is_code_kind kind) t

-- any word
abbrev pub is_word : Item → Bool
is_word t = is_token (λ kind text. is_word_kind kind) t

-- this word
abbrev pub is_named : List ℕ → Item → Bool
is_named name t = is_token (λ kind text. is_word_kind kind && bytes_eq text name) t

-- a word of flags' letters alone
abbrev pub is_flags : Item → Bool
is_flags t = is_token (λ kind text. is_word_kind kind && list_all is_flag_letter text) t

-- a word that names a TCP option
abbrev pub is_option : Item → Bool
is_option t = is_token (λ kind text. is_word_kind kind && is_some (find_option_by_name text)) t

-- the symbol of an octet
abbrev pub is_symbol : ℕ → Item → Bool
is_symbol octet t = is_token (λ kind text. is_symbol_kind kind && bytes_eq text (octet ∷ [])) t

-- the kinds of header items: an option or a command
abbrev pub is_header_kind : TokenKind → Bool
is_header_kind kinds.Opt = true
is_header_kind kinds.Cmd = true
is_header_kind _ = false

-- a header item: an option or a command
abbrev pub is_header : Item → Bool
is_header t = is_token (λ kind text. is_header_kind kind) t

-- an item that begins an event
abbrev pub starts_event : Item → Bool
starts_event t = is_num t || is_symbol (sign "+") t || is_symbol (sign "*") t

-- an item that begins an event, or the end
abbrev pub starts_event_or_end : Item → Bool
starts_event_or_end t = starts_event t || is_end t

-- the octets are digits, one or more
abbrev pub is_nonempty_digits : List ℕ → Bool
is_nonempty_digits text = nat_lt 0 (length text) && list_all is_digit text

-- a token as it is spelled, or the end
abbrev pub IsPlain : Item → Type 0
IsPlain (lexeme x) = IsSpelled x.kind x.text
IsPlain (ending line) = Unit {0}
IsPlain (bad line) = ⊥

-- there is a next item, and it passes a test
abbrev pub next_is : (Item → Bool) → List Item → Bool
next_is test [] = false
next_is test (t ∷ ts) = test t
