-- The header of a script.
use Rattle.std.specs.Prelude.{◌≡◌, codes, ℕ, ◌&&◌, nat_le, nat_eq, List, length, take, drop, fold, if◌then◌else◌}
use Rattle.std.specs.List.{starts_with}
use Rattle.pd_lex.specs.declared.token.TokenKind.{TokenKind}
use Rattle.pd_lex.specs.declared.token.TokenKind.TheVariants as kinds
use Rattle.pd_lex.specs.declared.token.Place.{Place}
use Rattle.pd_lex.specs.Places.{first_place, place_after}
use Rattle.pd_lex.specs.Tokens.{Item, lexeme, ending, bad, line_of}
use Rattle.pd_script.specs.Items.{is_nonempty_digits}
use Rattle.pd_script.specs.Values.{number}
use Rattle.pd_script.specs.declared.script_header.HeaderItem.{HeaderItem}
use Rattle.pd_script.specs.declared.script_header.HeaderKind.{HeaderKind}
use Rattle.pd_script.specs.declared.script_header.HeaderKind.TheVariants as headers

-- an option: a tolerance is one or more digits for at most 1,000,000 microseconds
unfoldable pub option_kind : List ℕ → HeaderKind
option_kind text =
    let digits = drop 18 text in
    if starts_with nat_eq text (codes "--tolerance_usecs=") && is_nonempty_digits digits && nat_le (number digits) 1000000
    then headers.Tolerance (number digits)
    else headers.OtherOption

-- the header item of a token of this kind with these octets: an option is looked at, another is a command
abbrev pub kind_of_token : TokenKind → List ℕ → HeaderKind
kind_of_token kinds.Opt text = option_kind text
kind_of_token _ text = headers.Command

-- the same of an item; one that is no token counts as a command
abbrev pub header_kind : Item → HeaderKind
header_kind (lexeme x) = kind_of_token x.kind x.text
header_kind (ending line) = headers.Command
header_kind (bad line) = headers.Command

-- an item as a header item, with its line
abbrev pub header_item : Item → HeaderItem
header_item t = record { line = line_of t; kind = header_kind t }

-- a header: its items in order, and its end
pub record HeaderView : Type 0 where
  pub items : List HeaderItem
  pub end : Place

-- the place after an item where one stood: after a token's last octet
abbrev pub place_after_item : Place → Item → Place
place_after_item place (lexeme x) = place_after x.from x.text
place_after_item place (ending line) = place
place_after_item place (bad line) = place

-- the place after the last of some items of a text; where there are none, the text's first place
abbrev pub place_after_items : List Item → Place
place_after_items ts = fold place_after_item first_place ts

-- a header ends after the last of its items; one without items at the text's first place
abbrev pub HasEnd : List Item → HeaderView → Type 0
HasEnd ts header = header.end ≡ place_after_items (take (length header.items) ts)
