-- Which part of an event, or of a header, a rule is about, and where it stands: the first token that begins such a part, by what
-- it is and by what stands before it.
use Rattle.std.specs.Prelude.{codes, ℕ, zero, suc, ◌+◌, ◌-◌, ◌≡◌, ◌==◌, nat_le, nat_lt, Bool, true, false, ◌&&◌, ◌||◌, List, [], ◌∷◌, length, take, slice_get, Option, Some, None, unwrap_or, if◌then◌else◌}
use Rattle.std.specs.List.{list_any}
use Rattle.std.specs.Option.{option_map_or}
use Rattle.std.specs.Str.{bytes_eq}
use Rattle.pd_lex.specs.Lexing.{items}
use Rattle.pd_lex.specs.Numbers.{capped_number}
use Rattle.pd_lex.specs.Tokens.{Item, lexeme, ending, bad}
use Rattle.pd_lex.specs.declared.token.Place.{Place}
use Rattle.pd_lex.specs.declared.token.TokenKind.{TokenKind}
use Rattle.pd_lex.specs.declared.token.TokenKind.TheVariants as kinds
use Rattle.pd_script.specs.Header.{option_kind}
use Rattle.pd_script.specs.Values.{sign}
use Rattle.pd_script.specs.declared.script_events.Event.{Event}
use Rattle.pd_script.specs.declared.script_header.HeaderKind.{HeaderKind}
use Rattle.pd_script.specs.declared.script_header.HeaderKind.TheVariants as header
use Rattle.pd_reparse.specs.Reading.{ReadingView}
use Rattle.pd_reparse.specs.declared.parsed_event.ParsedEvent.{ParsedEvent}
use Rattle.pd_run.specs.Limits.{is_long, written_times}
use Rattle.pd_refusal.specs.Rules.{limit_of}
use Rattle.pd_refusal.specs.Escape.{escaped}
use Rattle.pd_refusal.specs.declared.parts.rule_part.RulePart.{RulePart}
use Rattle.pd_refusal.specs.declared.parts.rule_part.RulePart.TheVariants as part
use Rattle.pd_refusal.specs.declared.parts.locate.ShownPart.{ShownPart}
use Rattle.pd_refusal.specs.declared.parts.token_roles.TokenRole.{TokenRole}
use Rattle.pd_refusal.specs.declared.parts.token_roles.TokenRole.TheVariants as sign_is
use Rattle.pd_refusal.specs.declared.parts.nesting.Nesting.{Nesting}
use Rattle.pd_refusal.specs.declared.rules.Rule.{Rule}
use Rattle.pd_refusal.specs.declared.rules.Rule.TheVariants.{Over, NotRun, NotTaken}
use Rattle.pd_refusal.specs.declared.rules.unsupported_inputs.UnsupportedInput.{UnsupportedInput}
use Rattle.pd_refusal.specs.declared.rules.unsupported_inputs.UnsupportedInput.TheVariants as input
use Rattle.pd_refusal.specs.declared.rules.limited_numbers.LimitedNumber.{LimitedNumber}
use Rattle.pd_refusal.specs.declared.rules.limited_numbers.LimitedNumber.TheVariants as number
use Rattle.pd_refusal.specs.declared.rules.unsupported_shapes.UnsupportedShape.{UnsupportedShape}
use Rattle.pd_refusal.specs.declared.rules.unsupported_shapes.UnsupportedShape.TheVariants as shape

-- ---- roles of tokens

-- a word
abbrev pub word_role : List ℕ → TokenRole
word_role text =
    if bytes_eq text (codes "ack") then sign_is.Ack
    else (if bytes_eq text (codes "win") then sign_is.Win
    else (if bytes_eq text (codes "mss") then sign_is.Mss
    else (if bytes_eq text (codes "wscale") then sign_is.Wscale
    else (if bytes_eq text (codes "sack") then sign_is.Sack
    else (if bytes_eq text (codes "sackOK") || (bytes_eq text (codes "nop") || (bytes_eq text (codes "eol") || bytes_eq text (codes "TS"))) then sign_is.OtherOption
    else sign_is.Word)))))

-- the symbol of an octet
abbrev pub octet_role : ℕ → TokenRole
octet_role octet =
    if octet == sign ":" then sign_is.Colon
    else (if octet == sign "," then sign_is.Comma
    else (if octet == sign "<" then sign_is.Arrow
    else (if (octet == sign ".") || (octet == sign "-") then sign_is.Point
    else (if octet == sign "(" then sign_is.Parenthesis
    else (if (octet == sign "[") || (octet == sign "{") then sign_is.Bracket
    else (if (octet == sign ")") || ((octet == sign "]") || (octet == sign "}")) then sign_is.Closing
    else sign_is.Other))))))

-- a symbol is of one octet
abbrev pub symbol_role : List ℕ → TokenRole
symbol_role (octet ∷ []) = octet_role octet
symbol_role _ = sign_is.Other

-- an option of the header
abbrev pub header_option_role : HeaderKind → TokenRole
header_option_role (header.Tolerance n) = sign_is.Tolerance
header_option_role _ = sign_is.HeaderOption

-- a token of a kind with these octets
abbrev pub role_of : TokenKind → List ℕ → TokenRole
role_of kinds.Int text = sign_is.Whole (capped_number text)
role_of kinds.Word text = word_role text
role_of kinds.Symbol text = symbol_role text
role_of kinds.Dots text = sign_is.Dots
role_of kinds.Cmd text = sign_is.Command
role_of kinds.Code text = sign_is.Code
role_of kinds.Opt text = header_option_role (option_kind text)
role_of kinds.Hex text = sign_is.Other
role_of kinds.Decimal text = sign_is.Other
role_of kinds.Str text = sign_is.Other

-- a whole number above a limit
abbrev pub is_number_above : ℕ → TokenRole → Bool
is_number_above limit (sign_is.Whole n) = nat_lt limit n
is_number_above limit _ = false

-- a whole number
abbrev pub is_whole_number : TokenRole → Bool
is_whole_number (sign_is.Whole n) = true
is_whole_number _ = false

-- a word that names a TCP option
abbrev pub is_named_option : TokenRole → Bool
is_named_option sign_is.Mss = true
is_named_option sign_is.Wscale = true
is_named_option sign_is.Sack = true
is_named_option sign_is.OtherOption = true
is_named_option _ = false

-- a word
abbrev pub is_word : TokenRole → Bool
is_word sign_is.Ack = true
is_word sign_is.Win = true
is_word sign_is.Word = true
is_word s = is_named_option s

-- flags may end with it: letters, `.` or `-`
abbrev pub can_end_flags : TokenRole → Bool
can_end_flags sign_is.Word = true
can_end_flags sign_is.Point = true
can_end_flags _ = false

-- an end of a SACK block may follow it: `sack`, `:` or the right end of the block before
abbrev pub can_precede_edge : TokenRole → Bool
can_precede_edge sign_is.Sack = true
can_precede_edge sign_is.Colon = true
can_precede_edge (sign_is.Whole n) = true
can_precede_edge _ = false

-- `...`
abbrev pub is_dots : TokenRole → Bool
is_dots sign_is.Dots = true
is_dots _ = false

-- a command
abbrev pub is_command : TokenRole → Bool
is_command sign_is.Command = true
is_command _ = false

-- code
abbrev pub is_code : TokenRole → Bool
is_code sign_is.Code = true
is_code _ = false

-- an option of the header, but for a tolerance within its limit
abbrev pub is_unsupported_header_option : TokenRole → Bool
is_unsupported_header_option sign_is.HeaderOption = true
is_unsupported_header_option _ = false

-- `<`
abbrev pub is_inbound_arrow : TokenRole → Bool
is_inbound_arrow sign_is.Arrow = true
is_inbound_arrow _ = false

-- `:`
abbrev pub is_colon : TokenRole → Bool
is_colon sign_is.Colon = true
is_colon _ = false

-- `,`
abbrev pub is_comma : TokenRole → Bool
is_comma sign_is.Comma = true
is_comma _ = false

-- `(`
abbrev pub is_opening_parenthesis : TokenRole → Bool
is_opening_parenthesis sign_is.Parenthesis = true
is_opening_parenthesis _ = false

-- `ack`
abbrev pub is_ack : TokenRole → Bool
is_ack sign_is.Ack = true
is_ack _ = false

-- `win`
abbrev pub is_win : TokenRole → Bool
is_win sign_is.Win = true
is_win _ = false

-- `mss`
abbrev pub is_mss : TokenRole → Bool
is_mss sign_is.Mss = true
is_mss _ = false

-- `wscale`
abbrev pub is_wscale : TokenRole → Bool
is_wscale sign_is.Wscale = true
is_wscale _ = false

-- ---- the tokens before a token

-- before the first one
abbrev pub before_first_token : Nesting
before_first_token = record { last = sign_is.Other; depth = 0; commas = 0; colons = 0 }

-- one more; a count stops at 32
abbrev pub capped_increment : ℕ → ℕ
capped_increment n = if nat_lt n 32 then n + 1 else n

-- how many brackets are open
abbrev pub depth_after : ℕ → TokenRole → ℕ
depth_after n sign_is.Parenthesis = capped_increment n
depth_after n sign_is.Bracket = capped_increment n
depth_after n sign_is.Closing = n - 1
depth_after n _ = n

-- how many commas came where one bracket was open
abbrev pub commas_at_depth_one_after : ℕ → ℕ → TokenRole → ℕ
commas_at_depth_one_after depth n sign_is.Comma = if depth == 1 then capped_increment n else n
commas_at_depth_one_after depth n _ = n

-- how many colons came since the last `sack`
abbrev pub colons_since_sack_after : ℕ → TokenRole → ℕ
colons_since_sack_after n sign_is.Sack = 0
colons_since_sack_after n sign_is.Colon = capped_increment n
colons_since_sack_after n _ = n

-- before the token after this one
abbrev pub after_role : Nesting → TokenRole → Nesting
after_role b s = record {
  last = s;
  depth = depth_after b.depth s;
  commas = commas_at_depth_one_after b.depth b.commas s;
  colons = colons_since_sack_after b.colons s;
}

-- ---- parts

-- a part of an option or of a call begins with a token, where this stands before it
abbrev pub begins_with_token_if_of_option_or_call : RulePart → Nesting → TokenRole → Bool
begins_with_token_if_of_option_or_call part.OfferedMss b s = is_mss b.last
begins_with_token_if_of_option_or_call part.LargeMss b s = is_mss b.last && is_number_above (limit_of number.Mss) s
begins_with_token_if_of_option_or_call part.LargeShift b s = is_wscale b.last && is_number_above (limit_of number.Shift) s
begins_with_token_if_of_option_or_call part.FifthBlock b s = (is_whole_number b.last && is_whole_number s) && (b.colons == 4)
begins_with_token_if_of_option_or_call part.LargeEdge b s = can_precede_edge b.last && is_number_above (limit_of number.Edge) s
begins_with_token_if_of_option_or_call part.ThirdArgument b s = (is_comma b.last && (b.depth == 1)) && (b.commas == 2)
begins_with_token_if_of_option_or_call _ b s = false

-- a part begins with a token, where this stands before it
abbrev pub is_part : RulePart → Nesting → TokenRole → Bool
is_part part.First b s = true
is_part part.Dots b s = is_dots s
is_part part.Command b s = is_command s
is_part part.Code b s = is_code s
is_part part.HeaderOption b s = is_unsupported_header_option s
is_part part.Word b s = is_word s
is_part part.Arrow b s = is_inbound_arrow s
is_part part.Start b s = can_end_flags b.last && is_whole_number s
is_part part.End b s = is_colon b.last
is_part part.Length b s = is_opening_parenthesis b.last
is_part part.AckNumber b s = is_ack b.last
is_part part.Window b s = is_win b.last
is_part part.Options b s = is_named_option s
is_part part.OfferedMss b s = begins_with_token_if_of_option_or_call part.OfferedMss b s
is_part part.LargeMss b s = begins_with_token_if_of_option_or_call part.LargeMss b s
is_part part.LargeShift b s = begins_with_token_if_of_option_or_call part.LargeShift b s
is_part part.FifthBlock b s = begins_with_token_if_of_option_or_call part.FifthBlock b s
is_part part.LargeEdge b s = begins_with_token_if_of_option_or_call part.LargeEdge b s
is_part part.ThirdArgument b s = begins_with_token_if_of_option_or_call part.ThirdArgument b s

-- where the first of some tokens stands with which a part begins, where this stands before them
abbrev pub found : RulePart → Nesting → List Item → Option Place
found p b [] = None
found p b (lexeme x ∷ ts) = if is_part p b (role_of x.kind x.text) then Some x.from else found p (after_role b (role_of x.kind x.text)) ts
found p b (ending line ∷ ts) = None
found p b (bad line ∷ ts) = None

-- where the first such part from a place on begins; that place where there is none
abbrev pub place_of_part_or_from : RulePart → List (List ℕ) → Place → Place
place_of_part_or_from p lines from = unwrap_or (found p before_first_token (items lines from)) from

-- ---- the parts that rules are about

-- a time over its limit, or else the end of a blocking call
abbrev pub overlong_time_or_blocking_end_part : Event → RulePart
overlong_time_or_blocking_end_part e = if list_any is_long (written_times e.time) then part.First else part.Dots

-- a number over its limit; a full outbox is about the event
abbrev pub part_of_number_over_limit : LimitedNumber → Event → RulePart
part_of_number_over_limit number.Time e = overlong_time_or_blocking_end_part e
part_of_number_over_limit number.Start e = part.Start
part_of_number_over_limit number.End e = part.End
part_of_number_over_limit number.Ack e = part.AckNumber
part_of_number_over_limit number.Window e = part.Window
part_of_number_over_limit number.Options e = part.Options
part_of_number_over_limit number.Mss e = part.LargeMss
part_of_number_over_limit number.Shift e = part.LargeShift
part_of_number_over_limit number.Blocks e = part.FifthBlock
part_of_number_over_limit number.Edge e = part.LargeEdge
part_of_number_over_limit number.Write e = part.ThirdArgument
part_of_number_over_limit number.Outbox e = part.First

-- a shape that isn't run
abbrev pub part_of_unsupported_shape : UnsupportedShape → RulePart
part_of_unsupported_shape shape.HeaderOption = part.HeaderOption
part_of_unsupported_shape shape.HeaderCommand = part.Command
part_of_unsupported_shape shape.Blocking = part.Dots
part_of_unsupported_shape shape.Command = part.Command
part_of_unsupported_shape shape.Code = part.Code
part_of_unsupported_shape shape.InboundTime = part.First
part_of_unsupported_shape shape.CallTime = part.First
part_of_unsupported_shape shape.Flag = part.Word
part_of_unsupported_shape shape.CallName = part.Word
part_of_unsupported_shape shape.CallShape = part.Word

-- an input that isn't run in the sender's state: the call's name, or of a packet what makes it so
abbrev pub part_of_unsupported_input : UnsupportedInput → RulePart
part_of_unsupported_input input.SecondSocket = part.Word
part_of_unsupported_input input.ListenerClose = part.Word
part_of_unsupported_input input.NotListening = part.Arrow
part_of_unsupported_input input.NotSyn = part.Arrow
part_of_unsupported_input input.SmallMss = part.OfferedMss
part_of_unsupported_input input.Payload = part.Length
part_of_unsupported_input input.SecondSyn = part.Word
part_of_unsupported_input input.StrayFin = part.Word
part_of_unsupported_input input.AfterReset = part.Arrow
part_of_unsupported_input input.AfterFins = part.Arrow

-- the part of an event that the rule which stops a script there is about
abbrev pub part_of : Rule → Event → RulePart
part_of (Over n) e = part_of_number_over_limit n e
part_of (NotRun s) e = part_of_unsupported_shape s
part_of (NotTaken i) e = part_of_unsupported_input i

-- the part of a header item that the rule which stops it there is about
abbrev pub rule_part_of_header_item : HeaderKind → RulePart
rule_part_of_header_item header.Command = part.Command
rule_part_of_header_item _ = part.HeaderOption

-- ---- places

-- where the event of a text stands that comes after so many others: at the token after those, the first one after the header
abbrev pub place_of_event_after_passed : ReadingView → ℕ → Place
place_of_event_after_passed r zero = r.header.end
place_of_event_after_passed r (suc n) = option_map_or (λ (d : ParsedEvent). d.after) (slice_get r.events n) r.header.end

-- a line of a text, counted from 1; nothing outside of it
abbrev pub line_or_empty : List (List ℕ) → ℕ → List ℕ
line_or_empty lines n = unwrap_or (if nat_le 1 n then slice_get lines (n - 1) else None) []

-- a text is shown at a place: its line as it is shown, and how many octets of that are shown for those before the place
pub record IsShownAt (lines : List (List ℕ)) (p : Place) (reported : ShownPart) : Type 0 where
  pub line : reported.line ≡ p.line
  pub text : reported.text.items ≡ escaped (line_or_empty lines p.line)
  pub column : reported.column ≡ length (escaped (take p.at (line_or_empty lines p.line)))
