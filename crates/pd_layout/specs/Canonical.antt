-- When a text is laid out as recordings are.
use Rattle.std.specs.Prelude.{codes, ℕ, ◌+◌, ◌-◌, ◌==◌, Bool, true, false, not, ◌&&◌, ◌||◌, List, [], ◌∷◌, length, take, drop, Option, Some, None, unwrap_or, is_some, bytes_eq, if◌then◌else◌, IsTrue}
use Rattle.std.specs.Char.{is_ascii_alphanumeric}
use Rattle.std.specs.List.{position}
use Rattle.std.specs.Option.{option_map, option_map_or}
use Rattle.pd_lex.specs.Lexing.{items}
use Rattle.pd_lex.specs.Octets.{is_blank}
use Rattle.pd_lex.specs.Tokens.{Item}
use Rattle.pd_lex.specs.declared.token.Place.{Place}
use Rattle.pd_script.specs.Brackets.{bracket_opened_by, is_closing_bracket}
use Rattle.pd_script.specs.Items.{is_symbol}
use Rattle.pd_script.specs.Next.{place_of}
use Rattle.pd_script.specs.Script.{script_of}
use Rattle.pd_script.specs.Values.{sign}
use Rattle.pd_script.specs.declared.calls.Call.{Call}
use Rattle.pd_script.specs.declared.calls.ErrorName.{ErrorName}
use Rattle.pd_script.specs.declared.calls.ErrorName.TheVariants as named
use Rattle.pd_script.specs.declared.calls.ExpectedResult.{ExpectedResult}
use Rattle.pd_script.specs.declared.calls.ExpectedResult.TheVariants.{Int, Hex, Negative}
use Rattle.pd_script.specs.declared.script_events.Action.{Action}
use Rattle.pd_script.specs.declared.script_events.Action.TheVariants as actions
use Rattle.pd_script.specs.declared.script_events.Event.{Event}
use Rattle.pd_script.specs.declared.script_header.HeaderItem.{HeaderItem}
use Rattle.pd_script.specs.declared.timing.Time.{Time}
use Rattle.pd_seg.specs.declared.call_results.Answer.{Answer}
use Rattle.pd_seg.specs.declared.call_results.Answer.TheVariants.{Number, Error}
use Rattle.pd_seg.specs.declared.call_results.Errno.{Errno}
use Rattle.pd_seg.specs.declared.call_results.Errno.TheVariants as answered
use Rattle.pd_print.specs.Answers.{answer_text}
use Rattle.pd_print.specs.Numbers.{time_text}
use Rattle.pd_print.specs.Packets.{event_text}
use Rattle.pd_print.specs.declared.packet_texts.Direction.TheVariants.{Inbound, Outbound}
use Rattle.pd_layout.specs.Traces.{is_single_trace_line}

-- octets are at the front of a line, and what follows them passes a test
abbrev pub after_octets : List ℕ → (List ℕ → Bool) → List ℕ → Bool
after_octets octets test line = bytes_eq (take (length octets) line) octets && test (drop (length octets) line)

-- ---- comments and empty lines

-- the octets after the end of a comment in a line; None where the comment goes on in the next line
abbrev pub find_rest_after_comment_end : List ℕ → Option (List ℕ)
find_rest_after_comment_end [] = None
find_rest_after_comment_end (a ∷ []) = None
find_rest_after_comment_end (a ∷ b ∷ s) = if a == 42 && b == 47 then Some s else find_rest_after_comment_end (b ∷ s)

-- a line within a comment, whose end nothing follows: whether the comment goes on in the next line; None where something does
abbrev pub open_comment_goes_on_if_nothing_after : List ℕ → Option Bool
open_comment_goes_on_if_nothing_after line = option_map_or (λ rest. if length rest == 0 then Some false else None) (find_rest_after_comment_end line) (Some true)

-- a comment alone in its line, after one blank where it looks like a line of a trace: whether it goes on in the next line;
-- None where the line is no such comment
abbrev pub comment : List ℕ → Option Bool
comment line =
    if after_octets (codes " ") is_single_trace_line line then Some false
    else (if after_octets (codes "//") (λ _. not (is_single_trace_line line)) line then Some false
    else (if after_octets (codes "/*") (λ _. true) line then open_comment_goes_on_if_nothing_after (drop 2 line) else None))

-- a line in front of an event: an empty one or a comment; or a line within a comment
abbrev pub comment_goes_on_if_empty_or_comment : Bool → List ℕ → Option Bool
comment_goes_on_if_empty_or_comment true line = open_comment_goes_on_if_nothing_after line
comment_goes_on_if_empty_or_comment false line = if length line == 0 then Some false else comment line

-- lines in front of an event, the first of which may be within a comment
abbrev pub lead : Bool → List (List ℕ) → Bool
lead inside [] = not inside
lead inside (line ∷ lines) = option_map_or (λ more. lead more lines) (comment_goes_on_if_empty_or_comment inside line) false

-- the rest of an event's line: comments, each after one blank, or the rest of one and further ones; whether the
-- last of them goes on in the next line
abbrev pub trail : Bool → List ℕ → Option Bool
trail true [] = Some true
trail true (a ∷ []) = Some true
trail true (a ∷ b ∷ s) = if a == 42 && b == 47 then trail false s else trail true (b ∷ s)
trail false [] = Some false
trail false (a ∷ []) = None
trail false (a ∷ b ∷ []) = None
trail false (a ∷ b ∷ c ∷ s) = if a == 32 && b == 47 then (if c == 47 then Some false else (if c == 42 then trail true s else None)) else None

-- the gap after an event up to the next one: comments in its line, and lines in front of the next one
abbrev pub gap : List (List ℕ) → List ℕ → Bool
gap lines rest = option_map_or (λ inside. lead inside lines) (trail false rest) false

-- ---- calls

-- how many brackets are open after an item, where so many are before it
abbrev pub depth_after_token : ℕ → Item → ℕ
depth_after_token depth t = if is_some (bracket_opened_by t) then depth + 1 else (if is_closing_bracket t then depth - 1 else depth)

-- where the first of some items stands that passes a test and leaves no bracket open, where so many are open before them; None
-- where there is none
abbrev pub first_outside : (Item → Bool) → ℕ → List Item → Option Place
first_outside test depth [] = None
first_outside test depth (t ∷ ts) =
    let now = depth_after_token depth t in if test t && now == 0 then Some (place_of t) else first_outside test now ts

-- the first of some lines passes a test
abbrev pub first_line : (List (List ℕ) → List ℕ → Bool) → List (List ℕ) → Bool
first_line test [] = false
first_line test (line ∷ lines) = test lines line

-- the lines of a text from one up to another, counted from 0
abbrev pub lines_between : List (List ℕ) → ℕ → ℕ → List (List ℕ)
lines_between text from to = take (to - from) (drop from text)

-- the rest of a line at a place, and the lines after it up to another, pass a test
abbrev pub passes_at : (List (List ℕ) → List ℕ → Bool) → List (List ℕ) → ℕ → Place → Bool
passes_at test text until place = first_line (λ lines line. test lines (drop place.at line)) (lines_between text (place.line - 1) until)

-- the end of a note, and a gap
abbrev pub note_end : List (List ℕ) → List ℕ → Bool
note_end lines = after_octets (codes ")") (gap lines)

-- the text after an answer: a gap; or a note up to the bracket that closes it, and a gap
abbrev pub note_or_gap : List (List ℕ) → ℕ → Option Place → List (List ℕ) → List ℕ → Bool
note_or_gap text until closing lines rest =
    gap lines rest || after_octets (codes " (") (λ note. option_map_or (passes_at note_end text until) closing false) rest

-- an equals sign at a place, an answer, and what follows it
abbrev pub answered_at : List ℕ → List (List ℕ) → ℕ → Place → Bool
answered_at answer text until place =
    let closing = first_outside (is_symbol (sign ")")) 0 (items text place) in
    passes_at (λ lines. after_octets (codes "= ") (after_octets answer (note_or_gap text until closing lines))) text until place

-- a text that begins with a letter, a digit or `_`
abbrev pub starts_with_letter_digit_or_underscore : List ℕ → Bool
starts_with_letter_digit_or_underscore [] = false
starts_with_letter_digit_or_underscore (b ∷ s) = is_ascii_alphanumeric b || b == 95

-- a call in some lines of a text: a word begins it, and its answer is at the first equals sign that is outside of brackets
abbrev pub call_octets : List ℕ → List (List ℕ) → ℕ → ℕ → List ℕ → Bool
call_octets answer text from until rest =
    starts_with_letter_digit_or_underscore rest
    && option_map_or (answered_at answer text until) (first_outside (is_symbol (sign "=")) 0 (items text (record { line = from; at = 0 }))) false

-- the error of a name
abbrev pub error_of : ErrorName → Option Errno
error_of named.Ebadf = Some answered.Ebadf
error_of named.Einval = Some answered.Einval
error_of named.Eagain = Some answered.Eagain
error_of named.Epipe = Some answered.Epipe
error_of named.Unknown = None

-- the answer that a result is
abbrev pub answer_of : ExpectedResult → Option Answer
answer_of (Int n) = Some (Number n)
answer_of (Hex n) = None
answer_of (Negative n None) = None
answer_of (Negative n (Some name)) = if n == 1 then option_map (λ error. Error error) (error_of name) else None

-- a line of this number begins a call at a time, which goes on up to another line: its time, its octets with the answer that
-- the script expects, and a gap
abbrev pub call_line : List (List ℕ) → ℕ → ℕ → Time → ExpectedResult → List ℕ → Bool
call_line text from until time result line =
    option_map_or (λ answer. after_octets (time_text time) (after_octets (codes " ") (call_octets (answer_text answer) text from until)) line) (answer_of result) false

-- ---- events and header items

-- an event, which goes on up to a line: a packet in its one form, or a call, and a gap
abbrev pub action_line : List (List ℕ) → ℕ → ℕ → Time → Action → List (List ℕ) → List ℕ → Bool
action_line text from until time (actions.Inbound packet) lines line = after_octets (event_text time Inbound packet) (gap lines) line
action_line text from until time (actions.Outbound packet) lines line = after_octets (event_text time Outbound packet) (gap lines) line
action_line text from until time (actions.Call call) lines line = call_line text from until time call.result line
action_line text from until time actions.Command lines line = false
action_line text from until time actions.Code lines line = false

-- where a header item ends: at the first blank
abbrev pub index_of_first_blank_or_end : List ℕ → ℕ
index_of_first_blank_or_end line = unwrap_or (position is_blank line) (length line)

-- a header item, and a gap
abbrev pub item_line : List (List ℕ) → List ℕ → Bool
item_line lines line = gap lines (drop (index_of_first_blank_or_end line) line)

-- where the first of some events begins; without one the text's end
abbrev pub first_event_or_end_line_index : List (List ℕ) → List Event → ℕ
first_event_or_end_line_index text [] = length text
first_event_or_end_line_index text (event ∷ others) = event.line - 1

-- each event begins at the start of its line, and its lines up to the next event are its own
abbrev pub events_canonical : List (List ℕ) → List Event → Bool
events_canonical text [] = true
events_canonical text (event ∷ others) =
    let until = first_event_or_end_line_index text others in
    first_line (action_line text event.line until event.time event.action) (lines_between text (event.line - 1) until) && events_canonical text others

-- where the first of some header items begins, with these events after them
abbrev pub first_item_event_or_end_line_index : List (List ℕ) → List Event → List HeaderItem → ℕ
first_item_event_or_end_line_index text events [] = first_event_or_end_line_index text events
first_item_event_or_end_line_index text events (item ∷ others) = item.line - 1

-- the same of header items
abbrev pub items_canonical : List (List ℕ) → List Event → List HeaderItem → Bool
items_canonical text events [] = true
items_canonical text events (item ∷ others) =
    first_line item_line (lines_between text (item.line - 1) (first_item_event_or_end_line_index text events others)) && items_canonical text events others

-- a text with these header items and events is laid out as recordings are
abbrev pub is_canonical : List (List ℕ) → List HeaderItem → List Event → Bool
is_canonical text items events =
    lead false (lines_between text 0 (first_item_event_or_end_line_index text events items)) && items_canonical text events items && events_canonical text events

-- a text is laid out as recordings are: so are the header items and events that it is read as
abbrev pub IsCanonical : List (List ℕ) → Type 0
IsCanonical text = IsTrue (is_canonical text (script_of text).header.items (script_of text).events)
