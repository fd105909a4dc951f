-- The grammar, read from left to right.
use Rattle.std.specs.Prelude.{ℕ, zero, suc, true, false, List, [], ◌∷◌, Option, Some, None, ⊤}
use Rattle.pd_lex.specs.Tokens.{Item, line_of}
use Rattle.pd_script.specs.Items.{is_next_int_within_u32, is_next_hex_within_u32, is_num, is_num_from, is_dots, is_command, is_code, is_word, is_symbol, is_end, starts_event, text_of}
use Rattle.pd_script.specs.Values.{sign, saturated_hex_number, microseconds, function_by_name_or_unknown, error_by_name_or_unknown}
use Rattle.pd_script.specs.Reader.{Reader, ◌>>=◌, done, one, when, machine_at}
use Rattle.pd_script.specs.TokenReading.{symbol_at, int_at, dots_at}
use Rattle.pd_script.specs.PacketReading.{packet_at}
use Rattle.pd_script.specs.ArgumentReading.{at_start, argument_move, note_move}
use Rattle.pd_script.specs.declared.timing.Time.{Time}
use Rattle.pd_script.specs.declared.timing.Time.TheVariants as times
use Rattle.pd_script.specs.declared.timing.BlockingEnd.{BlockingEnd}
use Rattle.pd_script.specs.declared.timing.BlockingEnd.TheVariants as blocking_ends
use Rattle.pd_script.specs.declared.calls.Argument.{Argument}
use Rattle.pd_script.specs.declared.calls.Call.{Call}
use Rattle.pd_script.specs.declared.calls.Function.{Function}
use Rattle.pd_script.specs.declared.calls.ErrorName.{ErrorName}
use Rattle.pd_script.specs.declared.calls.ExpectedResult.{ExpectedResult}
use Rattle.pd_script.specs.declared.calls.ExpectedResult.TheVariants as expected_results
use Rattle.pd_script.specs.declared.script_events.Action.{Action}
use Rattle.pd_script.specs.declared.script_events.Action.TheVariants as actions
use Rattle.pd_script.specs.declared.script_events.Event.{Event}

-- the line of the next item
abbrev pub next_line : List Item → ℕ
next_line [] = 0
next_line (t ∷ ts) = line_of t

-- a hexadecimal number
abbrev pub hex_at : Reader ℕ
hex_at = do
  t ← one is_next_hex_within_u32
  done (saturated_hex_number (text_of t))

-- a number of microseconds, with the line of its token
abbrev pub num_at : Reader (ℕ × ℕ)
num_at = do
  t ← one is_num
  done (line_of t, microseconds (text_of t))

-- the name of a call
abbrev pub function_at : Reader Function
function_at = do
  t ← one is_word
  done (function_by_name_or_unknown (text_of t))

-- the name of an error
abbrev pub error_at : Reader ErrorName
error_at = do
  t ← one is_word
  done (error_by_name_or_unknown (text_of t))

-- a number of at least so many microseconds
abbrev pub num_from_at : ℕ → Reader ℕ
num_from_at least = do
  t ← one (is_num_from least)
  done (microseconds (text_of t))

-- `~` and a second number, at least the first: a range of absolute times
abbrev pub absolute_range_at : ℕ → ℕ → Reader (ℕ × Time)
absolute_range_at line first = do
  tilde ← symbol_at (sign "~")
  second ← num_from_at first
  done (line, times.AbsoluteRange first second)

-- an absolute time or a range of them, and its line
abbrev pub absolute_at : Reader (ℕ × Time)
absolute_at = do
  n ← num_at
  when (is_symbol (sign "~")) (absolute_range_at n.0 n.1) (done (n.0, times.Absolute n.1))

-- `+` and a number of at least so many microseconds
abbrev pub plus_num_from_at : ℕ → Reader ℕ
plus_num_from_at least = do
  plus ← symbol_at (sign "+")
  num_from_at least

-- `~` and a second number, at least the first, with or without a `+` of its own: a range of relative times
abbrev pub relative_range_at : ℕ → ℕ → Reader (ℕ × Time)
relative_range_at line first = do
  tilde ← symbol_at (sign "~")
  second ← when (is_symbol (sign "+")) (plus_num_from_at first) (num_from_at first)
  done (line, times.RelativeRange first second)

-- a relative time or a range of them, and its line
abbrev pub relative_at : Reader (ℕ × Time)
relative_at = do
  line ← symbol_at (sign "+")
  n ← num_at
  when (is_symbol (sign "~")) (relative_range_at line n.1) (done (line, times.Relative n.1))

-- `*`: any time, and its line
abbrev pub any_time_at : Reader (ℕ × Time)
any_time_at = do
  line ← symbol_at (sign "*")
  done (line, times.Any)

-- a time, and the line of its first token
unfoldable pub time_at : Reader (ℕ × Time)
time_at = when (is_symbol (sign "*")) any_time_at (when (is_symbol (sign "+")) relative_at absolute_at)

-- `+` and a number: a relative end of a blocking call
abbrev pub relative_blocking_end_at : Reader BlockingEnd
relative_blocking_end_at = do
  plus ← symbol_at (sign "+")
  n ← num_at
  done (blocking_ends.Relative n.1)

-- a number: an absolute end of a blocking call
abbrev pub absolute_blocking_end_at : Reader BlockingEnd
absolute_blocking_end_at = do
  n ← num_at
  done (blocking_ends.Absolute n.1)

-- `...` and the end of a blocking call
abbrev pub blocking_end_at : Reader (Option BlockingEnd)
blocking_end_at = do
  dots ← dots_at
  blocking_end ← when (is_symbol (sign "+")) relative_blocking_end_at absolute_blocking_end_at
  done (Some blocking_end)

-- the end of a blocking call, which may be left out
unfoldable pub maybe_blocking_end_at : Reader (Option BlockingEnd)
maybe_blocking_end_at = when is_dots blocking_end_at (done None)

-- a whole number, as a result
abbrev pub whole_at : Reader ExpectedResult
whole_at = do
  n ← int_at
  done (expected_results.Int n)

-- a hexadecimal number, as a result
abbrev pub hexadecimal_at : Reader ExpectedResult
hexadecimal_at = do
  n ← hex_at
  done (expected_results.Hex n)

-- the name of the error, after the number of a negative result
abbrev pub named_error_at : ℕ → Reader ExpectedResult
named_error_at n = do
  name ← error_at
  done (expected_results.Negative n (Some name))

-- a negative result, with or without the name of an error
abbrev pub negative_at : Reader ExpectedResult
negative_at = do
  line ← symbol_at (sign "-")
  n ← int_at
  when is_word (named_error_at n) (done (expected_results.Negative n None))

-- the result of a call
unfoldable pub expected_result_at : Reader ExpectedResult
expected_result_at = when is_next_int_within_u32 whole_at (when is_next_hex_within_u32 hexadecimal_at negative_at)

-- the bracket that ends a call's arguments, where there are none
abbrev pub no_arguments_at : Reader (List Argument)
no_arguments_at = do
  line ← symbol_at (sign ")")
  done []

-- the arguments of a call and the bracket that ends them
unfoldable pub arguments_at : Reader (List Argument)
arguments_at = when (is_symbol (sign ")")) no_arguments_at (machine_at argument_move at_start)

-- a note in brackets
unfoldable pub note_at : Reader ⊤
note_at = do
  opening ← symbol_at (sign "(")
  skipped ← machine_at note_move []
  done tt

-- a note, which may be left out
abbrev pub maybe_note_at : Reader ⊤
maybe_note_at = when (is_symbol (sign "(")) note_at (done tt)

-- a call: its name, its arguments, `=`, its result, and a note if there is one
unfoldable pub call_at : Reader Call
call_at = do
  function ← function_at
  opening ← symbol_at (sign "(")
  arguments ← arguments_at
  equals ← symbol_at (sign "=")
  expected_result ← expected_result_at
  note ← maybe_note_at
  done (record { function = function; arguments = arguments; result = expected_result })

-- a call, as an action
abbrev pub call_action_at : Reader Action
call_action_at = do
  call ← call_at
  done (actions.Call call)

-- a shell command in backquotes
abbrev pub command_at : Reader Action
command_at = do
  t ← one is_command
  done actions.Command

-- code between `%{` and `}%`
abbrev pub code_at : Reader Action
code_at = do
  t ← one is_code
  done actions.Code

-- `<` and a packet that arrives
abbrev pub inbound_at : Reader Action
inbound_at = do
  line ← symbol_at (sign "<")
  packet ← packet_at true
  done (actions.Inbound packet)

-- `>` and a packet that leaves
abbrev pub outbound_at : Reader Action
outbound_at = do
  line ← symbol_at (sign ">")
  packet ← packet_at false
  done (actions.Outbound packet)

-- an action: a command, code, a packet that arrives or leaves, or a call
unfoldable pub action_at : Reader Action
action_at = when is_command command_at (when is_code code_at (when (is_symbol (sign "<")) inbound_at (when (is_symbol (sign ">")) outbound_at call_action_at)))

-- an event, with the line of its first token
unfoldable pub event_at : Reader Event
event_at = do
  start ← time_at
  blocking_end ← maybe_blocking_end_at
  action ← action_at
  done (record { line = start.0; time = start.1; blocking_end = blocking_end; action = action })

-- the end of the text: no more events
abbrev pub end_at : Reader (List Event)
end_at = do
  end ← one is_end
  done []

-- the events up to the end, at most so many
unfoldable pub events_at : ℕ → Reader (List Event)
events_at zero = end_at
events_at (suc n) = when starts_event
    (do
      e ← event_at
      es ← events_at n
      done (e ∷ es))
    end_at
