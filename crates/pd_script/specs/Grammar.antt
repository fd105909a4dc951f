-- The grammar: which items spell a time, a call and an event.
use Rattle.std.specs.Prelude.{ℕ, true, false, Option, Some, None}
use Rattle.pd_lex.specs.Tokens.{line_of}
use Rattle.pd_script.specs.Items.{is_next_hex_within_u32, is_num, is_num_from, is_command, is_code, is_word, text_of}
use Rattle.pd_script.specs.Values.{saturated_hex_number, microseconds, function_by_name_or_unknown, error_by_name_or_unknown}
use Rattle.pd_script.specs.Spelling.{Spelling, one_of, made, ◌>>=◌, either, IsSymbol, IsInt, IsDots}
use Rattle.pd_script.specs.PacketGrammar.{IsPacket}
use Rattle.pd_script.specs.Arguments.{IsArguments, IsNote}
use Rattle.pd_script.specs.declared.timing.Time.{Time}
use Rattle.pd_script.specs.declared.timing.Time.TheVariants as times
use Rattle.pd_script.specs.declared.timing.BlockingEnd.{BlockingEnd}
use Rattle.pd_script.specs.declared.timing.BlockingEnd.TheVariants as blocking_ends
use Rattle.pd_script.specs.declared.calls.Call.{Call}
use Rattle.pd_script.specs.declared.calls.ErrorName.{ErrorName}
use Rattle.pd_script.specs.declared.calls.Function.{Function}
use Rattle.pd_script.specs.declared.calls.ExpectedResult.{ExpectedResult}
use Rattle.pd_script.specs.declared.calls.ExpectedResult.TheVariants as expected_results
use Rattle.pd_script.specs.declared.script_events.Action.{Action}
use Rattle.pd_script.specs.declared.script_events.Action.TheVariants as actions
use Rattle.pd_script.specs.declared.script_events.Event.{Event}

-- a hexadecimal number of at most 4,294,967,295
abbrev pub IsHex : Spelling ℕ
IsHex = one_of is_next_hex_within_u32 (λ t. saturated_hex_number (text_of t))

-- seconds, as their line and microseconds; the whole part is at most 4,294,967,295
abbrev pub IsNum : Spelling (ℕ × ℕ)
IsNum = one_of is_num (λ t. (line_of t, microseconds (text_of t)))

-- a word, as the name of a call
abbrev pub IsFunction : Spelling Function
IsFunction = one_of is_word (λ t. function_by_name_or_unknown (text_of t))

-- a word, as the name of an error
abbrev pub IsErrorName : Spelling ErrorName
IsErrorName = one_of is_word (λ t. error_by_name_or_unknown (text_of t))

-- ---- times

-- seconds of at least so many microseconds
abbrev pub IsNumFrom : ℕ → Spelling ℕ
IsNumFrom least = one_of (is_num_from least) (λ t. microseconds (text_of t))

-- `~` and a second number, at least the first
abbrev pub IsAbsoluteRange : ℕ → ℕ → Spelling (ℕ × Time)
IsAbsoluteRange line first = do
  tilde ← IsSymbol "~"
  second ← IsNumFrom first
  made (line, times.AbsoluteRange first second)

-- seconds, or a range of them: an absolute time
abbrev pub IsAbsolute : Spelling (ℕ × Time)
IsAbsolute = do
  n ← IsNum
  either (IsAbsoluteRange n.0 n.1) (made (n.0, times.Absolute n.1))

-- `+` and seconds of at least so many microseconds
abbrev pub IsPlusNumFrom : ℕ → Spelling ℕ
IsPlusNumFrom least = do
  plus ← IsSymbol "+"
  IsNumFrom least

-- the second number may have a `+` of its own
abbrev pub IsRelativeRange : ℕ → ℕ → Spelling (ℕ × Time)
IsRelativeRange line first = do
  tilde ← IsSymbol "~"
  second ← either (IsPlusNumFrom first) (IsNumFrom first)
  made (line, times.RelativeRange first second)

-- `+` and seconds, or a range of them: a relative time
abbrev pub IsRelative : Spelling (ℕ × Time)
IsRelative = do
  line ← IsSymbol "+"
  n ← IsNum
  either (IsRelativeRange line n.1) (made (line, times.Relative n.1))

-- `*`: any time
abbrev pub IsAnyTime : Spelling (ℕ × Time)
IsAnyTime = do
  line ← IsSymbol "*"
  made (line, times.Any)

-- a time, with the line of its first token
unfoldable pub IsTime : Spelling (ℕ × Time)
IsTime = either IsAnyTime (either IsRelative IsAbsolute)

-- `+` and seconds: a relative end of a blocking call
abbrev pub IsRelativeBlockingEnd : Spelling BlockingEnd
IsRelativeBlockingEnd = do
  plus ← IsSymbol "+"
  n ← IsNum
  made (blocking_ends.Relative n.1)

-- seconds: an absolute end of a blocking call
abbrev pub IsAbsoluteBlockingEnd : Spelling BlockingEnd
IsAbsoluteBlockingEnd = do
  n ← IsNum
  made (blocking_ends.Absolute n.1)

-- `...` and the end of a blocking call
abbrev pub IsBlockingEnd : Spelling (Option BlockingEnd)
IsBlockingEnd = do
  dots ← IsDots
  blocking_end ← either IsRelativeBlockingEnd IsAbsoluteBlockingEnd
  made (Some blocking_end)

-- the end of a blocking call, which may be left out
unfoldable pub IsMaybeBlockingEnd : Spelling (Option BlockingEnd)
IsMaybeBlockingEnd = either IsBlockingEnd (made None)

-- ---- calls

-- a whole number, as a result
abbrev pub IsWhole : Spelling ExpectedResult
IsWhole = do
  n ← IsInt
  made (expected_results.Int n)

-- a hexadecimal number, as a result
abbrev pub IsHexadecimal : Spelling ExpectedResult
IsHexadecimal = do
  n ← IsHex
  made (expected_results.Hex n)

-- `-`, a whole number and the name of an error, which may be left out
abbrev pub IsNegative : Spelling ExpectedResult
IsNegative = do
  minus ← IsSymbol "-"
  n ← IsInt
  either
      (do
        name ← IsErrorName
        made (expected_results.Negative n (Some name)))
      (made (expected_results.Negative n None))

-- the result of a call: a whole, a hexadecimal or a negative number
unfoldable pub IsExpectedResult : Spelling ExpectedResult
IsExpectedResult = either IsWhole (either IsHexadecimal IsNegative)

-- a call: its name, its arguments, `=`, its result, and a note, which may be left out
unfoldable pub IsCall : Spelling Call
IsCall = do
  function ← IsFunction
  opening ← IsSymbol "("
  arguments ← IsArguments
  equals ← IsSymbol "="
  expected_result ← IsExpectedResult
  note ← either IsNote (made tt)
  made (record { function = function; arguments = arguments; result = expected_result })

-- ---- events

-- a call, as an action
abbrev pub IsCallAction : Spelling Action
IsCallAction = do
  call ← IsCall
  made (actions.Call call)

-- a shell command in backquotes
abbrev pub IsCommand : Spelling Action
IsCommand = one_of is_command (λ t. actions.Command)

-- code between `%{` and `}%`
abbrev pub IsCode : Spelling Action
IsCode = one_of is_code (λ t. actions.Code)

-- `<` and a packet that arrives
abbrev pub IsInbound : Spelling Action
IsInbound = do
  arrow ← IsSymbol "<"
  packet ← IsPacket true
  made (actions.Inbound packet)

-- `>` and a packet that leaves
abbrev pub IsOutbound : Spelling Action
IsOutbound = do
  arrow ← IsSymbol ">"
  packet ← IsPacket false
  made (actions.Outbound packet)

-- an action: a command, code, a packet that arrives or leaves, or a call
unfoldable pub IsAction : Spelling Action
IsAction = either IsCommand (either IsCode (either IsInbound (either IsOutbound IsCallAction)))

-- an event: a time, the end of a blocking call if there is one, and an action; it has the line of its first token
unfoldable pub IsEvent : Spelling Event
IsEvent = do
  start ← IsTime
  blocking_end ← IsMaybeBlockingEnd
  action ← IsAction
  made (record { line = start.0; time = start.1; blocking_end = blocking_end; action = action })
