-- The script that an input is.
use Rattle.std.specs.Prelude.{ℕ, not, Bool, nat_le, ◌&&◌, List, length, filter, Option}
use Rattle.std.specs.Str.Lines.{lines}
use Rattle.pd_protocol.specs.Commands.{fitted}
use Rattle.pd_layout.specs.Traces.{is_single_trace_line}

-- a line is dropped: one of a trace that isn't over the limits of a text by itself
abbrev pub is_trace_line : List ℕ → Bool
is_trace_line line = nat_le (length line) 65536 && is_single_trace_line line

-- lines without those of a trace
abbrev pub without_trace : List (List ℕ) → List (List ℕ)
without_trace lines = filter (λ line. not (is_trace_line line)) lines

-- the script that an input is: its lines without those of a trace, where these are within the limits of a text
abbrev pub script_in : List ℕ → Option (List (List ℕ))
script_in input = fitted (without_trace (lines input))
