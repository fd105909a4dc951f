-- Packets and results that agree with those that a script expects.
use Rattle.std.specs.Prelude.{◌≡◌, ℕ, ◌+◌, ◌-◌, ◌≤◌, List, [], ◌∷◌, ◌++◌, map, Option, Some, None, ⊤}
use Rattle.std.specs.List.{AllByRecursion}
use Rattle.pd_script.specs.declared.calls.ErrorName.{ErrorName}
use Rattle.pd_script.specs.declared.calls.ErrorName.TheVariants as named
use Rattle.pd_script.specs.declared.calls.ExpectedResult.{ExpectedResult}
use Rattle.pd_script.specs.declared.calls.ExpectedResult.TheVariants.{Negative}
use Rattle.pd_script.specs.declared.packets.SackBlock.{SackBlock}
use Rattle.pd_script.specs.declared.packets.PacketFlags as script
use Rattle.pd_script.specs.declared.packets.Options.{Options}
use Rattle.pd_script.specs.declared.packets.Options.TheVariants.{Absent, Any, Listed}
use Rattle.pd_script.specs.declared.packets.Packet.{Packet}
use Rattle.pd_script.specs.declared.packets.PacketOption.{PacketOption}
use Rattle.pd_script.specs.declared.packets.PacketOption.TheVariants as written
use Rattle.pd_seg.specs.declared.call_results.Answer.{Answer}
use Rattle.pd_seg.specs.declared.call_results.Answer.TheVariants.{Error}
use Rattle.pd_seg.specs.declared.call_results.Errno.TheVariants as answered
use Rattle.pd_seg.specs.declared.flags.Flags.{Flags}
use Rattle.pd_seg.specs.declared.option_list.SegOption.{SegOption}
use Rattle.pd_seg.specs.declared.option_list.SegOption.TheVariants as sent
use Rattle.pd_seg.specs.declared.sack_spans.Span.{Span}
use Rattle.pd_seg.specs.declared.segments.Sent.{Sent}
use Rattle.pd_match.specs.declared.kinds.Kind.{Kind}
use Rattle.pd_match.specs.declared.kinds.Kind.TheVariants as kind
use Rattle.pd_match.specs.Calls.{value_written, value_answered}

-- from the first moment less the tolerance to the last one plus the tolerance; at any time for `*`
abbrev pub IsInTime : Option (ℕ × ℕ) → ℕ → ℕ → Type 0
IsInTime None at tolerance = ⊤
IsInTime (Some time_range) at tolerance = (time_range.0 ≤ at + tolerance) × (at ≤ time_range.1 + tolerance)

-- the flags that a script writes, as a segment has them
abbrev pub flags_of : script.PacketFlags → Flags
flags_of w = record { syn = w.syn; fin = w.fin; rst = w.rst; psh = w.psh; ack = w.ack }

-- the number is the written one, if one is written
abbrev pub MatchesIfWritten : Option ℕ → ℕ → Type 0
MatchesIfWritten None n = ⊤
MatchesIfWritten (Some w) n = w ≡ n

-- a span as a script writes it
abbrev pub block_of : Span → SackBlock
block_of s = record { left = s.start; right = s.end }

-- an option that was sent, as a script writes it
abbrev pub option_of : SegOption → PacketOption
option_of (sent.Mss n) = written.Mss n
option_of (sent.Wscale n) = written.Wscale n
option_of sent.SackOk = written.SackOk
option_of sent.Nop = written.Nop
option_of sent.Eol = written.Eol
option_of (sent.Timestamp n m) = written.Timestamp n m
option_of (sent.Sack spans) = written.Sack (map block_of spans)

-- the options that were sent are those that are written; `<...>` stands for any options, and nothing written for none sent
abbrev pub HasOptions : Options → List SegOption → Type 0
HasOptions Any s = ⊤
HasOptions Absent s = [] ≡ s
HasOptions (Listed w) s = w ≡ map option_of s

-- the packet agrees in the field with the expected one
abbrev pub Agrees : Packet → Option (ℕ × ℕ) → Sent → ℕ → Kind → Type 0
Agrees packet time_range s tolerance kind.Time = IsInTime time_range s.at tolerance
Agrees packet time_range s tolerance kind.Flags = flags_of packet.flags ≡ s.segment.flags
Agrees packet time_range s tolerance kind.Seq =
    (packet.start ≡ s.segment.start)
    × ((packet.end ≡ s.segment.end) × (packet.length ≡ s.segment.end - s.segment.start))
Agrees packet time_range s tolerance kind.Ack = MatchesIfWritten packet.ack s.segment.ack
Agrees packet time_range s tolerance kind.Win = MatchesIfWritten packet.win s.segment.win
Agrees packet time_range s tolerance kind.Options = HasOptions packet.options s.segment.options
Agrees packet time_range s tolerance _ = ⊤

-- the kinds before this one have the fact, and it hasn't
pub record FirstFails (P : Kind → Type 0) (kinds : List Kind) (k : Kind) : Type 0 where
  pub before : List Kind
  pub after : List Kind
  pub split : kinds ≡ before ++ k ∷ after
  pub hold : AllByRecursion P before
  pub fails : ¬ P k

-- the first kind for which the fact fails; without one, it holds for all
abbrev pub IsFirstFailing : (Kind → Type 0) → List Kind → Option Kind → Type 0
IsFirstFailing P kinds None = AllByRecursion P kinds
IsFirstFailing P kinds (Some k) = FirstFails P kinds k

-- the answer is the error of this name
abbrev pub IsNamed : ErrorName → Answer → Type 0
IsNamed named.Ebadf answer = answer ≡ Error answered.Ebadf
IsNamed named.Einval answer = answer ≡ Error answered.Einval
IsNamed named.Eagain answer = answer ≡ Error answered.Eagain
IsNamed named.Epipe answer = answer ≡ Error answered.Epipe
IsNamed named.Unknown answer = ⊥

-- where an error is named, it is the answer
abbrev pub HasError : ExpectedResult → Answer → Type 0
HasError (Negative _ (Some name)) answer = IsNamed name answer
HasError _ answer = ⊤

-- the answer is the result: the same number, an error being -1, and the error that is named
abbrev pub IsResult : ExpectedResult → Answer → Type 0
IsResult expected_result answer = (value_written expected_result ≡ value_answered answer) × HasError expected_result answer
