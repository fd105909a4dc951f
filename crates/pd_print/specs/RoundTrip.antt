-- The meaning of octets that the grammar reads in one way alone, and the times and packets of which that is so.
use Rattle.std.specs.Prelude.{◌≡◌, ◌≢◌, ℕ, ◌+◌, ◌-◌, ◌<◌, ◌≤◌, false, List, drop, length, IfSome, None}
use Rattle.std.specs.List.{AllByRecursion}
use Rattle.pd_text.specs.Text.{AreLines}
use Rattle.pd_lex.specs.declared.token.Place.{Place}
use Rattle.pd_lex.specs.Places.{IsPlace, line_at}
use Rattle.pd_lex.specs.Lexing.{items}
use Rattle.pd_script.specs.Spelling.{Spelling}
use Rattle.pd_script.specs.declared.timing.Time.{Time}
use Rattle.pd_script.specs.declared.timing.Time.TheVariants as times
use Rattle.pd_script.specs.declared.packets.SackBlock.{SackBlock}
use Rattle.pd_script.specs.declared.packets.PacketOption.{PacketOption}
use Rattle.pd_script.specs.declared.packets.PacketOption.TheVariants as options
use Rattle.pd_script.specs.declared.packets.Options.{Options}
use Rattle.pd_script.specs.declared.packets.Options.TheVariants as lists
use Rattle.pd_script.specs.declared.packets.Packet.{Packet}
use Rattle.pd_script.specs.declared.script_events.Action.{Action}
use Rattle.pd_script.specs.declared.script_events.Event.{Event}
use Rattle.pd_seg.specs.declared.call_results.Answer.{Answer}
use Rattle.pd_seg.specs.declared.call_results.Answer.TheVariants.{Number, Error}
use Rattle.pd_seg.specs.declared.segments.Segment.{Segment}
use Rattle.pd_match.specs.Agreement.{option_of}
use Rattle.pd_print.specs.declared.packet_texts.Direction.{Direction}
use Rattle.pd_print.specs.declared.packet_texts.Direction.TheVariants.{Inbound, Outbound}

-- ---- the way back

-- the first place of the next line
abbrev pub line_after : Place → Place
line_after p = record { line = p.line + 1; at = 0 }

-- wherever the octets are the rest of a line of a text, the grammar reads this value from there on, and goes on with the next line;
-- a value may have the number of the line
abbrev pub IsReadAs : {A : Type 0} → Spelling A → (ℕ → A) → List ℕ → Type 0
IsReadAs spelling value octets =
    (lines : List (List ℕ)) (p : Place)
    → AreLines lines → IsPlace lines p → p.line ≤ length lines → drop p.at (line_at lines p.line) ≡ octets
    → spelling (value p.line) (items lines p) (items lines (line_after p))

-- an event in a line, with no blocking call
abbrev pub event_of : Time → Action → ℕ → Event
event_of time action line = record { line = line; time = time; blocking_end = None; action = action }

-- ---- values that the language can write

-- a moment below 4,294,967,296 s
abbrev pub IsShort : ℕ → Type 0
IsShort time_us = time_us < 4294967296000000

-- a time with such moments; a range doesn't end before it begins
abbrev pub FitsTime : Time → Type 0
FitsTime times.Any = Unit {0}
FitsTime (times.Absolute time_us) = IsShort time_us
FitsTime (times.Relative time_us) = IsShort time_us
FitsTime (times.AbsoluteRange first last) = (first ≤ last) × IsShort last
FitsTime (times.RelativeRange first last) = (first ≤ last) × IsShort last

-- a number of 32 bits
abbrev pub IsSmall : ℕ → Type 0
IsSmall n = n ≤ 4294967295

-- a SACK block of such numbers
abbrev pub FitsBlock : SackBlock → Type 0
FitsBlock b = IsSmall b.left × IsSmall b.right

-- an option of such numbers
abbrev pub IsSmallOption : PacketOption → Type 0
IsSmallOption (options.Mss n) = IsSmall n
IsSmallOption (options.Wscale n) = IsSmall n
IsSmallOption (options.Timestamp v e) = IsSmall v × IsSmall e
IsSmallOption (options.Sack blocks) = AllByRecursion FitsBlock blocks
IsSmallOption _ = Unit {0}

-- options of such numbers
abbrev pub AreSmallOptions : Options → Type 0
AreSmallOptions (lists.Listed os) = AllByRecursion IsSmallOption os
AreSmallOptions _ = Unit {0}

-- a SACK option has a block
abbrev pub HasBlock : PacketOption → Type 0
HasBlock (options.Sack blocks) = 0 < length blocks
HasBlock _ = Unit {0}

-- so has each SACK option of a packet
abbrev pub HaveBlocks : Options → Type 0
HaveBlocks (lists.Listed os) = AllByRecursion HasBlock os
HaveBlocks _ = Unit {0}

-- a packet that arrives has a window, and options that are written out
abbrev pub FitsDirection : Direction → Packet → Type 0
FitsDirection Inbound p = (p.win ≢ None) × (p.options ≢ lists.Any)
FitsDirection Outbound p = Unit {0}

-- a packet with flags that have letters, octets in order, the length that they have and numbers of 32 bits
pub record FitsPacket (direction : Direction) (p : Packet) : Type 0 where
  pub flags : p.flags.other ≡ false
  pub order : p.start ≤ p.end
  pub small : IsSmall p.end
  pub len : p.length ≡ p.end - p.start
  pub ack : IfSome p.ack IsSmall
  pub win : IfSome p.win IsSmall
  pub numbers : AreSmallOptions p.options
  pub blocks : HaveBlocks p.options
  pub way : FitsDirection direction p

-- an answer that is a number has 32 bits, as each one of the code has
abbrev pub FitsAnswer : Answer → Type 0
FitsAnswer (Number n) = IsSmall n
FitsAnswer (Error e) = Unit {0}

-- a segment with octets in order, in which each SACK option has a block
abbrev pub FitsSegment : Segment → Type 0
FitsSegment s = (s.start ≤ s.end) × AllByRecursion (λ o. HasBlock (option_of o)) s.options
