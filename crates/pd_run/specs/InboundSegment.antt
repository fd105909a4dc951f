-- The segment that a packet of a script is, where it arrives.
use Rattle.std.specs.Prelude.{ℕ, ◌-◌, ◌^◌, min, List, [], map, unwrap_or}
use Rattle.pd_script.specs.declared.packets.SackBlock.{SackBlock}
use Rattle.pd_script.specs.declared.packets.Options.{Options}
use Rattle.pd_script.specs.declared.packets.Options.TheVariants.{Listed}
use Rattle.pd_script.specs.declared.packets.Packet.{Packet}
use Rattle.pd_script.specs.declared.packets.PacketOption.{PacketOption}
use Rattle.pd_script.specs.declared.packets.PacketOption.TheVariants as written
use Rattle.pd_seg.specs.declared.option_list.SegOption.{SegOption}
use Rattle.pd_seg.specs.declared.option_list.SegOption.TheVariants.{Mss, Wscale, SackOk, Nop, Eol, Timestamp, Sack}
use Rattle.pd_seg.specs.declared.sack_spans.Span.{Span}
use Rattle.pd_seg.specs.declared.segments.Segment.{Segment}
use Rattle.pd_match.specs.Agreement.{flags_of}

-- a block's octets
abbrev pub span_in : SackBlock → Span
span_in block = record { start = block.left; end = block.right }

-- a number of 32 bits; a larger one, which no text has, stands as the largest
abbrev pub saturated_to_32_bits : ℕ → ℕ
saturated_to_32_bits n = min n (2 ^ 32 - 1)

-- an option with its values
abbrev pub option_in : PacketOption → SegOption
option_in (written.Mss n) = Mss n
option_in (written.Wscale n) = Wscale n
option_in written.SackOk = SackOk
option_in written.Nop = Nop
option_in written.Eol = Eol
option_in (written.Timestamp n m) = Timestamp (saturated_to_32_bits n) (saturated_to_32_bits m)
option_in (written.Sack blocks) = Sack (map span_in blocks)

-- the options in their order
abbrev pub options_in : Options → List SegOption
options_in (Listed options) = map option_in options
options_in _ = []

-- the segment: a number that isn't written is 0
abbrev pub segment_in : Packet → Segment
segment_in p = record {
  flags = flags_of p.flags;
  start = p.start;
  end = p.end;
  ack = unwrap_or p.ack 0;
  win = unwrap_or p.win 0;
  options = options_in p.options;
}
