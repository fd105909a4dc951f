-- The packet of a script that a sent segment is.
use Rattle.std.specs.Prelude.{◌-◌, false, List, [], ◌∷◌, map, Some}
use Rattle.pd_script.specs.declared.packets.PacketFlags as script
use Rattle.pd_script.specs.declared.packets.Options.{Options}
use Rattle.pd_script.specs.declared.packets.Options.TheVariants.{Absent, Listed}
use Rattle.pd_script.specs.declared.packets.Packet.{Packet}
use Rattle.pd_seg.specs.declared.flags.Flags.{Flags}
use Rattle.pd_seg.specs.declared.option_list.SegOption.{SegOption}
use Rattle.pd_seg.specs.declared.segments.Segment.{Segment}
use Rattle.pd_match.specs.Agreement.{option_of}

-- the flags of a segment as a script writes them
abbrev pub written_flags : Flags → script.PacketFlags
written_flags f = record { syn = f.syn; fin = f.fin; rst = f.rst; psh = f.psh; ack = f.ack; other = false }

-- all options in their order; a segment without options is written without angle brackets
abbrev pub options_of : List SegOption → Options
options_of [] = Absent
options_of (o ∷ os) = Listed (map option_of (o ∷ os))

-- the packet with every field written and equal to the segment's
abbrev pub packet_of : Segment → Packet
packet_of s = record {
  flags = written_flags s.flags;
  start = s.start;
  end = s.end;
  length = s.end - s.start;
  ack = Some s.ack;
  win = Some s.win;
  options = options_of s.options;
}
