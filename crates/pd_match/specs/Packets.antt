-- When a packet that was sent is the one that a script expects.
use Rattle.std.specs.Prelude.{ℕ, ◌+◌, ◌-◌, Bool, true, false, not, ◌&&◌, ◌==◌, nat_le, find, List, [], ◌∷◌, Option, Some, None}
use Rattle.std.specs.Bool.{beq}
use Rattle.pd_script.specs.declared.packets.PacketFlags as script
use Rattle.pd_script.specs.declared.packets.SackBlock.{SackBlock}
use Rattle.pd_script.specs.declared.packets.Options.{Options}
use Rattle.pd_script.specs.declared.packets.Options.TheVariants.{Absent, Any, Listed}
use Rattle.pd_script.specs.declared.packets.Packet.{Packet}
use Rattle.pd_script.specs.declared.packets.PacketOption.{PacketOption}
use Rattle.pd_script.specs.declared.packets.PacketOption.TheVariants as written
use Rattle.pd_seg.specs.declared.flags.Flags.{Flags}
use Rattle.pd_seg.specs.declared.option_list.SegOption.{SegOption}
use Rattle.pd_seg.specs.declared.option_list.SegOption.TheVariants as sent
use Rattle.pd_seg.specs.declared.sack_spans.Span.{Span}
use Rattle.pd_seg.specs.declared.segments.Segment.{Segment}
use Rattle.pd_seg.specs.declared.segments.Sent.{Sent}
use Rattle.pd_match.specs.declared.kinds.Kind.{Kind}
use Rattle.pd_match.specs.declared.kinds.Kind.TheVariants as kind

-- the packet left no earlier than the first moment less the tolerance, and no later than the last one plus the tolerance
abbrev pub in_time : Option (ℕ × ℕ) → ℕ → ℕ → Bool
in_time None at tolerance = true
in_time (Some time_range) at tolerance = nat_le time_range.0 (at + tolerance) && nat_le at (time_range.1 + tolerance)

-- the sets of SYN, FIN, RST, PSH and ACK are equal
abbrev pub same_flags : script.PacketFlags → Flags → Bool
same_flags w s = beq w.syn s.syn && (beq w.fin s.fin && (beq w.rst s.rst && (beq w.psh s.psh && beq w.ack s.ack)))

-- start, end and length are equal
abbrev pub same_seq : Packet → Segment → Bool
same_seq w s = w.start == s.start && (w.end == s.end && w.length == (s.end - s.start))

-- the number is the written one; where none is written, any is good
abbrev pub same_if_written : Option ℕ → ℕ → Bool
same_if_written None n = true
same_if_written (Some w) n = w == n

-- two lists are as long, and each pair in one place passes the test
abbrev pub each_pair : {A B : Type 0} → (A → B → Bool) → List A → List B → Bool
each_pair test [] [] = true
each_pair test (x ∷ xs) (y ∷ ys) = test x y && each_pair test xs ys
each_pair test _ _ = false

-- the block has the ends of the span
abbrev pub same_block : SackBlock → Span → Bool
same_block w s = w.left == s.start && w.right == s.end

-- the options have one kind and the same values
abbrev pub same_option : PacketOption → SegOption → Bool
same_option (written.Mss w) (sent.Mss s) = w == s
same_option (written.Wscale w) (sent.Wscale s) = w == s
same_option written.SackOk sent.SackOk = true
same_option written.Nop sent.Nop = true
same_option written.Eol sent.Eol = true
same_option (written.Timestamp w x) (sent.Timestamp s t) = w == s && x == t
same_option (written.Sack w) (sent.Sack s) = each_pair same_block w s
same_option _ _ = false

-- `<...>` lets all options pass; where no options are written, none were sent; else the lists are equal in order and
-- values
abbrev pub same_options : Options → List SegOption → Bool
same_options Any s = true
same_options Absent s = each_pair same_option [] s
same_options (Listed w) s = each_pair same_option w s

-- the fields that are compared, in their order
abbrev pub compared_fields : List Kind
compared_fields = kind.Time ∷ kind.Flags ∷ kind.Seq ∷ kind.Ack ∷ kind.Win ∷ kind.Options ∷ []

-- the test of a field
abbrev pub passes : Packet → Option (ℕ × ℕ) → Sent → ℕ → Kind → Bool
passes packet time_range s tolerance kind.Time = in_time time_range s.at tolerance
passes packet time_range s tolerance kind.Flags = same_flags packet.flags s.segment.flags
passes packet time_range s tolerance kind.Seq = same_seq packet s.segment
passes packet time_range s tolerance kind.Ack = same_if_written packet.ack s.segment.ack
passes packet time_range s tolerance kind.Win = same_if_written packet.win s.segment.win
passes packet time_range s tolerance kind.Options = same_options packet.options s.segment.options
passes packet time_range s tolerance _ = true

-- the first field in which the packet differs
abbrev pub mismatch : Packet → Option (ℕ × ℕ) → Sent → ℕ → Option Kind
mismatch packet time_range s tolerance = find (λ field. not (passes packet time_range s tolerance field)) compared_fields
