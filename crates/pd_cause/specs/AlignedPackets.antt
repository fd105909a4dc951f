-- Packets as events of a script, one below the other in columns.
use Rattle.std.specs.Prelude.{codes, ℕ, ◌-◌, min, nat_le, List, [], ◌∷◌, ◌++◌, length, replicate, if◌then◌else◌}
use Rattle.pd_script.specs.declared.packets.Packet.{Packet}
use Rattle.pd_script.specs.declared.timing.Time.{Time}
use Rattle.pd_script.specs.declared.timing.Time.TheVariants.{Any, Relative}
use Rattle.pd_print.specs.Numbers.{fixed_seconds_text}
use Rattle.pd_print.specs.Options.{options_text}
use Rattle.pd_seg.specs.declared.segments.Sent.{Sent}
use Rattle.pd_print.specs.Sent.{packet_of}
use Rattle.pd_print.specs.Packets.{arrow, event_text, flags_text, octets_text, numbered}
use Rattle.pd_print.specs.declared.packet_texts.Direction.TheVariants.{Outbound}

-- the time of a moment from the base; `*` where it lies before that, which no written time can express
abbrev pub relative_or_any_time_from_base : ℕ → ℕ → Time
relative_or_any_time_from_base base at = if nat_le base at then Relative (at - base) else Any

-- a moment as a comment
abbrev pub comment_of : ℕ → List ℕ
comment_of at = codes " // " ++ fixed_seconds_text at

-- a packet that was sent as an event that happened, with its moment in a comment
abbrev pub sent_text : ℕ → Sent → List ℕ
sent_text base sent = event_text (relative_or_any_time_from_base base sent.at) Outbound (packet_of sent.segment) ++ comment_of sent.at

-- a part and what follows it: with blanks between them where another part is wider, up to 40 octets, and something follows
abbrev pub pad_part_before_rest : List ℕ → List ℕ → List ℕ → List ℕ
pad_part_before_rest part other [] = part
pad_part_before_rest part other (o ∷ rest) = part ++ (replicate (min (length other) 40 - length part) 32 ++ (o ∷ rest))

-- the event of a packet that leaves, its parts as wide as those of another one where these are wider
abbrev pub align_packet_to_other : List ℕ → Packet → List ℕ → Packet → List ℕ
align_packet_to_other time p other q =
    pad_part_before_rest time other (arrow Outbound
    ++ pad_part_before_rest (flags_text p.flags) (flags_text q.flags)
    (pad_part_before_rest (octets_text p) (octets_text q)
    (pad_part_before_rest (numbered (codes " ack ") p.ack) (numbered (codes " ack ") q.ack)
    (pad_part_before_rest (numbered (codes " win ") p.win) (numbered (codes " win ") q.win) (options_text p.options)))))
