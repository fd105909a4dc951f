-- How packets and their events are written.
use Rattle.std.specs.Prelude.{codes, ℕ, Bool, ◌||◌, List, [], ◌∷◌, ◌++◌, Option, Some, None, if◌then◌else◌}
use Rattle.std.specs.Fmt.{decimal}
use Rattle.pd_script.specs.Values.{sign}
use Rattle.pd_script.specs.declared.timing.Time.{Time}
use Rattle.pd_script.specs.declared.packets.PacketFlags.{PacketFlags}
use Rattle.pd_script.specs.declared.packets.Packet.{Packet}
use Rattle.pd_script.specs.declared.script_events.Action.{Action}
use Rattle.pd_script.specs.declared.script_events.Action.TheVariants as actions
use Rattle.pd_print.specs.declared.packet_texts.Direction.{Direction}
use Rattle.pd_print.specs.declared.packet_texts.Direction.TheVariants.{Inbound, Outbound}
use Rattle.pd_print.specs.Numbers.{time_text}
use Rattle.pd_print.specs.Options.{options_text}

-- an octet, if it is wanted
abbrev pub flag_letter : Bool → ℕ → List ℕ
flag_letter wanted octet = if wanted then octet ∷ [] else []

-- the point of ACK, or `-` where no flag is set
abbrev pub point_text : PacketFlags → List ℕ
point_text f = if f.ack then codes "." else (if f.fin || f.syn || f.rst || f.psh then [] else codes "-")

-- the flags: the letters F, S, R and P of those that are set, in this order, and the point; `-` for none
abbrev pub flags_text : PacketFlags → List ℕ
flags_text f =
    flag_letter f.fin (sign "F") ++ flag_letter f.syn (sign "S") ++ flag_letter f.rst (sign "R") ++ flag_letter f.psh (sign "P") ++ point_text f

-- the start, the end and the length
abbrev pub octets_text : Packet → List ℕ
octets_text p =
    codes " " ++ decimal p.start ++ (codes ":" ++ decimal p.end) ++ (codes "(" ++ decimal p.length) ++ codes ")"

-- a word and a number, where one is written
abbrev pub numbered : List ℕ → Option ℕ → List ℕ
numbered word None = []
numbered word (Some n) = word ++ decimal n

-- the acknowledgment number and the window, where they are written
abbrev pub fields_text : Packet → List ℕ
fields_text p = numbered (codes " ack ") p.ack ++ numbered (codes " win ") p.win

-- a packet
abbrev pub packet_text : Packet → List ℕ
packet_text p = flags_text p.flags ++ octets_text p ++ fields_text p ++ options_text p.options

-- the arrow of a direction between blanks
abbrev pub arrow : Direction → List ℕ
arrow Inbound = codes " < "
arrow Outbound = codes " > "

-- an event in which a packet arrives or leaves
abbrev pub event_text : Time → Direction → Packet → List ℕ
event_text time direction packet = time_text time ++ arrow direction ++ packet_text packet

-- the action of such an event
abbrev pub action_of : Direction → Packet → Action
action_of Inbound packet = actions.Inbound packet
action_of Outbound packet = actions.Outbound packet
