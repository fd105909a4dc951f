-- The laws of the text that is written.
use Rattle.std.specs.Prelude.{◌≡◌, ℕ, List, [], ◌∷◌, None, IsTrue}
use Rattle.pd_text.specs.Text.{has_no_newline}
use Rattle.pd_lex.specs.Places.{first_place}
use Rattle.pd_script.specs.declared.script_events.Event.{Event}
use Rattle.pd_script.specs.declared.parsed.Parsed.{Parsed}
use Rattle.pd_script.specs.Grammar.{IsEvent}
use Rattle.pd_script.specs.Script.{script_of}
use Rattle.pd_seg.specs.declared.segments.Sent.{Sent}
use Rattle.pd_match.specs.declared.kinds.Kind.{Kind}
use Rattle.pd_match.specs.Agreement.{Agrees}
use Rattle.pd_print.specs.Sent.{packet_of}
use Rattle.pd_print.specs.RoundTrip.{IsReadAs}

-- a script of one event and no header
abbrev pub script_of_one_event : Event → Parsed
script_of_one_event event = record { header = record { items = []; end = first_place }; events = event ∷ []; fault = None }

-- octets that are read as an event are, as a text of one line, a script with just this event
abbrev pub LinesAreScripts : Type 0
LinesAreScripts =
    (event : ℕ → Event) (octets : List ℕ)
    → IsTrue (has_no_newline octets) → IsReadAs IsEvent event octets → script_of (octets ∷ []) ≡ script_of_one_event (event 1)

-- a segment that was sent agrees with the packet that is written of it, in each field and at any time
abbrev pub SentPacketsAgree : Type 0
SentPacketsAgree = (sent : Sent) (tolerance : ℕ) (field : Kind) → Agrees (packet_of sent.segment) None sent tolerance field
