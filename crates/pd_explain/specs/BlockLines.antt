-- The lines of a block.
use Rattle.std.specs.Prelude.{◌≡◌, ◌≤◌, true, ℕ, List, [], ◌∷◌, ◌++◌, length, codes, flat_map, slice_get, Option, Some, None}
use Rattle.std.specs.Fmt.{decimal}
use Rattle.std.specs.List.{list_all}
use Rattle.pd_refusal.specs.Escape.{are_printable, escaped}
use Rattle.pd_explain.specs.SendRules.{send_rule_words}
use Rattle.pd_explain.specs.Headings.{IsPassHeading, explanation_words, heading, verdict_name_with_kind}
use Rattle.pd_cause.specs.declared.causes.Cause.{Cause}
use Rattle.pd_cause.specs.declared.causes.Cause.TheVariants as cause
use Rattle.pd_cause.specs.declared.causes.failure.Failed.{Failed}
use Rattle.pd_cause.specs.declared.causes.failure.Failed.TheVariants as failed
use Rattle.pd_cause.specs.declared.explain_verdict.Explanation.{Explanation}
use Rattle.pd_cause.specs.declared.leftovers.Leftovers.{Leftovers}
use Rattle.pd_cause.specs.declared.origins.Origin.{Origin}
use Rattle.pd_cause.specs.declared.origins.Trigger.{Trigger}
use Rattle.pd_cause.specs.declared.origins.Trigger.TheVariants.{Line, Timer}

-- lines, each indented by two spaces and ended by a newline
abbrev pub indented : List (List ℕ) → List ℕ
indented lines = flat_map (λ (line : List ℕ). codes "  " ++ line ++ codes "\n") lines

-- octets are lines of printable octets, each indented so
abbrev pub AreIndented : List ℕ → Type 0
AreIndented octets = (lines : List (List ℕ)) × (list_all are_printable lines ≡ true) × (octets ≡ indented lines)

-- octets are a block: a line of printable octets, and those that are indented below it
abbrev pub IsBlock : List ℕ → Type 0
IsBlock octets =
    (first : List ℕ) × (below : List ℕ) × (are_printable first ≡ true) × AreIndented below
    × (octets ≡ (first ++ codes "\n") ++ below)

-- a line shows a text: escaped, and whole if it then has at most 200 octets
abbrev pub Shows : List ℕ → List ℕ → Type 0
Shows text line = (are_printable line ≡ true) × (length (escaped text) ≤ 200 → line ≡ escaped text)

-- octets are indented lines that show these texts, one each
abbrev pub AreShown : List (List ℕ) → List ℕ → Type 0
AreShown [] octets = octets ≡ []
AreShown (text ∷ texts) octets =
    (line : List ℕ) × (rest : List ℕ) × Shows text line × AreShown texts rest × (octets ≡ (codes "  " ++ line ++ codes "\n") ++ rest)

-- octets are indented lines, among them those that show these texts, one after another
abbrev pub ReportsTexts : List (List ℕ) → List ℕ → Type 0
ReportsTexts texts octets =
    (front : List ℕ) × (shown : List ℕ) × (back : List ℕ) × AreIndented front × AreShown texts shown × AreIndented back
    × (octets ≡ front ++ (shown ++ back))

-- the trigger of a packet, after its text
abbrev pub trigger_text : Trigger → List ℕ
trigger_text Timer = codes ", sent by the timer"
trigger_text (Line line) = codes ", sent by line " ++ decimal line

-- the origin of a packet, after its text: its trigger, and the rule in words
abbrev pub sent_by_text : Origin → List ℕ
sent_by_text origin = trigger_text origin.trigger ++ (codes ": " ++ send_rule_words origin.rule)

-- the same where it is known
abbrev pub origin_text : Option Origin → List ℕ
origin_text (Some origin) = sent_by_text origin
origin_text None = []

-- the texts of the packets that a failure compares, each with its label: the one that the script expects, and the one that was
-- sent
abbrev pub failure_texts : Failed → Option Origin → List (List ℕ)
failure_texts (failed.Packet packets) origin =
    (codes "script packet: " ++ packets.script.items) ∷ (codes "actual packet: " ++ (packets.actual.items ++ origin_text origin)) ∷ []
failure_texts (failed.Missing packet) origin = (codes "script packet: " ++ packet.script.items) ∷ []
failure_texts _ origin = []

-- those of a cause; the first origin is that of the packet that was sent
abbrev pub packet_texts : Cause → List (List ℕ)
packet_texts (cause.Failed f) = failure_texts f.failed (slice_get f.origins.items 0)
packet_texts _ = []

-- octets are the block of an explanation of the script of this name: its heading, and indented lines, among them those of its
-- packets
abbrev pub IsExplanationText : List ℕ → Explanation → List ℕ → Type 0
IsExplanationText name e octets =
    (below : List ℕ) × ReportsTexts (packet_texts e.cause) below
    × (octets ≡ (heading name e.line (verdict_name_with_kind e.verdict) (explanation_words e) ++ codes "\n") ++ below)

-- octets are the block of what a script of this name leaves that passes: its heading, and indented lines
abbrev pub IsLeftoversText : List ℕ → Leftovers → List ℕ → Type 0
IsLeftoversText name leftovers octets =
    (first : List ℕ) × (below : List ℕ) × IsPassHeading name leftovers.line first × AreIndented below × (octets ≡ (first ++ codes "\n") ++ below)
