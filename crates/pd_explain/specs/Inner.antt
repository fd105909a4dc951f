-- Definitions that contracts of private functions cite and no public one does.
use Rattle.std.specs.Prelude.{◌≡◌, ◌==◌, ℕ, List, [], ◌∷◌, ◌++◌, ◌+◌, ◌-◌, codes, drop, flat_map, map, length, Option, Some, None, if◌then◌else◌}
use Rattle.std.specs.Borrow.{Bor}
use Rattle.std.specs.Fmt.{decimal}
use Rattle.pd_print.specs.Numbers.{fixed_seconds_text}
use Rattle.pd_explain.specs.BlockLines.{AreIndented, AreShown, ReportsTexts, origin_text}
use Rattle.pd_explain.specs.declared.render.facts.Fact.{Fact}
use Rattle.pd_explain.specs.declared.render.facts.FactValue.{FactValue}
use Rattle.pd_explain.specs.declared.render.facts.FactValue.TheVariants.{Octets, Packet, Words, Moment, Number, Nothing}
use Rattle.pd_script.specs.declared.script_events.Event.{Event}
use Rattle.pd_host.specs.declared.connection.loss_evidence.LossEvidence.{LossEvidence}
use Rattle.pd_host.specs.declared.connection.loss_evidence.SackEvidence.{SackEvidence}
use Rattle.pd_run.specs.Laws.{unmatched}
use Rattle.pd_run.specs.Step.{RunStateView}
use Rattle.pd_run.specs.declared.stepper.StepEnd.{StepEnd}
use Rattle.pd_run.specs.declared.stepper.StepEnd.TheVariants.{Go, Stop}
use Rattle.pd_seg.specs.declared.segments.Sent.{Sent}
use Rattle.pd_seg.specs.declared.send_rule.SendRule.{SendRule}
use Rattle.pd_cause.specs.Dropped.{deciding_check}
use Rattle.pd_explain.specs.RuleNames.{each_once}
use Rattle.pd_explain.specs.RulePhases.{phases}
use Rattle.pd_explain.specs.RuleTrace.{numbers_in, rule_line, rule_of_oldest_or_next, rules_of_event}
use Rattle.pd_explain.specs.declared.rule_trace.BeforeEvent.{BeforeEvent}

-- the names behind references
abbrev pub names_of : List (Bor (List ℕ)) → List (List ℕ)
names_of = map (λ name. name.now)

-- the rules of the packets from a place on
abbrev pub unmatched_rules_from : ℕ → List Sent → List SendRule
unmatched_rules_from from packets = map (λ (sent : Sent). sent.rule) (drop from packets)

-- this is how a sender stands before an event
pub record IsBefore (r : RunStateView) (e : Event) (before : BeforeEvent) : Type 0 where
  pub awaited : before.awaited ≡ rule_of_oldest_or_next r
  pub unmatched_is : before.unmatched ≡ length (unmatched r)
  pub check : before.check ≡ deciding_check r e
  pub phases_are : names_of before.phases.items ≡ phases r.host.state
  pub numbers_are : before.numbers ≡ numbers_in r.host.state

-- an event that passes gets its line, another one none
abbrev pub NotesRules : List ℕ → RunStateView → Event → RunStateView → StepEnd → List ℕ → List ℕ → Type 0
NotesRules of r e s Go old new = new ≡ old ++ rule_line of e.line (each_once (rules_of_event r e s))
NotesRules of r e s (Stop v) old new = new ≡ old

-- octets get further lines, indented ones
pub record AddsLines (old : List ℕ) (new : List ℕ) : Type 0 where
  pub more : List ℕ
  pub lines : AreIndented more
  pub added : new ≡ old ++ more

-- octets get lines that show these texts, one each
pub record AddsTexts (texts : List (List ℕ)) (old : List ℕ) (new : List ℕ) : Type 0 where
  pub more : List ℕ
  pub shown : AreShown texts more
  pub added : new ≡ old ++ more

-- octets get further lines, indented ones, among them those that show these texts
pub record AddsReport (texts : List (List ℕ)) (old : List ℕ) (new : List ℕ) : Type 0 where
  pub more : List ℕ
  pub reports : ReportsTexts texts more
  pub added : new ≡ old ++ more

-- the text of a value
abbrev pub value_text : FactValue → List ℕ
value_text (Octets octets) = octets.now
value_text (Packet octets origin) = octets.now ++ origin_text origin
value_text (Words words) = words.now
value_text (Moment moment) = fixed_seconds_text moment
value_text (Number number) = decimal number
value_text (Nothing words) = words.now

-- the text of a fact, if it has a label
abbrev pub texts_of_fact : Fact → List (List ℕ)
texts_of_fact fact = if length fact.label.now == 0 then [] else ((fact.label.now ++ (codes ": " ++ value_text fact.value)) ∷ [])

-- the texts of facts
abbrev pub fact_texts : List Fact → List (List ℕ)
fact_texts facts = flat_map texts_of_fact facts

-- texts begin with others
abbrev pub BeginsWith : List (List ℕ) → List (List ℕ) → Type 0
BeginsWith first texts = (rest : List (List ℕ)) × (texts ≡ first ++ rest)

-- facts get further ones, whose texts begin with these
pub record AddsFacts (first : List (List ℕ)) (old : List Fact) (new : List Fact) : Type 0 where
  pub more : List Fact
  pub begins : BeginsWith first (fact_texts more)
  pub added : new ≡ old ++ more

-- the number of a value, if it is one
abbrev pub number_in : FactValue → Option ℕ
number_in (Number number) = Some number
number_in value = None

-- a fact in JSON: its key and its number
abbrev pub key_and_number : Fact → List ℕ × Option ℕ
key_and_number fact = (fact.key.now, number_in fact.value)

-- facts get further ones, with these keys and numbers
pub record AddsNumbers (numbers : List (List ℕ × Option ℕ)) (old : List Fact) (new : List Fact) : Type 0 where
  pub more : List Fact
  pub are : map key_and_number more ≡ numbers
  pub added : new ≡ old ++ more

-- the numbers of SACKed octets, each with its key: how many octets and ranges above SND.UNA are SACKed, and how many show a loss
-- (RFC 6675, section 4, IsLost)
abbrev pub sack_evidence_numbers : Option SackEvidence → List (List ℕ × Option ℕ)
sack_evidence_numbers None = []
sack_evidence_numbers (Some above) =
    (codes "sacked_octets", Some above.octets) ∷ (codes "sacked_octets_exceeded", Some above.most)
    ∷ (codes "sacked_ranges", Some above.runs) ∷ (codes "sacked_ranges_needed", Some above.needed) ∷ []

-- the numbers of what shows a loss: how many duplicates came and how many are needed (RFC 6675, section 5), and with SACK those
-- of SACKed octets
abbrev pub loss_evidence_numbers : LossEvidence → List (List ℕ × Option ℕ)
loss_evidence_numbers evidence =
    (codes "duplicates", Some evidence.dup_acks) ∷ (codes "duplicates_needed", Some evidence.needed) ∷ sack_evidence_numbers evidence.sacked
