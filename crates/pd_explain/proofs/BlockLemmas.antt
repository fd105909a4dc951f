-- Lines that are added one after the other.
use Rattle.std.proofs.Common.{◌≡◌, ◌≤◌, ℕ, true, List, [], ◌∷◌, ◌++◌, length, refl, sym, ap, subst, ◌∙◌, codes, append_assoc, append-nil}
use Rattle.std.specs.Fmt.{decimal}
use Rattle.std.specs.List.{list_all}
use Rattle.std.proofs.lemmas.Bool.{and_from}
use Rattle.std.proofs.lemmas.List.Folds.{list_all-append}
use Rattle.std.proofs.lemmas.List.Concat.{flat_map-append}
use Rattle.pd_refusal.specs.Escape.{are_printable, escaped}
use Rattle.pd_explain.specs.Headings.{IsPassHeading, heading}
use Rattle.pd_explain.specs.BlockLines.{indented, IsLeftoversText, AreIndented, AreShown, IsBlock, ReportsTexts, Shows, sent_by_text, trigger_text}
use Rattle.pd_explain.specs.SendRules.{send_rule_words}
use Rattle.pd_cause.specs.declared.leftovers.Leftovers.{Leftovers}
use Rattle.pd_cause.specs.declared.origins.Origin.{Origin}
use Rattle.pd_cause.specs.declared.origins.Trigger.{Trigger}
use Rattle.pd_cause.specs.declared.origins.Trigger.TheVariants.{Line}
use Rattle.pd_explain.specs.Inner.{AddsLines, AddsReport, AddsTexts, BeginsWith}

-- none
pub no_lines : (out : List ℕ) → AddsLines out out
no_lines out = record { more = []; lines = ([], refl, refl); added = sym (append-nil out) }

-- one
pub one_line : (old line new : List ℕ) → are_printable line ≡ true → new ≡ ((old ++ codes "  ") ++ line) ++ codes "\n" → AddsLines old new
one_line old line new h e = record {
  more = codes "  " ++ line ++ codes "\n";
  lines = (line ∷ [], and_from (are_printable line) true h refl, sym (append-nil (codes "  " ++ line ++ codes "\n")));
  added = e ∙ (ap (λ (l : List ℕ). l ++ codes "\n") (append_assoc old (codes "  ") line) ∙ append_assoc old (codes "  " ++ line) (codes "\n"));
}

indented_more : (xs ys : List ℕ) → AreIndented xs → AreIndented ys → AreIndented (xs ++ ys)
indented_more xs ys a b = (
  a.0 ++ b.0,
  list_all-append are_printable a.0 b.0 ∙ and_from (list_all are_printable a.0) (list_all are_printable b.0) a.1 b.1,
  ap (λ (l : List ℕ). l ++ ys) a.2 ∙ (ap (λ (l : List ℕ). indented a.0 ++ l) b.2 ∙ sym (flat_map-append (λ (line : List ℕ). codes "  " ++ line ++ codes "\n") a.0 b.0)),
)

-- some, and then some more
pub then_lines : (old mid new : List ℕ) → AddsLines old mid → AddsLines mid new → AddsLines old new
then_lines old mid new a b = record {
  more = a.more ++ b.more;
  lines = indented_more a.more b.more a.lines b.lines;
  added = b.added ∙ (ap (λ (l : List ℕ). l ++ b.more) a.added ∙ append_assoc old a.more b.more);
}

-- all of them
pub all_added : (new : List ℕ) → AddsLines [] new → AreIndented new
all_added new a = (a.lines.0, a.lines.1, a.added ∙ a.lines.2)

-- below a first line
pub is_block : (first below block : List ℕ) → are_printable first ≡ true → AreIndented below → block ≡ (first ++ codes "\n") ++ below → IsBlock block
is_block first below block h a e = (first, below, h, a, e)

-- lines that show texts are indented
shown_indented : (texts : List (List ℕ)) (octets : List ℕ) → AreShown texts octets → AreIndented octets
shown_indented [] octets h = ([], refl, h)
shown_indented (text ∷ texts) octets h =
    let rest = shown_indented texts h.1 h.3 in
    (h.0 ∷ rest.0, and_from (are_printable h.0) (list_all are_printable rest.0) h.2.0 rest.1, h.4 ∙ ap (λ (l : List ℕ). (codes "  " ++ h.0 ++ codes "\n") ++ l) rest.2)

-- lines that show the first texts, and then those that show the others
shown_parts : (first rest : List (List ℕ)) (octets : List ℕ) → AreShown (first ++ rest) octets → (front : List ℕ) × (back : List ℕ) × AreShown first front × AreShown rest back × (octets ≡ front ++ back)
shown_parts [] rest octets h = ([], octets, refl, h, refl)
shown_parts (text ∷ first) rest octets h =
    let parts = shown_parts first rest h.1 h.3 in (
      (codes "  " ++ h.0 ++ codes "\n") ++ parts.0,
      parts.1,
      (h.0, parts.0, h.2, parts.2, refl),
      parts.3,
      h.4 ∙ (ap (λ (l : List ℕ). (codes "  " ++ h.0 ++ codes "\n") ++ l) parts.4 ∙ sym (append_assoc (codes "  " ++ h.0 ++ codes "\n") parts.0 parts.1)),
    )

shown_more : (first rest : List (List ℕ)) (front back : List ℕ) → AreShown first front → AreShown rest back → AreShown (first ++ rest) (front ++ back)
shown_more [] rest front back h k = subst (λ (l : List ℕ). AreShown rest (l ++ back)) (sym h) k
shown_more (text ∷ first) rest front back h k = (
  h.0,
  h.1 ++ back,
  h.2,
  shown_more first rest h.1 back h.3 k,
  ap (λ (l : List ℕ). l ++ back) h.4 ∙ append_assoc (codes "  " ++ h.0 ++ codes "\n") h.1 back,
)

-- no text
pub no_texts : (out : List ℕ) → AddsTexts [] out out
no_texts out = record { more = []; shown = refl; added = sym (append-nil out) }

-- one, as the line that shows it
pub one_text : (text line old new : List ℕ) → are_printable line ≡ true → (length (escaped text) ≤ 200 → line ≡ escaped text) → new ≡ old ++ (codes "  " ++ line ++ codes "\n") → AddsTexts (text ∷ []) old new
one_text text line old new h s e = record {
  more = (codes "  " ++ line ++ codes "\n") ++ [];
  shown = (line, [], (h, s), refl, refl);
  added = e ∙ ap (λ (l : List ℕ). old ++ l) (sym (append-nil (codes "  " ++ line ++ codes "\n")));
}

-- some, and then some more
pub then_texts : (first rest : List (List ℕ)) (old mid new : List ℕ) → AddsTexts first old mid → AddsTexts rest mid new → AddsTexts (first ++ rest) old new
then_texts first rest old mid new a b = record {
  more = a.more ++ b.more;
  shown = shown_more first rest a.more b.more a.shown b.shown;
  added = b.added ∙ (ap (λ (l : List ℕ). l ++ b.more) a.added ∙ append_assoc old a.more b.more);
}

-- the first of the texts are reported
pub report_first : (first texts : List (List ℕ)) (old new : List ℕ) → BeginsWith first texts → AddsTexts texts old new → AddsReport first old new
report_first first texts old new begins a =
    let parts = shown_parts first begins.0 a.more (subst (λ (t : List (List ℕ)). AreShown t a.more) begins.1 a.shown) in
    record { more = a.more; reports = ([], parts.0, parts.1, ([], refl, refl), parts.2, shown_indented begins.0 parts.1 parts.3, parts.4); added = a.added }

-- between other lines
pub report_between : (texts : List (List ℕ)) (old before after new : List ℕ) → AddsLines old before → AddsReport texts before after → AddsLines after new → AddsReport texts old new
report_between texts old before after new a r b =
    let report = r.reports in
    record {
      more = a.more ++ (r.more ++ b.more);
      reports = (
        a.more ++ report.0,
        report.1,
        report.2 ++ b.more,
        indented_more a.more report.0 a.lines report.3,
        report.4,
        indented_more report.2 b.more report.5 b.lines,
        ap (λ (l : List ℕ). a.more ++ (l ++ b.more)) report.6
            ∙ (ap (λ (l : List ℕ). a.more ++ l) (append_assoc report.0 (report.1 ++ report.2) b.more ∙ ap (λ (l : List ℕ). report.0 ++ l) (append_assoc report.1 report.2 b.more))
            ∙ sym (append_assoc a.more report.0 (report.1 ++ (report.2 ++ b.more)))),
      );
      added = b.added ∙ (ap (λ (l : List ℕ). l ++ b.more) (r.added ∙ (ap (λ (l : List ℕ). l ++ r.more) a.added ∙ append_assoc old a.more r.more)) ∙ (append_assoc old (a.more ++ r.more) b.more ∙ ap (λ (l : List ℕ). old ++ l) (append_assoc a.more r.more b.more)));
    }

-- reports are lines
pub report_lines : (texts : List (List ℕ)) (old new : List ℕ) → AddsReport texts old new → AddsLines old new
report_lines texts old new r =
    let report = r.reports in
    record {
      more = r.more;
      lines = subst AreIndented (sym report.6) (indented_more report.0 (report.1 ++ report.2) report.3 (indented_more report.1 report.2 (shown_indented texts report.1 report.4) report.5));
      added = r.added;
    }

-- all that is reported
pub all_reported : (texts : List (List ℕ)) (new : List ℕ) → AddsReport texts [] new → ReportsTexts texts new
all_reported texts new r = subst (ReportsTexts texts) (sym r.added) r.reports

-- the line of the input that sent a packet
pub sent_by_line : (trigger : Trigger) (line : ℕ) (old mid new : List ℕ) → trigger ≡ Line line → mid ≡ old ++ codes ", sent by line " → new ≡ mid ++ decimal line → new ≡ old ++ trigger_text trigger
sent_by_line trigger line old mid new o e f =
    f ∙ (ap (λ (l : List ℕ). l ++ decimal line) e ∙ (append_assoc old (codes ", sent by line ") (decimal line) ∙ ap (λ (each : Trigger). old ++ trigger_text each) (sym o)))

-- and the rule after that
pub sent_by_rule : (origin : Origin) (old first second new : List ℕ) → first ≡ old ++ trigger_text origin.trigger → second ≡ first ++ codes ": " → new ≡ second ++ send_rule_words origin.rule
    → new ≡ old ++ sent_by_text origin
sent_by_rule origin old first second new d e f =
    f ∙ (ap (λ (l : List ℕ). l ++ send_rule_words origin.rule) (e ∙ ap (λ (l : List ℕ). l ++ codes ": ") d)
    ∙ (append_assoc (old ++ trigger_text origin.trigger) (codes ": ") (send_rule_words origin.rule)
    ∙ append_assoc old (trigger_text origin.trigger) (codes ": " ++ send_rule_words origin.rule)))

-- the first line of a block on a script that passes, with its words
pub pass_heading : (name : List ℕ) (line : ℕ) (words octets : List ℕ) → octets ≡ heading name line (codes "pass") words → IsPassHeading name line octets
pass_heading name line words octets e = (words, e)

-- with lines below it
pub is_leftovers_text : (name first below block : List ℕ) (leftovers : Leftovers) → IsPassHeading name leftovers.line first → AreIndented below → block ≡ (first ++ codes "\n") ++ below → IsLeftoversText name leftovers block
is_leftovers_text name first below block leftovers h a e = (first, below, h, a, e)
