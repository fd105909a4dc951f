use Rattle.std.proofs.Common.{◌∙◌, ◌++◌, List, ℕ, refl, codes, ap}
use Rattle.pdrecord.specs.FileSections.{title}
use Rattle.pdrecord.specs.declared.outcome.Outcome.TheVariants.{Recorded, Refused}
use Rattle.pdrecord.proofs.Sections.{comes_of}
use Rattle.pdrecord.proofs.file_sections.record_file_to_section.Goals as goal

pub returns-in-Recorded-clause-section : goal.returns-in-Recorded-clause-section
returns-in-Recorded-clause-section g c =
    let came = comes_of c.args.settings.now c.args.mode _ _ c.in_ok-input.input.lines (Recorded c.in-Recorded.octets) c.in_ok-file.ensures.octets_in c.in_ok-input.ensures.lines (rw c.in-Recorded.is at c.in_ok-octets.ensures.outcome) in
    let made = c.in_ok-octets_with_title-in-Recorded.ensures ∙ ap (λ (o : List ℕ). title (codes "recorded ") o c.args.name.now ++ o) c.as_slice.ensures.value in
    (Recorded c.in-Recorded.octets, came, refl, made)

pub returns-clause-section : goal.returns-clause-section
returns-clause-section g c =
    let came = comes_of c.args.settings.now c.args.mode _ _ c.in_ok-input.input.lines (Refused c.in-Refused.message) c.in_ok-file.ensures.octets_in c.in_ok-input.ensures.lines (rw c.in-Refused.is at c.in_ok-octets.ensures.outcome) in
    let made = c.in_ok-octets_with_title-in-Refused.ensures ∙ ap (λ (o : List ℕ). title (codes "refused ") o c.args.name.now ++ o) c.as_slice-in-Refused.ensures.value in
    (Refused c.in-Refused.message, came, refl, made)
