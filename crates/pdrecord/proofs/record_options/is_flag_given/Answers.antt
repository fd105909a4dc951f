use Rattle.std.proofs.Common.{codes, ap, refl, bytes_eq, List, ℕ, Bor, ◌∙◌}
use Rattle.pd_protocol.proofs.SettingsText.{chosen_text}
use Rattle.pdrecord.specs.RecordArguments.{pdrecord}
use Rattle.pdrecord.proofs.Words.{simple_pdrecord}
use Rattle.pdrecord.proofs.record_options.is_flag_given.Goals as goal

pub returns : goal.returns
returns c = λ arguments matched.
    let text = ap (λ (b : Bor (List ℕ)). b.now) c.unwrap_or.ensures ∙ chosen_text pdrecord c.args.name.now c.args.matches.now arguments simple_pdrecord matched c.get_str.result _ c.get_str.ensures refl in
    c.is_word_true.ensures ∙ ap (λ (t : List ℕ). bytes_eq t (codes "true")) (c.as_bytes.ensures.value ∙ text)
