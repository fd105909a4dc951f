use Rattle.std.proofs.Common.{codes, ap, refl, bytes_eq, List, ℕ, Bor, ◌∙◌}
use Rattle.pd_protocol.specs.OptionTable.{pdregress}
use Rattle.pd_protocol.proofs.SettingsText.{simple_pdregress, chosen_text}
use Rattle.pd_protocol.proofs.parse_options.has_flag.Goals as goal

pub returns : goal.returns
returns c = λ words matched.
    let text = ap (λ (b : Bor (List ℕ)). b.now) c.unwrap_or.ensures ∙ chosen_text pdregress c.args.name.now c.args.matches.now words simple_pdregress matched c.get_str.result _ c.get_str.ensures refl in
    c.is_word_true.ensures ∙ ap (λ (t : List ℕ). bytes_eq t (codes "true")) (c.as_bytes.ensures.value ∙ text)
