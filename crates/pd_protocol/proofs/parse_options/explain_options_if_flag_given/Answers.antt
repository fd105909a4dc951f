use Rattle.std.proofs.Common.{true, codes, sym, refl, ◌≡◌, ◌∙◌}
use Rattle.pd_protocol.specs.OptionTable.{pdregress, asks_explain}
use Rattle.pd_protocol.proofs.SettingsText.{simple_pdregress, chosen_values}
use Rattle.pd_protocol.proofs.parse_options.explain_options_if_flag_given.Goals as goal

pub returns : goal.returns
returns c = λ words matched.
    let asks : asks_explain words ≡ true = sym (c.has_flag.ensures words matched) ∙ c.if-not-has_flag.false in
    let names = c.in_ok-only.ensures ∙ chosen_values pdregress (codes "only") c.args.matches.now words simple_pdregress matched in
    rw (asks, names, c.has_flag-json.ensures words matched, c.has_flag-leftovers.ensures words matched) refl
