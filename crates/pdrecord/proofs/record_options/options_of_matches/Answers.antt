use Rattle.std.proofs.Common.{Bool, codes, ap, refl, List, ℕ, Bor, ◌∙◌}
use Rattle.pd_protocol.proofs.SettingsText.{chosen_text, chosen_values}
use Rattle.pdrecord.specs.RecordArguments.{pdrecord, is_flag_given, record_mode}
use Rattle.pdrecord.proofs.Words.{simple_pdrecord}
use Rattle.pdrecord.proofs.record_options.options_of_matches.Goals as goal

pub returns : goal.returns
returns c = λ arguments matched.
    let settings = ap (λ (b : Bor (List ℕ)). b.now) c.unwrap_or.ensures ∙ chosen_text pdrecord (codes "settings") c.args.matches.now arguments simple_pdrecord matched c.get_str.result _ c.get_str.ensures refl in
    let mode =
    c.record_mode.ensures
    ∙ (ap (λ (b : Bool). record_mode b c.is_flag_given-drops_missing.result c.is_flag_given-with_trace.result) (c.is_flag_given-is_minimal.ensures arguments matched)
    ∙ (ap (λ (b : Bool). record_mode (is_flag_given (codes "minimal") arguments) b c.is_flag_given-with_trace.result) (c.is_flag_given-drops_missing.ensures arguments matched)
    ∙ ap (λ (b : Bool). record_mode (is_flag_given (codes "minimal") arguments) (is_flag_given (codes "drop-missing") arguments) b) (c.is_flag_given-with_trace.ensures arguments matched))) in
    let names = c.in_ok-files.ensures ∙ chosen_values pdrecord (codes "file") c.args.matches.now arguments simple_pdrecord matched in
    (settings, mode, names)
