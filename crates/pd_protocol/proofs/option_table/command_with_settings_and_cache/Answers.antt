use Rattle.std.proofs.Common.{codes, ap, ap₂, ◌≡◌, ◌∙◌}
use Rattle.clap.specs.Words.{app_of, new_app, with_rule}
use Rattle.clap.specs.Simple.{app_of_fields}
use Rattle.pd_protocol.specs.OptionTable.{settings_rule, cache_rule}
use Rattle.pd_protocol.proofs.option_table.command_with_settings_and_cache.Goals as goal

pub returns-clause-words : goal.returns-clause-words
returns-clause-words c =
    let empty = new_app (codes "pdregress") in
    let named : app_of c.in_ok-bin_name.field-0 ≡ empty = ap app_of_fields c.in_ok-bin_name.ensures.0 ∙ c.new.ensures.app in
    let first : app_of c.in_ok-arg.field-0 ≡ with_rule empty settings_rule = c.in_ok-arg.ensures.shape c.toml_settings_text_option.ensures.local ∙ ap₂ with_rule named c.toml_settings_text_option.ensures.rule in
    let second : app_of c.in_ok-arg-2.field-0 ≡ with_rule (with_rule empty settings_rule) cache_rule = c.in_ok-arg-2.ensures.shape c.cache_option.ensures.local ∙ ap₂ with_rule first c.cache_option.ensures.rule in
    ap app_of_fields c.after_help.ensures ∙ (ap app_of_fields c.about.ensures ∙ second)
