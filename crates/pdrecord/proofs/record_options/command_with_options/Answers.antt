use Rattle.std.proofs.Common.{codes, ap, ap₂, ◌≡◌, ◌∙◌}
use Rattle.clap.specs.Words.{app_of, new_app, with_rule}
use Rattle.clap.specs.Simple.{app_of_fields}
use Rattle.pd_protocol.specs.OptionTable.{settings_rule}
use Rattle.pdrecord.specs.RecordArguments.{trace_rule, minimal_rule, drop_missing_rule, file_rule}
use Rattle.pdrecord.proofs.record_options.command_with_options.Goals as goal

pub returns : goal.returns
returns c =
    let empty = new_app (codes "pdrecord") in
    let named : app_of c.in_ok-bin_name.field-0 ≡ empty = ap app_of_fields c.in_ok-bin_name.ensures.0 ∙ c.new.ensures.app in
    let first : app_of c.in_ok-arg.field-0 ≡ with_rule empty settings_rule = c.in_ok-arg.ensures.shape c.toml_settings_text_option.ensures.local ∙ ap₂ with_rule named c.toml_settings_text_option.ensures.rule in
    let second : app_of c.in_ok-arg-2.field-0 ≡ with_rule (with_rule empty settings_rule) trace_rule = c.in_ok-arg-2.ensures.shape c.trace_option.ensures.local ∙ ap₂ with_rule first c.trace_option.ensures.rule in
    let third : app_of c.in_ok-arg-3.field-0 ≡ with_rule (with_rule (with_rule empty settings_rule) trace_rule) minimal_rule = c.in_ok-arg-3.ensures.shape c.minimal_option.ensures.local ∙ ap₂ with_rule second c.minimal_option.ensures.rule in
    let fourth : app_of c.in_ok-arg-4.field-0 ≡ with_rule (with_rule (with_rule (with_rule empty settings_rule) trace_rule) minimal_rule) drop_missing_rule = c.in_ok-arg-4.ensures.shape c.drop_missing_option.ensures.local ∙ ap₂ with_rule third c.drop_missing_option.ensures.rule in
    let fifth : app_of c.in_ok-arg-5.field-0 ≡ with_rule (with_rule (with_rule (with_rule (with_rule empty settings_rule) trace_rule) minimal_rule) drop_missing_rule) file_rule = c.in_ok-arg-5.ensures.shape c.file_option.ensures.local ∙ ap₂ with_rule fourth c.file_option.ensures.rule in
    ap app_of_fields c.after_help.ensures ∙ (ap app_of_fields c.about.ensures ∙ fifth)
