use Rattle.std.proofs.Common.{ap₂, ◌≡◌, ◌∙◌}
use Rattle.std.proofs.lemmas.Result.{IfOk-weaker}
use Rattle.clap.specs.Words.{AddsArg, app_of, with_rule}
use Rattle.clap.specs.declared.builder.command.Command.{Command}
use Rattle.pd_protocol.specs.OptionTable.{pdregress}
use Rattle.pd_protocol.proofs.option_table.add_options_beyond_settings_and_cache.Goals as goal

pub returns : goal.returns
returns c =
    let workers = c.in_ok-arg.ensures.shape c.workers_option.ensures.local ∙ ap₂ with_rule c.requires c.workers_option.ensures.rule in
    let steps = c.in_ok-arg-2.ensures.shape c.step_counts_on_stderr_flag.ensures.local ∙ ap₂ with_rule workers c.step_counts_on_stderr_flag.ensures.rule in
    let rules = c.in_ok-arg-3.ensures.shape c.met_rules_on_stderr_flag.ensures.local ∙ ap₂ with_rule steps c.met_rules_on_stderr_flag.ensures.rule in
    let explain = c.in_ok-arg-4.ensures.shape c.explain_failures_flag.ensures.local ∙ ap₂ with_rule rules c.explain_failures_flag.ensures.rule in
    let only = c.in_ok-arg-5.ensures.shape c.repeatable_only_name_option.ensures.local ∙ ap₂ with_rule explain c.repeatable_only_name_option.ensures.rule in
    let json = c.in_ok-arg-6.ensures.shape c.json_option.ensures.local ∙ ap₂ with_rule only c.json_option.ensures.rule in
    IfOk-weaker c.arg-7.result (AddsArg c.in_ok-arg-6.field-0 c.explain_leftovers_flag.result) (λ (whole : Command). app_of whole ≡ pdregress)
    (λ whole added. added.shape c.explain_leftovers_flag.ensures.local ∙ ap₂ with_rule json c.explain_leftovers_flag.ensures.rule) c.arg-7.ensures
