use Rattle.std.proofs.Common.{ap, refl}
use Rattle.pd_book.specs.Report.{ReportView}
use Rattle.pd_cli.proofs.Beside.{part_of, whole_of, scratch_of}
use Rattle.pd_cli.proofs.verify_report.check_same_scripts_and_settings_as_own.Goals as goal

pub returns-then-has_same_scripts_and_settings-clause-part : goal.returns-then-has_same_scripts_and_settings-clause-part
returns-then-has_same_scripts_and_settings-clause-part c =
    part_of c.law_verdicts_are_of_current_runs.ensures.one c.args.own.now.history c.args.report.now c.in_ok-kept.kept (c.if-has_same_scripts_and_settings.ensures.same.0 refl) (ap (λ (r : ReportView). r.settings) c.in_ok-kept.ensures.shown) c.in_ok-kept.ensures.scripts c.if-has_same_scripts_and_settings.ensures.runs

pub returns-then-has_same_scripts_and_settings-clause-whole : goal.returns-then-has_same_scripts_and_settings-clause-whole
returns-then-has_same_scripts_and_settings-clause-whole c =
    whole_of c.args.own.now.history c.args.report.now c.in_ok-kept.kept (c.if-has_same_scripts_and_settings.ensures.same.0 refl) (ap (λ (r : ReportView). r.settings) c.in_ok-kept.ensures.shown) c.in_ok-kept.ensures.scripts c.if-has_same_scripts_and_settings.ensures.runs

pub returns-then-has_same_scripts_and_settings-clause-scratch : goal.returns-then-has_same_scripts_and_settings-clause-scratch
returns-then-has_same_scripts_and_settings-clause-scratch c = λ all.
    scratch_of c.law_verdicts_are_of_current_runs.ensures.one c.args.own.now.history c.args.report.now
    (whole_of c.args.own.now.history c.args.report.now c.in_ok-kept.kept (c.if-has_same_scripts_and_settings.ensures.same.0 refl) (ap (λ (r : ReportView). r.settings) c.in_ok-kept.ensures.shown) c.in_ok-kept.ensures.scripts c.if-has_same_scripts_and_settings.ensures.runs all)
