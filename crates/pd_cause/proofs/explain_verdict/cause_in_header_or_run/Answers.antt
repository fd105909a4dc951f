-- The item of the header is the first that isn't run.
use Rattle.std.proofs.Common.{◌≡◌, ℕ, List, Some, Result, Ok, Err, IfOk, sym, ap, ◌∙◌}
use Rattle.std.specs.declared.alloc.AllocError.{AllocError}
use Rattle.pd_settings.specs.declared.settings.Settings.{Settings}
use Rattle.pd_script.specs.Header.{HeaderView}
use Rattle.pd_script.specs.Script.{script_of}
use Rattle.pd_script.specs.declared.parsed.Parsed.{Parsed}
use Rattle.pd_script.specs.declared.script_header.HeaderItem.{HeaderItem}
use Rattle.pd_reparse.specs.Reading.{script_part}
use Rattle.pd_run.specs.declared.verdict.Verdict.{Verdict}
use Rattle.pd_cause.specs.declared.causes.Cause.{Cause}
use Rattle.pd_cause.specs.Explained.{first_unsupported_header_item, IsCauseIn, IsHeaderCause}
use Rattle.pd_cause.proofs.explain_verdict.cause_in_header_or_run.Goals as goal

by_header : (text : List (List ℕ)) (settings : Settings) (parsed : Parsed) (line : ℕ) (v : Verdict) (item : HeaderItem) (reported : Result Cause AllocError)
    → first_unsupported_header_item parsed.header.items ≡ Some item → IfOk reported (IsHeaderCause text item.kind) → IfOk reported (IsCauseIn text line settings parsed v)
by_header text settings parsed line v item (Ok cause) first is = rw first is
by_header text settings parsed line v item (Err x) first is = tt

pub returns-in-Some : goal.returns-in-Some
returns-in-Some c =
    let script : script_part c.args.reading.now ≡ script_of c.args.lines.now = ap script_part c.requires.reading ∙ c.law_readings_are_scripts.ensures c.args.lines.now in
    let first : first_unsupported_header_item (script_of c.args.lines.now).header.items ≡ Some c.in-Some.item =
    ap (λ (p : Parsed). first_unsupported_header_item p.header.items) (sym script) ∙ (ap (λ (h : HeaderView). first_unsupported_header_item h.items) (sym c.header.ensures) ∙ (sym c.first_unsupported_header_item.ensures ∙ c.in-Some.is)) in
    by_header c.args.lines.now c.args.settings.now (script_of c.args.lines.now) c.args.line c.args.verdict c.in-Some.item c.cause_of_header_item.result first c.cause_of_header_item.ensures
