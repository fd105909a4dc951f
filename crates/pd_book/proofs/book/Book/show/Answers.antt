-- Properties of the report that a legal history shows.
use Rattle.std.proofs.Common.{◌≡◌, Result, Ok, Err, IfOk, sym, subst}
use Rattle.pd_book.specs.Report.{ReportView}
use Rattle.pd_book.proofs.Rows.{rows_run}
use Rattle.pd_book.proofs.Splits.{current, rows_are_scripts, rows_of_scratch, from_scratch, rows_grammars, whole_answered, rows_of_whole}
use Rattle.pd_book.proofs.book.Book.show.Goals as goal

-- a fact of the value that a result has
fact_of : {E : Type 0} (P : ReportView → Type 0) (value : ReportView) (r : Result ReportView E) → IfOk r (λ x. x ≡ value) → P value → IfOk r P
fact_of P value (Ok x) e h = subst P (sym e) h
fact_of P value (Err x) e h = tt

pub returns-clause-current : goal.returns-clause-current
returns-clause-current c = fact_of _ _ c.report.result c.report.ensures (current c.args.self.now.history.opening c.args.self.now.history.past c.law_invariant.ensures)

pub returns-clause-scripts : goal.returns-clause-scripts
returns-clause-scripts c = fact_of _ _ c.report.result c.report.ensures (rows_are_scripts c.args.self.now.history.opening c.args.self.now.history.past)

pub returns-clause-verdicts : goal.returns-clause-verdicts
returns-clause-verdicts c = fact_of _ _ c.report.result c.report.ensures (rows_run c.args.self.now.history.opening c.args.self.now.history.past)

pub returns-clause-scratch : goal.returns-clause-scratch
returns-clause-scratch c = fact_of _ _ c.report.result c.report.ensures (from_scratch c.args.self.now.history.opening c.args.self.now.history.past)

pub returns-clause-rows : goal.returns-clause-rows
returns-clause-rows c = fact_of _ _ c.report.result c.report.ensures (rows_of_scratch c.args.self.now.history.opening c.args.self.now.history.past)

pub returns-clause-grammar : goal.returns-clause-grammar
returns-clause-grammar c = fact_of _ _ c.report.result c.report.ensures (rows_grammars c.law_verdicts_are_of_grammar_scripts.ensures.given c.args.self.now.history.opening c.args.self.now.history.past)

pub returns-clause-whole : goal.returns-clause-whole
returns-clause-whole c = fact_of _ _ c.report.result c.report.ensures (whole_answered c.law_verdicts_are_of_grammar_scripts.ensures.given c.args.self.now.history.opening c.args.self.now.history.past)

pub returns-clause-parts : goal.returns-clause-parts
returns-clause-parts c = fact_of _ _ c.report.result c.report.ensures (rows_of_whole c.law_verdicts_are_of_grammar_scripts.ensures.given c.args.self.now.history.opening c.args.self.now.history.past)
