-- The headline holds of each legal list of acts.
use Rattle.pd_book.proofs.Rows.{rows_run, none_pending}
use Rattle.pd_book.proofs.Splits.{current, rows_are_scripts, rows_of_scratch, from_scratch, rows_grammars, whole_answered, rows_of_whole, scratch_is, scratch_one, taken}
use Rattle.pd_book.proofs.laws.law_verdicts_are_of_current_runs.Goals as goal

pub returns-clause-current : goal.returns-clause-current
returns-clause-current c = current

pub returns-clause-scripts : goal.returns-clause-scripts
returns-clause-scripts c = rows_are_scripts

pub returns-clause-verdicts : goal.returns-clause-verdicts
returns-clause-verdicts c = rows_run

pub returns-clause-scratch : goal.returns-clause-scratch
returns-clause-scratch c = from_scratch

pub returns-clause-rows : goal.returns-clause-rows
returns-clause-rows c = rows_of_scratch

pub returns-clause-grammar : goal.returns-clause-grammar
returns-clause-grammar c = rows_grammars c.law_verdicts_are_of_grammar_scripts.ensures.given

pub returns-clause-whole : goal.returns-clause-whole
returns-clause-whole c = whole_answered c.law_verdicts_are_of_grammar_scripts.ensures.given

pub returns-clause-parts : goal.returns-clause-parts
returns-clause-parts c = rows_of_whole c.law_verdicts_are_of_grammar_scripts.ensures.given

pub returns-clause-one : goal.returns-clause-one
returns-clause-one c = λ scripts settings.
    let laws = c.law_verdicts_are_of_grammar_scripts.ensures in
    (scratch_is laws.given scripts settings, λ report. scratch_one laws.only scripts settings report)

pub returns-clause-owed : goal.returns-clause-owed
returns-clause-owed c = none_pending

pub returns-clause-taken : goal.returns-clause-taken
returns-clause-taken c = taken
