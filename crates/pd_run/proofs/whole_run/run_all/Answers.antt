-- The verdict that was found is the grammar's.
use Rattle.std.proofs.Common.{◌≡◌, Result, Ok, Err, IfOk, sym, subst}
use Rattle.pd_run.specs.declared.verdict.Verdict.{Verdict}
use Rattle.pd_run.proofs.whole_run.run_all.Goals as goal

so : {E : Type 0} (P : Verdict → Type 0) (is : Verdict) (r : Result Verdict E) → IfOk r (λ v. v ≡ is) → P is → IfOk r P
so P is (Ok v) e h = subst P (sym e) h
so P is (Err x) e h = tt

pub returns-clause-grammar : goal.returns-clause-grammar
returns-clause-grammar c = so _ _ c.run_with_stepper.result c.run_with_stepper.ensures.verdict (c.law_verdicts_are_of_grammar_scripts.ensures.given c.args.lines.now c.args.settings.now)
