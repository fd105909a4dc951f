-- The blocks of jobs.
use Rattle.std.proofs.Common.{◌≡◌, ℕ, Bool, false, List, Option, Some, None, option_map, IfSome, sym, ap, subst, ◌∙◌}
use Rattle.pd_track.specs.declared.task.Task.{Task}
use Rattle.pd_run.specs.declared.verdict.Verdict.{Verdict}
use Rattle.pd_run.specs.declared.verdict.Verdict.TheVariants as verdict
use Rattle.pd_explain.specs.BlockLines.{IsExplanationText, IsLeftoversText}
use Rattle.pd_cause.specs.Explained.{IsCause, line_unless_pass}
use Rattle.pd_cause.specs.Leftovers.{IsLeftovers, is_pass}
use Rattle.pd_cause.specs.declared.explain_verdict.Explanation.{Explanation}
use Rattle.pd_cause.specs.declared.leftovers.Leftovers.{Leftovers}
use Rattle.pd_cli.specs.ExplanationBlocks.{Explains, IsBlockOfLeftovers, IsFailureBlock, IsPassBlock, verdict_of_task}

same_some : (a b : Verdict) → Some a ≡ Some b → a ≡ b
same_some a b e = cc

-- the explanation that is made of a task is its own
explains : (task : Task) (reported : Option Explanation) (e : Explanation) → reported ≡ Some e
    → option_map (λ (x : Explanation). x.verdict) reported ≡ option_map (λ (l : ℕ). verdict_of_task task) (line_unless_pass (verdict_of_task task))
    → option_map (λ (x : Explanation). x.line) reported ≡ line_unless_pass (verdict_of_task task)
    → IfSome reported (λ (x : Explanation). IsCause task.text task.settings (verdict_of_task task) x.cause) → Explains task e
explains task reported e is v l c =
    let line : line_unless_pass (verdict_of_task task) ≡ Some e.line = sym (rw is at l) in
    let same : Some e.verdict ≡ Some (verdict_of_task task) = (rw is at v) ∙ ap (option_map (λ (n : ℕ). verdict_of_task task)) line in
    (same_some e.verdict (verdict_of_task task) same, line, rw is at c)

-- its text
pub failure_text : (json : Bool) (task : Task) (reported : Option Explanation) (e : Explanation) (block : List ℕ) → reported ≡ Some e
    → option_map (λ (x : Explanation). x.verdict) reported ≡ option_map (λ (l : ℕ). verdict_of_task task) (line_unless_pass (verdict_of_task task))
    → option_map (λ (x : Explanation). x.line) reported ≡ line_unless_pass (verdict_of_task task)
    → IfSome reported (λ (x : Explanation). IsCause task.text task.settings (verdict_of_task task) x.cause) → (json ≡ false → IsExplanationText task.name e block) → IsFailureBlock json task block
failure_text json task reported e block is v l c text = (e, explains task reported e is v l c, text)

fails_at : (v : Verdict) → is_pass v ≡ false → None ≡ line_unless_pass v → ⊥
fails_at (verdict.Pass n) p e = absurd cc
fails_at (verdict.Fail line kind) p e = absurd cc
fails_at (verdict.Syntax line) p e = absurd cc
fails_at (verdict.Unsupported line) p e = absurd cc
fails_at (verdict.Limit line) p e = absurd cc

-- a task that doesn't pass has one
pub failure_none : (json : Bool) (task : Task) (reported : Option Explanation) (block : List ℕ) → reported ≡ None → option_map (λ (x : Explanation). x.line) reported ≡ line_unless_pass (verdict_of_task task) → is_pass (verdict_of_task task) ≡ false → IsFailureBlock json task block
failure_none json task reported block is l p = absurd (fails_at (verdict_of_task task) p (rw is at l))

-- the text of what a task that passes leaves
pub pass_text : (json : Bool) (task : Task) (found : Option Leftovers) (leftovers : Leftovers) (block : List ℕ) → found ≡ Some leftovers → IsLeftovers task.text task.settings found → (json ≡ false → IsLeftoversText task.name leftovers block) → IsPassBlock json task block
pass_text json task found leftovers block is h text = (found, h, subst (λ (f : Option Leftovers). IsBlockOfLeftovers json task.name f block) (sym is) text)
