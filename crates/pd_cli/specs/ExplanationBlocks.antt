-- The blocks that are written of jobs that are looked into.
use Rattle.std.specs.Prelude.{◌≡◌, ℕ, ◌==◌, ◌||◌, Bool, true, false, List, [], ◌∷◌, ◌++◌, Option, Some, None, length, bytes_eq}
use Rattle.std.specs.List.{list_any}
use Rattle.pd_track.specs.declared.task.Task.{Task}
use Rattle.pd_run.specs.Run.{verdict_of}
use Rattle.pd_run.specs.declared.verdict.Verdict.{Verdict}
use Rattle.pd_explain.specs.BlockLines.{IsExplanationText, IsLeftoversText}
use Rattle.pd_cause.specs.Explained.{IsCause, line_unless_pass}
use Rattle.pd_cause.specs.Leftovers.{IsLeftovers, is_pass}
use Rattle.pd_cause.specs.declared.explain_verdict.Explanation.{Explanation}
use Rattle.pd_cause.specs.declared.leftovers.Leftovers.{Leftovers}
use Rattle.pd_protocol.specs.ChosenOptions.{Explaining}
use Rattle.pd_cli.specs.StepLines.{FinishedJob}

-- a script of this name is looked into: it is among the names, or there are none
abbrev pub is_selected_or_none_selected : List (List ℕ) → List ℕ → Bool
is_selected_or_none_selected only name = length only == 0 || list_any (λ each. bytes_eq each name) only

-- the verdict of a task: that of a run of its text under its settings
abbrev pub verdict_of_task : Task → Verdict
verdict_of_task task = verdict_of task.text task.settings

-- an explanation is that of a task that doesn't pass: it has its verdict, the line of it, and its cause
abbrev pub Explains : Task → Explanation → Type 0
Explains task e =
    (e.verdict ≡ verdict_of_task task) × (line_unless_pass (verdict_of_task task) ≡ Some e.line) × IsCause task.text task.settings (verdict_of_task task) e.cause

-- a block is that of a task that doesn't pass: as text, of its explanation
abbrev pub IsFailureBlock : Bool → Task → List ℕ → Type 0
IsFailureBlock json task block = (e : Explanation) × Explains task e × (json ≡ false → IsExplanationText task.name e block)

-- a block is that of these leftovers, where there are some: as text, with their heading
abbrev pub IsBlockOfLeftovers : Bool → List ℕ → Option Leftovers → List ℕ → Type 0
IsBlockOfLeftovers json name None block = block ≡ []
IsBlockOfLeftovers json name (Some leftovers) block = json ≡ false → IsLeftoversText name leftovers block

-- a block is that of a task that passes, for what it leaves
abbrev pub IsPassBlock : Bool → Task → List ℕ → Type 0
IsPassBlock json task block = (leftovers : Option Leftovers) × IsLeftovers task.text task.settings leftovers × IsBlockOfLeftovers json task.name leftovers block

-- a block is that of a task: nothing where its script isn't looked into, or passes and leftovers aren't asked for
pub record IsBlockOf (explaining : Explaining) (task : Task) (block : List ℕ) : Type 0 where
  pub others : is_selected_or_none_selected explaining.only task.name ≡ false → block ≡ []
  pub silent : is_pass (verdict_of_task task) ≡ true → explaining.leftovers ≡ false → block ≡ []
  pub passes : is_selected_or_none_selected explaining.only task.name ≡ true → is_pass (verdict_of_task task) ≡ true → explaining.leftovers ≡ true → IsPassBlock explaining.json task block
  pub fails : is_selected_or_none_selected explaining.only task.name ≡ true → is_pass (verdict_of_task task) ≡ false → IsFailureBlock explaining.json task block

-- a block for each job, one after another
abbrev pub AreBlocks : Explaining → List FinishedJob → List ℕ → Type 0
AreBlocks explaining [] written = written ≡ []
AreBlocks explaining (job ∷ jobs) written =
    (block : List ℕ) × (rest : List ℕ) × (written ≡ block ++ rest) × IsBlockOf explaining job.task block × AreBlocks explaining jobs rest
