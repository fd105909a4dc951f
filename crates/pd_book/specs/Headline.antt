-- The headline, by positions in the list of acts. The newest act comes first.
use Rattle.std.specs.Prelude.{◌≡◌, ◌↔◌, ◌⊎◌, ℕ, false, List, [], ◌∷◌, ◌++◌, map, All, Some, None, IsSome}
use Rattle.pd_settings.specs.declared.settings.Settings.{Settings}
use Rattle.pd_book.specs.declared.act.Act.{Act}
use Rattle.pd_book.specs.declared.act.Act.TheVariants.{Start, Finish}
use Rattle.pd_book.specs.declared.act.Ruling.{Ruling}
use Rattle.pd_book.specs.declared.act.Ruling.TheVariants.{Taken}
use Rattle.pd_book.specs.declared.report.Row.{Row}
use Rattle.pd_track.specs.declared.task.Task.{Task}
use Rattle.pd_book.specs.Acts.{NamedText, changes, texts, now, job, ruling}
use Rattle.pd_book.specs.Report.{ReportView, IsRunUnder, IsGrammarsRun, IsFromScratch, scratch, owed}

-- none of these acts changes the script of this name
abbrev pub Unchanged : List ℕ → List Act → Type 0
Unchanged name acts = All (λ act. changes name act ≡ false) acts

-- the acts are some later ones, the finish of a job, some between, that job's start on the script, and some
-- earlier ones; and none after the start changes the script
pub record AnsweredSinceChange (name : List ℕ) (past : List Act) : Type 0 where
  pub number : ℕ
  pub ruled : Ruling
  pub later : List Act
  pub between : List Act
  pub earlier : List Act
  pub split : past ≡ later ++ Finish number ruled ∷ (between ++ Start number name ∷ earlier)
  pub later_unchanged : Unchanged name later
  pub between_unchanged : Unchanged name between

-- the acts are some later ones, this job's start on its script, and some earlier ones; and none after the start
-- changes the script
pub record UnchangedSinceStart (task : Task) (past : List Act) : Type 0 where
  pub later : List Act
  pub earlier : List Act
  pub split : past ≡ later ++ Start task.number task.name ∷ earlier
  pub later_unchanged : Unchanged task.name later

-- a row has a verdict exactly when a job started since the last change of its script was answered
abbrev pub CurrentWhenAnswered : List Act → ReportView → Type 0
CurrentWhenAnswered past report = All (λ (row : Row). IsSome row.verdict ↔ AnsweredSinceChange row.name past) report.rows

-- the rows are the scripts that stand, with their present texts, in order of adding
abbrev pub RowsAreScripts : List Act → ReportView → Type 0
RowsAreScripts past report = map (λ (row : Row). (row.name, row.text)) report.rows ≡ texts past

-- each verdict is the run of the row's text, from its first event on a fresh host, under the present settings
abbrev pub VerdictsAreRuns : Settings → List Act → ReportView → Type 0
VerdictsAreRuns opening past report = All (IsRunUnder (now opening past)) report.rows

-- the same by the grammar
abbrev pub VerdictsAreGrammars : Settings → List Act → ReportView → Type 0
VerdictsAreGrammars opening past report = All (IsGrammarsRun (now opening past)) report.rows

-- where each row has a verdict, the report is the one from scratch
abbrev pub ScratchWhenAllAnswered : Settings → List Act → ReportView → Type 0
ScratchWhenAllAnswered opening past report =
    All (λ (row : Row). IsSome row.verdict) report.rows → report ≡ scratch (texts past) (now opening past)

-- the row, pending
abbrev pub pending : Row → Row
pending row = record { name = row.name; text = row.text; verdict = None }

-- each row is the other list's, or that one pending
abbrev pub AreOrPending : List Row → List Row → Type 0
AreOrPending [] [] = Unit {0}
AreOrPending [] (whole ∷ wholes) = ⊥
AreOrPending (row ∷ rows) [] = ⊥
AreOrPending (row ∷ rows) (whole ∷ wholes) = ((row ≡ whole) ⊎ (row ≡ pending whole)) × AreOrPending rows wholes

-- each row is pending or the one from scratch
abbrev pub RowsAreOfScratch : Settings → List Act → ReportView → Type 0
RowsAreOfScratch opening past report = AreOrPending report.rows (scratch (texts past) (now opening past)).rows

-- both by the grammar
abbrev pub WholeWhenAllAnswered : Settings → List Act → ReportView → Type 0
WholeWhenAllAnswered opening past report =
    All (λ (row : Row). IsSome row.verdict) report.rows → IsFromScratch (texts past) (now opening past) report

abbrev pub RowsAreOfWhole : Settings → List Act → ReportView → Type 0
RowsAreOfWhole opening past report = (whole : ReportView) × IsFromScratch (texts past) (now opening past) whole × AreOrPending report.rows whole.rows

-- of the same scripts under the same settings there is one report from scratch by the grammar, and no other
abbrev pub ScratchIsOne : List NamedText → Settings → Type 0
ScratchIsOne scripts settings =
    IsFromScratch scripts settings (scratch scripts settings) × ((report : ReportView) → IsFromScratch scripts settings report → report ≡ scratch scripts settings)

-- no row is owed exactly when each row has a verdict
abbrev pub NoneOwedWhenAllAnswered : Settings → List Act → ReportView → Type 0
NoneOwedWhenAllAnswered opening past report = (owed opening past ≡ 0) ↔ All (λ (row : Row). IsSome row.verdict) report.rows

-- a finish of an outstanding job is taken exactly when its script hasn't changed since the job's start
abbrev pub TakenWhenUnchanged : Settings → List Act → Type 0
TakenWhenUnchanged opening past =
    (j : ℕ) → (task : Task) → job opening past j ≡ Some task → (ruling past task ≡ Taken) ↔ UnchangedSinceStart task past
