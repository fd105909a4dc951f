-- The rows of a report.
use Rattle.std.specs.Prelude.{◌≡◌, ℕ, List, map, count_by, if◌then◌else◌, All, Some, None, is_none, IfSome, IsSome}
use Rattle.pd_settings.specs.declared.settings.Settings.{Settings}
use Rattle.pd_run.specs.Grammatical.{IsVerdictOf}
use Rattle.pd_run.specs.Run.{verdict_of}
use Rattle.pd_book.specs.declared.act.Act.{Act}
use Rattle.pd_book.specs.declared.report.Row.{Row}
use Rattle.pd_book.specs.Acts.{NamedText, texts, now, answered}

-- a report: its settings, and a row for each script
pub record ReportView : Type 0 where
  pub settings : Settings
  pub rows : List Row

-- the row's verdict, if it has one, is the run of its text under these settings
abbrev pub IsRunUnder : Settings → Row → Type 0
IsRunUnder settings entry = IfSome entry.verdict (λ verdict. verdict ≡ verdict_of entry.text settings)

-- the same by the grammar
abbrev pub IsGrammarsRun : Settings → Row → Type 0
IsGrammarsRun settings entry = IfSome entry.verdict (IsVerdictOf entry.text settings)

-- a report from scratch of these scripts under these settings, by the grammar: a row for each, in order, each with
-- the verdict of its run
pub record IsFromScratch (scripts : List NamedText) (settings : Settings) (report : ReportView) : Type 0 where
  pub under : report.settings ≡ settings
  pub rows : map (λ (entry : Row). (entry.name, entry.text)) report.rows ≡ scripts
  pub runs : All (IsGrammarsRun settings) report.rows
  pub none_pending : All (λ (entry : Row). IsSome entry.verdict) report.rows

-- the row of a script: with its verdict if it is answered, else pending
abbrev pub row : Settings → List Act → NamedText → Row
row opening past script =
    record { name = script.0; text = script.1; verdict = if answered past script.0 then Some (verdict_of script.1 (now opening past)) else None }

-- the report after these acts
abbrev pub shown : Settings → List Act → ReportView
shown opening past = record { settings = now opening past; rows = map (row opening past) (texts past) }

-- the row of a script that is run from scratch
abbrev pub scratch_row : Settings → NamedText → Row
scratch_row settings script = record { name = script.0; text = script.1; verdict = Some (verdict_of script.1 settings) }

-- the report of these scripts from scratch: each with its verdict
abbrev pub scratch : List NamedText → Settings → ReportView
scratch scripts settings = record { settings = settings; rows = map (scratch_row settings) scripts }

-- how many rows are pending
abbrev pub owed : Settings → List Act → ℕ
owed opening past = count_by (λ (row : Row). is_none row.verdict) (shown opening past).rows
