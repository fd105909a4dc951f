-- Verdicts by the grammar.
use Rattle.std.specs.Prelude.{◌≡◌, ℕ, List}
use Rattle.pd_settings.specs.declared.settings.Settings.{Settings}
use Rattle.pd_script.specs.Faults.{IsScriptOf}
use Rattle.pd_script.specs.declared.parsed.Parsed.{Parsed}
use Rattle.pd_run.specs.Run.{verdict_in, verdict_of}
use Rattle.pd_run.specs.declared.verdict.Verdict.{Verdict}

-- the verdict of a text under settings: there is a script that the grammar gives for the text, and this is what it comes to,
-- run from its first event on a fresh host
pub record IsVerdictOf (text : List (List ℕ)) (settings : Settings) (verdict : Verdict) : Type 0 where
  pub script : Parsed
  pub given : IsScriptOf text script
  pub run : verdict ≡ verdict_in settings script

-- each text has one under all settings
abbrev pub VerdictsAreGrammatical : Type 0
VerdictsAreGrammatical = (text : List (List ℕ)) → (settings : Settings) → IsVerdictOf text settings (verdict_of text settings)

-- and no other
abbrev pub NoOtherVerdicts : Type 0
NoOtherVerdicts = (text : List (List ℕ)) → (settings : Settings) → (verdict : Verdict) → IsVerdictOf text settings verdict → verdict ≡ verdict_of text settings
