-- The options that the arguments of the program choose.
use Rattle.std.specs.Prelude.{◌≡◌, ℕ, Bool, List, Option, Some, None, option_map, if◌then◌else◌, map}
use Rattle.std.specs.Borrow.{Bor}
use Rattle.clap.specs.Words.{Text}
use Rattle.pd_protocol.specs.OptionTable.{pdregress, settings_text, worker_count, cache_size, only_names, asks_steps, asks_rules, asks_explain, asks_json, asks_leftovers}
use Rattle.pd_protocol.specs.declared.program_options.ExplainOptions.{ExplainOptions}
use Rattle.pd_protocol.specs.declared.program_options.Options.{Options}

-- the names behind references
abbrev pub names_of : List (Bor (List ℕ)) → List (List ℕ)
names_of = map (λ name. name.now)

-- how jobs are explained: those of the scripts of these names alone where there are some, as JSON or as text, and whether what
-- is left by one that passes is reported too
pub record Explaining : Type 0 where
  pub only : List (List ℕ)
  pub json : Bool
  pub leftovers : Bool

-- the report that is asked for of each finished job: its steps, the rules that its events come to, and why it doesn't pass
pub record ReportOptions : Type 0 where
  pub steps : Bool
  pub rules : Bool
  pub explain : Option Explaining

-- how arguments have jobs explained
abbrev pub explaining : List Text → Explaining
explaining words = record { only = only_names words; json = asks_json words; leftovers = asks_leftovers words }

-- how options have jobs explained
abbrev pub explaining_of : ExplainOptions → Explaining
explaining_of options = record { only = names_of options.only.items; json = options.json; leftovers = options.leftovers }

-- the report that arguments ask for
abbrev pub report_options : List Text → ReportOptions
report_options words = record { steps = asks_steps words; rules = asks_rules words; explain = if asks_explain words then Some (explaining words) else None }

-- the report that options ask for
abbrev pub report_options_of : Options → ReportOptions
report_options_of options = record { steps = options.steps; rules = options.rules; explain = option_map explaining_of options.explain }

-- these are chosen by arguments, of which the first is the program's own name
abbrev pub HasChosen : List Text → Options → Type 0
HasChosen words options =
    (options.settings.now ≡ settings_text pdregress words) × (options.workers ≡ worker_count words) × (options.cache ≡ cache_size words)
    × (report_options_of options ≡ report_options words)
