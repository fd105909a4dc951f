-- The options of the program that records, in the definitions of `clap`.
use Rattle.std.specs.Prelude.{◌≡◌, ℕ, Bool, not, ◌&&◌, List, [], bytes_eq, codes, Some, unwrap_or, if◌then◌else◌}
use Rattle.clap.specs.Words.{App, Kinds, Rule, Text, all_of, matches_of, new_app, new_rule, with_rule}
use Rattle.clap.specs.declared.builder.ArgAction.TheVariants.{Append, SetTrue}
use Rattle.pd_protocol.specs.ChosenOptions.{names_of}
use Rattle.pd_protocol.specs.OptionTable.{settings_rule, settings_text, option_text, refusals_by}
use Rattle.pdrecord.specs.declared.record_options.RecordOptions.{RecordOptions}
use Rattle.pdrecord.specs.declared.record_options.RecordMode.{RecordMode}
use Rattle.pdrecord.specs.declared.record_options.RecordMode.TheVariants.{Whole, Traced, Minimal}

-- `--trace`
abbrev pub trace_rule : Rule
trace_rule = record (new_rule (codes "trace")) {
  long = Some (codes "trace");
  action = Some SetTrue;
}

-- `--minimal`
abbrev pub minimal_rule : Rule
minimal_rule = record (new_rule (codes "minimal")) {
  long = Some (codes "minimal");
  action = Some SetTrue;
}

-- `--drop-missing`
abbrev pub drop_missing_rule : Rule
drop_missing_rule = record (new_rule (codes "drop-missing")) {
  long = Some (codes "drop-missing");
  action = Some SetTrue;
}

-- `FILE..`
abbrev pub file_rule : Rule
file_rule = record (new_rule (codes "file")) {
  action = Some Append;
  value_names = 1;
}

-- the program that records
abbrev pub pdrecord : App
pdrecord =
    with_rule (with_rule (with_rule (with_rule (with_rule (new_app (codes "pdrecord")) settings_rule) trace_rule) minimal_rule) drop_missing_rule) file_rule

-- arguments have a flag of this name
abbrev pub is_flag_given : List ℕ → List Text → Bool
is_flag_given name arguments = bytes_eq (option_text pdrecord name arguments) (codes "true")

-- `--trace` is beside `--minimal`
abbrev pub is_trace_beside_minimal : List Text → Bool
is_trace_beside_minimal arguments = is_flag_given (codes "trace") arguments && is_flag_given (codes "minimal") arguments

-- `--drop-missing` is without `--minimal`
abbrev pub is_drop_missing_alone : List Text → Bool
is_drop_missing_alone arguments = is_flag_given (codes "drop-missing") arguments && not (is_flag_given (codes "minimal") arguments)

-- why the program refuses arguments
abbrev pub refusals : List Text → Kinds
refusals arguments = refusals_by pdrecord (is_trace_beside_minimal arguments) (is_drop_missing_alone arguments) arguments

-- how scripts are recorded, by whether the least change, one without comments, and a trace are asked for
abbrev pub record_mode : Bool → Bool → Bool → RecordMode
record_mode least drop trace = if least then Minimal drop else (if trace then Traced else Whole)

-- the way in which arguments have scripts recorded
abbrev pub mode_chosen : List Text → RecordMode
mode_chosen arguments = record_mode (is_flag_given (codes "minimal") arguments) (is_flag_given (codes "drop-missing") arguments) (is_flag_given (codes "trace") arguments)

-- the files that arguments name
abbrev pub files_named : List Text → List Text
files_named arguments = unwrap_or (all_of (codes "file") (matches_of pdrecord arguments)) []

-- arguments choose these options; the first is the program's own name
abbrev pub HasRecordOptions : List Text → RecordOptions → Type 0
HasRecordOptions arguments options = (options.settings.now ≡ settings_text pdrecord arguments) × (options.mode ≡ mode_chosen arguments) × (names_of options.files.items ≡ files_named arguments)
