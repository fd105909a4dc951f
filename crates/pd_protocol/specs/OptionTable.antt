-- The options of the programs, in the definitions of `clap`.
use Rattle.std.specs.Prelude.{ℕ, nat_le, Bool, not, ◌==◌, ◌&&◌, ◌||◌, List, [], ◌∷◌, bytes_eq, codes, if◌then◌else◌, Some, is_some, unwrap_or, pos}
use Rattle.clap.specs.Kinds.{or_else}
use Rattle.clap.specs.Words.{App, Kinds, Rule, Text, all_of, fault_of, first_of, matches_of, new_app, new_rule, with_rule}
use Rattle.clap.specs.declared.builder.ArgAction.TheVariants.{Append, Set, SetTrue}
use Rattle.clap.specs.declared.builder.value_parser.ValueParser.TheVariants as parser
use Rattle.clap.specs.declared.error.kind.ErrorKind.TheVariants.{ArgumentConflict, MissingRequiredArgument}
use Rattle.pd_protocol.specs.Words.{are_digits, number_of}

-- `--settings TEXT`: an empty text where it isn't written
abbrev pub settings_rule : Rule
settings_rule = record (new_rule (codes "settings")) {
  long = Some (codes "settings");
  action = Some Set;
  value_names = 1;
  defaults = [] ∷ [];
}

-- `--workers N`: a number from 0 to 64
abbrev pub workers_rule : Rule
workers_rule = record (new_rule (codes "workers")) {
  long = Some (codes "workers");
  action = Some Set;
  value_names = 1;
  parser = Some (parser.Signed (pos 0) (pos 64));
}

-- `--cache N`: a number from 1 to 1,024, 64 where it isn't written
abbrev pub cache_rule : Rule
cache_rule = record (new_rule (codes "cache")) {
  long = Some (codes "cache");
  action = Some Set;
  value_names = 1;
  defaults = codes "64" ∷ [];
  parser = Some (parser.Signed (pos 1) (pos 1024));
}

-- `--steps`
abbrev pub steps_rule : Rule
steps_rule = record (new_rule (codes "steps")) {
  long = Some (codes "steps");
  action = Some SetTrue;
}

-- `--rules`
abbrev pub rules_rule : Rule
rules_rule = record (new_rule (codes "rules")) {
  long = Some (codes "rules");
  action = Some SetTrue;
}

-- `--explain`
abbrev pub explain_rule : Rule
explain_rule = record (new_rule (codes "explain")) {
  long = Some (codes "explain");
  action = Some SetTrue;
}

-- `--only NAME`, as often as it is wanted
abbrev pub only_rule : Rule
only_rule = record (new_rule (codes "only")) {
  long = Some (codes "only");
  action = Some Append;
  value_names = 1;
}

-- `--json`
abbrev pub json_rule : Rule
json_rule = record (new_rule (codes "json")) {
  long = Some (codes "json");
  action = Some SetTrue;
}

-- `--leftovers`
abbrev pub leftovers_rule : Rule
leftovers_rule = record (new_rule (codes "leftovers")) {
  long = Some (codes "leftovers");
  action = Some SetTrue;
}

-- the program that runs scripts
abbrev pub pdregress : App
pdregress =
    with_rule (with_rule (with_rule (with_rule (with_rule (with_rule (with_rule (with_rule (with_rule (new_app (codes "pdregress"))
    settings_rule) cache_rule) workers_rule) steps_rule) rules_rule) explain_rule) only_rule) json_rule) leftovers_rule

-- the text of an option among the arguments of a program, of which the first is its own name; an empty one where the program
-- hasn't this option
abbrev pub option_text : App → List ℕ → List Text → Text
option_text program name words = unwrap_or (first_of name (matches_of program words)) []

-- the settings text among arguments
abbrev pub settings_text : App → List Text → Text
settings_text program words = option_text program (codes "settings") words

-- why a program refuses arguments, each by itself, the request for help among it: the kinds of the first fault, or none
abbrev pub word_faults : App → List Text → Kinds
word_faults program words = fault_of program words

-- an argument without a sign before it
abbrev pub without_sign : List ℕ → List ℕ
without_sign [] = []
without_sign (octet ∷ word) = if octet == 43 || octet == 45 then word else octet ∷ word

-- the number that an argument writes; 0 where that is no number up to 64, which `clap` doesn't let through
abbrev pub worker_count_or_zero : List ℕ → ℕ
worker_count_or_zero word =
    let digits = without_sign word in
    if are_digits digits && nat_le (number_of digits) 64 then number_of digits else 0

-- how many workers arguments ask for: none where `--workers` isn't written
abbrev pub worker_count : List Text → ℕ
worker_count words = worker_count_or_zero (option_text pdregress (codes "workers") words)

-- the number that an argument writes; 64 where that is no number from 1 to 1,024, which `clap` doesn't let through
abbrev pub cache_size_in_range_or_64 : List ℕ → ℕ
cache_size_in_range_or_64 word =
    let digits = without_sign word in
    let number = number_of digits in
    if are_digits digits && nat_le 1 number && nat_le number 1024 then number else 64

-- how many tracks arguments ask for
abbrev pub cache_size : List Text → ℕ
cache_size words = cache_size_in_range_or_64 (option_text pdregress (codes "cache") words)

-- the names of scripts that arguments single out
abbrev pub only_names : List Text → List Text
only_names words = unwrap_or (all_of (codes "only") (matches_of pdregress words)) []

-- an option without a default value is written
abbrev pub is_option_given : List ℕ → List Text → Bool
is_option_given name words = is_some (first_of name (matches_of pdregress words))

-- a flag is written
abbrev pub has_flag : List ℕ → List Text → Bool
has_flag name words = bytes_eq (option_text pdregress name words) (codes "true")

-- arguments ask for each job's steps, for the rules that it comes to, for explanations, for these as JSON, and for what scripts
-- that pass leave
abbrev pub asks_steps : List Text → Bool
asks_steps words = has_flag (codes "steps") words

abbrev pub asks_rules : List Text → Bool
asks_rules words = has_flag (codes "rules") words

abbrev pub asks_explain : List Text → Bool
asks_explain words = has_flag (codes "explain") words

abbrev pub asks_json : List Text → Bool
asks_json words = has_flag (codes "json") words

abbrev pub asks_leftovers : List Text → Bool
asks_leftovers words = has_flag (codes "leftovers") words

-- `--workers`, whatever its number, is beside `--steps`, `--rules` or `--explain`
abbrev pub are_in_conflict : List Text → Bool
are_in_conflict words = is_option_given (codes "workers") words && (asks_steps words || asks_rules words || asks_explain words)

-- `--only`, `--json` or `--leftovers` is without `--explain`
abbrev pub lack_explain : List Text → Bool
lack_explain words = not (asks_explain words) && (is_option_given (codes "only") words || asks_json words || asks_leftovers words)

-- why options are refused together of which each may be written: one is beside another that it doesn't go with, or without the
-- one to which it belongs
abbrev pub together_faults : Bool → Bool → Kinds
together_faults conflict lonely = if conflict then ArgumentConflict ∷ [] else (if lonely then MissingRequiredArgument ∷ [] else [])

-- why a program refuses arguments: the first fault of one by itself, or else of some together
abbrev pub refusals_by : App → Bool → Bool → List Text → Kinds
refusals_by program conflict lonely words = or_else (word_faults program words) (together_faults conflict lonely)

-- why the program that runs scripts refuses arguments
abbrev pub refusals : List Text → Kinds
refusals words = refusals_by pdregress (are_in_conflict words) (lack_explain words) words
