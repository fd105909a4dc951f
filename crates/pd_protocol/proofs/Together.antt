-- Arguments that are refused together, and what else is read off the matches of arguments.
use Rattle.std.proofs.Common.{◌≡◌, ◌≢◌, ◌⊎◌, ◌||◌, inl, inr, Bool, true, false, ℕ, List, [], ◌∷◌, Option, Some, None, is_some, option_map, Bor, refl, ap, ◌∙◌}
use Rattle.clap.specs.Kinds.{or_else}
use Rattle.clap.specs.Words.{App, HasMatchesOf, Kinds, Text, first_of, first_value, found_of, matches_of}
use Rattle.clap.specs.declared.parser.matches.ArgMatches.{ArgMatches}
use Rattle.clap.specs.declared.error.kind.ErrorKind.{ErrorKind}
use Rattle.clap.specs.declared.error.kind.ErrorKind.TheVariants.{ArgumentConflict, MissingRequiredArgument}
use Rattle.clap.proofs.WalkLemmas.{first_value-rows}
use Rattle.pd_protocol.specs.OptionTable.{pdregress, is_option_given, together_faults, word_faults, refusals_by}
use Rattle.pd_protocol.proofs.SettingsText.{simple_pdregress}

some_now : (r : Option (Bor (List ℕ))) → is_some r ≡ is_some (option_map (λ (s : Bor (List ℕ)). s.now) r)
some_now None = refl
some_now (Some s) = refl

pub written : (id : List ℕ) (m : ArgMatches) (words : List Text) → HasMatchesOf pdregress words m → (r : Option (Bor (List ℕ))) → option_map (λ (s : Bor (List ℕ)). s.now) r ≡ first_value (found_of m) id → is_some r ≡ is_option_given id words
written id m words h r e =
    let found : option_map (λ (s : Bor (List ℕ)). s.now) r ≡ first_of id (matches_of pdregress words) = e ∙ (first_value-rows (found_of m) id ∙ ap (first_of id) (h simple_pdregress).0) in
    some_now r ∙ ap (λ (o : Option (List ℕ)). is_some o) found

-- a fault of one kind is one
one_kind : (kind : ErrorKind) (kinds : Kinds) → (kind ∷ kinds) ≢ []
one_kind kind kinds n = absurd cc

by_both : (conflict lonely : Bool) → (conflict || lonely) ≡ true → together_faults conflict lonely ≢ []
by_both true lonely t = one_kind ArgumentConflict []
by_both false true t = one_kind MissingRequiredArgument []
by_both false false t = absurd cc

by_none : (conflict lonely : Bool) → (conflict || lonely) ≡ false → together_faults conflict lonely ≡ []
by_none false false t = refl
by_none true lonely t = absurd cc
by_none false true t = absurd cc

second_is : (alone together : Kinds) → together ≢ [] → or_else alone together ≢ []
second_is [] together h = h
second_is (kind ∷ kinds) together h = one_kind kind kinds

first_is : (alone together : Kinds) → alone ≢ [] → or_else alone together ≢ []
first_is [] together h = absurd (h refl)
first_is (kind ∷ kinds) together h = one_kind kind kinds

none_is : (alone together : Kinds) → alone ≡ [] → together ≡ [] → or_else alone together ≡ []
none_is alone together e f = rw (e, f) refl

-- arguments that are refused together are refused
pub refused_together : (program : App) (conflict lonely : Bool) (arguments : List Text) → (conflict || lonely) ≡ true → refusals_by program conflict lonely arguments ≢ []
refused_together program conflict lonely arguments t = second_is (word_faults program arguments) (together_faults conflict lonely) (by_both conflict lonely t)

-- arguments that are refused neither one by one nor together are taken
pub not_refused : (program : App) (conflict lonely : Bool) (arguments : List Text) → word_faults program arguments ≡ [] → (conflict || lonely) ≡ false → refusals_by program conflict lonely arguments ≡ []
not_refused program conflict lonely arguments e t = none_is (word_faults program arguments) (together_faults conflict lonely) e (by_none conflict lonely t)

-- arguments that are refused one by one are refused
pub alone_too : (program : App) (conflict lonely : Bool) (arguments : List Text) (memory : Type 0) → memory ⊎ (word_faults program arguments ≢ []) → memory ⊎ (refusals_by program conflict lonely arguments ≢ [])
alone_too program conflict lonely arguments memory (inl m) = inl m
alone_too program conflict lonely arguments memory (inr h) = inr (first_is (word_faults program arguments) (together_faults conflict lonely) h)
