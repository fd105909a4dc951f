-- The texts of the options among the program's arguments.
use Rattle.std.proofs.Common.{◌≡◌, ◌≢◌, ◌⊎◌, inl, inr, ℕ, List, [], ◌∷◌, Result, Ok, Err, IfErr, IfOk, IsErrAnd, sym, subst, Option, Some, None, option_map, unwrap_or, true, Bor, refl, ap, ◌∙◌}
use Rattle.clap.specs.Words.{all_of, matched_of, raw_values, App, HasKind, IsAmong, Kinds, is_simple_and_free, kind_of, Text, first_of, first_value, found_of, is_simple, matches_of, HasMatchesOf}
use Rattle.clap.specs.declared.parser.matches.ArgMatches.{ArgMatches}
use Rattle.clap.specs.declared.error.Error.{Error}
use Rattle.clap.specs.declared.error.kind.ErrorKind.{ErrorKind}
use Rattle.clap.specs.declared.error.kind.ErrorKind.TheVariants.{OutOfMemory}
use Rattle.clap.proofs.OnLiterals.{clap_on_literals}
use Rattle.clap.proofs.WalkLemmas.{first_value-rows, raw_values-rows}
use Rattle.pd_protocol.specs.OptionTable.{pdregress, option_text}

pub simple_pdregress : is_simple pdregress ≡ true
unfolding clap_on_literals
simple_pdregress = refl

now_or : (r : Option (Bor (List ℕ))) (d : Bor (List ℕ)) → (unwrap_or r d).now ≡ unwrap_or (option_map (λ (s : Bor (List ℕ)). s.now) r) d.now
now_or None d = refl
now_or (Some s) d = refl

-- the text of an option, where one that isn't written is empty
pub chosen_text : (program : App) (id : List ℕ) (m : ArgMatches) (words : List Text) → is_simple program ≡ true → HasMatchesOf program words m → (r : Option (Bor (List ℕ))) (d : Bor (List ℕ)) → option_map (λ (s : Bor (List ℕ)). s.now) r ≡ first_value (found_of m) id → d.now ≡ []
    → (unwrap_or r d).now ≡ option_text program id words
chosen_text program id m words simple h r d e n =
    let found : option_map (λ (s : Bor (List ℕ)). s.now) r ≡ first_of id (matches_of program words) = e ∙ (first_value-rows (found_of m) id ∙ ap (first_of id) (h simple).0) in
    now_or r d ∙ (ap (λ (o : Option (List ℕ)). unwrap_or o d.now) found ∙ ap (λ (t : List ℕ). unwrap_or (first_of id (matches_of program words)) t) n)

pub free_pdregress : is_simple_and_free pdregress ≡ true
unfolding clap_on_literals
free_pdregress = refl

-- the values of an option, where one that isn't written has none
pub chosen_values : (program : App) (id : List ℕ) (m : ArgMatches) (words : List Text) → is_simple program ≡ true → HasMatchesOf program words m → unwrap_or (option_map raw_values (matched_of (found_of m) id)) [] ≡ unwrap_or (all_of id (matches_of program words)) []
chosen_values program id m words simple h = ap (λ (o : Option (List Text)). unwrap_or o []) (raw_values-rows (found_of m) id ∙ ap (all_of id) (h simple).0)

among : (kinds : Kinds) (k : ErrorKind) → IsAmong k kinds → kinds ≢ []
among [] k h e = absurd h
among (x ∷ xs) k h e = absurd cc

pub has_kind : (kinds : Kinds) (error : Error) → HasKind kinds error → (kind_of error ≡ OutOfMemory) ⊎ (kinds ≢ [])
has_kind kinds error (inl e) = inl e
has_kind kinds error (inr h) = inr (among kinds (kind_of error) h)

-- what a call that failed would have given
pub none_of : {T : Type 0} (P : T → Type 0) (r : Result T Error) (Q : Error → Type 0) → IsErrAnd r Q → IfOk r P
none_of P (Ok x) Q i = absurd i
none_of P (Err x) Q i = tt

-- a fact of an error that was passed on
pub passed_on : {T : Type 0} (P : Error → Type 0) (r : Result T Error) (error : Error) → IsErrAnd r (λ x. x ≡ error) → P error → IfErr r P
passed_on P (Ok x) error i h = tt
passed_on P (Err x) error i h = subst P (sym i) h
