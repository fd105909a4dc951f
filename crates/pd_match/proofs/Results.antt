-- The meaning of an answer that differs in nothing.
use Rattle.std.proofs.Common.{◌≡◌, Bool, true, false, ◌&&◌, if◌then◌else◌, Some, None, refl}
use Rattle.std.proofs.lemmas.Bool.Decides.{Decides-int_eq}
use Rattle.std.specs.Ordering.{int_eq}
use Rattle.pd_script.specs.declared.calls.ErrorName.{ErrorName}
use Rattle.pd_script.specs.declared.calls.ErrorName.TheVariants as named
use Rattle.pd_script.specs.declared.calls.ExpectedResult.{ExpectedResult}
use Rattle.pd_script.specs.declared.calls.ExpectedResult.TheVariants.{Negative}
use Rattle.pd_seg.specs.declared.call_results.Answer.{Answer}
use Rattle.pd_seg.specs.declared.call_results.Answer.TheVariants.{Error}
use Rattle.pd_seg.specs.declared.call_results.Errno.TheVariants as answered
use Rattle.pd_match.specs.Agreement.{IsNamed, HasError}
use Rattle.pd_match.specs.Calls.{value_written, value_answered, is_answered, same_error}
use Rattle.pd_match.specs.Laws.{MatchIsResult}
use Rattle.pd_match.specs.declared.kinds.Kind.TheVariants.{Result as WrongResult}

-- a named error that matches is the answer
is_written_error : (name : ErrorName) (a : Answer) → is_answered name a ≡ true → IsNamed name a
is_written_error named.Ebadf (Error answered.Ebadf) h = refl
is_written_error named.Einval (Error answered.Einval) h = refl
is_written_error named.Eagain (Error answered.Eagain) h = refl
is_written_error named.Epipe (Error answered.Epipe) h = refl
is_written_error _ _ h = absurd cc

matches_written_error : (o : ExpectedResult) (a : Answer) → same_error o a ≡ true → HasError o a
matches_written_error (Negative n (Some name)) a h = is_written_error name a h
matches_written_error _ a h = tt

no_mismatch : (x y : Bool) → (if x && y then None else Some WrongResult) ≡ None → (x ≡ true) × (y ≡ true)
no_mismatch true true h = (refl, refl)
no_mismatch true false h = absurd cc
no_mismatch false y h = absurd cc

pub match_is_result : MatchIsResult
match_is_result o a none =
    let both : (int_eq (value_written o) (value_answered a) ≡ true) × (same_error o a ≡ true) = no_mismatch _ _ none in
    ((Decides-int_eq (value_written o) (value_answered a)).0 both.0, matches_written_error o a both.1)
