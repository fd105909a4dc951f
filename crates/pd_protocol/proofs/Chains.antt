-- A word and a number that are added.
use Rattle.std.proofs.Common.{◌≡◌, ℕ, List, ◌++◌, Result, Ok, Err, OnOk, append_assoc, ◌∙◌}

-- a word and a number, where they were added
pub on_ok_both : {E : Type 0} (r : Result (Unit {0}) E) (new old word digits : List ℕ) → OnOk r (new ≡ old ++ word ++ digits) → OnOk r (new ≡ old ++ (word ++ digits))
on_ok_both (Ok u) new old word digits e = e ∙ append_assoc old word digits
on_ok_both (Err x) new old word digits e = tt
