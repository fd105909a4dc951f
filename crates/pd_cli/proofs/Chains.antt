-- Pieces that are added one after another.
use Rattle.std.proofs.Common.{◌≡◌, ℕ, List, ◌++◌, Result, Ok, Err, OnOk, is_ok, if◌then◌else◌, append_assoc, ◌∙◌}

-- what was added last, where it was
pub on_ok_last : {E : Type 0} (r : Result (Unit {0}) E) (new more old all : List ℕ) → new ≡ (if is_ok r then more else old) → more ≡ all → OnOk r (new ≡ all)
on_ok_last (Ok u) new more old all e f = e ∙ f
on_ok_last (Err x) new more old all e f = tt

-- seven words, each with a number, and a last word
pub chain : (o w1 n1 w2 n2 w3 n3 w4 n4 w5 n5 w6 n6 w7 n7 w8 a b c d e f g : List ℕ)
    → a ≡ o ++ w1 ++ n1 → b ≡ a ++ w2 ++ n2 → c ≡ b ++ w3 ++ n3 → d ≡ c ++ w4 ++ n4 → e ≡ d ++ w5 ++ n5 → f ≡ e ++ w6 ++ n6 → g ≡ f ++ w7 ++ n7
    → g ++ w8 ≡ o ++ (w1 ++ n1 ++ w2 ++ n2 ++ w3 ++ n3 ++ w4 ++ n4 ++ w5 ++ n5 ++ w6 ++ n6 ++ w7 ++ n7 ++ w8)
chain o w1 n1 w2 n2 w3 n3 w4 n4 w5 n5 w6 n6 w7 n7 w8 a b c d e f g h1 h2 h3 h4 h5 h6 h7 = rw (h7, h6, h5, h4, h3, h2, h1) (simp append_assoc)
