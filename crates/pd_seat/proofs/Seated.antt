-- The seats of a new book.
use Rattle.std.proofs.Common.{◌≡◌, ℕ, zero, suc, ◌+◌, [], ◌∷◌, ◌++◌, length, refl, ap, ◌∙◌, arith}
use Rattle.pd_seat.specs.Seats.{new_seat, new_seats}

new_seats-suc : (k n : ℕ) → new_seats k (suc n) ≡ new_seats k n ++ new_seat (k + n) ∷ []
new_seats-suc k zero = ap (λ (x : ℕ). new_seat x ∷ []) (omega arith)
new_seats-suc k (suc n) = ap (λ l. new_seat k ∷ l) (new_seats-suc (suc k) n ∙ ap (λ (x : ℕ). new_seats (suc k) n ++ new_seat x ∷ []) (omega arith))

-- one seat more
pub new_seats-push : (n : ℕ) → new_seats 0 (n + 1) ≡ new_seats 0 n ++ new_seat n ∷ []
new_seats-push n =
    let e : n + 1 ≡ suc n = omega arith in
    let z : 0 + n ≡ n = omega arith in
    ap (new_seats 0) e ∙ (new_seats-suc 0 n ∙ ap (λ (x : ℕ). new_seats 0 n ++ new_seat x ∷ []) z)

pub length-new_seats : (k n : ℕ) → length (new_seats k n) ≡ n
length-new_seats k zero = refl
length-new_seats k (suc n) = ap suc (length-new_seats (suc k) n)
