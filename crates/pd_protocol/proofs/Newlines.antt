-- The first newline of some octets cuts a piece off their front.
use Rattle.std.proofs.Common.{◌≡◌, ℕ, ◌+◌, ◌<◌, ◌==◌, Bool, true, false, List, length, take, drop, Option, Some, None, get_or, refl, arith}
use Rattle.std.specs.Prelude.{IfSome, IfNone}
use Rattle.std.proofs.lemmas.List.{get_or_default}
use Rattle.std.proofs.lemmas.Bool.Decides.{nat_tests}
use Rattle.memchr.specs.Find.{IsFirstByte, is_byte}
use Rattle.pd_protocol.specs.LinePieces.{NoNewline, CutsPiece}
use Rattle.pd_protocol.proofs.Fronts.{cut_at, no_newline_take}

passes_not : (b : Bool) → ¬ (b ≡ true) → b ≡ false
passes_not true h = absurd (h refl)
passes_not false h = refl

is_ten : (n : ℕ) → (n == 10) ≡ true → n ≡ 10
is_ten n h = grind (arith, nat_tests)

pub first_newline : (s : List ℕ) (r : Option ℕ) → IsFirstByte (is_byte 10) s r → IfSome r (λ n. (n < length s) × CutsPiece (take n s) true s (drop (n + 1) s))
first_newline s None h = tt
first_newline s (Some n) h = (
  h.0.high,
  (
    no_newline_take s n (λ k lt. passes_not (get_or s k 0 == 10) (h.0.before k (omega arith) lt)) (omega (arith, h.0.high)),
    cut_at s n h.0.high (is_ten (get_or s n 0) h.1),
  ),
)

pub no_newline : (s : List ℕ) (r : Option ℕ) → IsFirstByte (is_byte 10) s r → IfNone r (NoNewline s)
no_newline s None h = λ k d lt. rw (get_or_default s k d 0 lt) (passes_not (get_or s k 0 == 10) (h k (omega arith) lt))
no_newline s (Some n) h = tt
