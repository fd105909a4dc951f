-- Packets before the awaited one, counted from the oldest.
use Rattle.std.proofs.Common.{◌≡◌, ◌<◌, ◌≤◌, ◌^◌, ℕ, zero, suc, ◌+◌, max, true, false, List, [], ◌∷◌, length, drop, slice_get, Option, Some, None, is_none, option_map, refl, sym, ap, subst, ◌∙◌, arith}
use Rattle.std.specs.List.{AllByRecursion}
use Rattle.pd_script.specs.declared.packets.Packet.{Packet}
use Rattle.pd_script.specs.declared.timing.Time.{Time}
use Rattle.pd_seg.specs.declared.segments.Sent.{Sent}
use Rattle.pd_match.specs.Packets.{mismatch}
use Rattle.pd_run.specs.Times.{time_range_of}
use Rattle.pd_cause.specs.Unexpected.{before_awaited}

none_left : (n : ℕ) (xs : List Sent) → slice_get xs n ≡ None → drop n xs ≡ []
none_left zero [] h = refl
none_left (suc n) [] h = refl
none_left zero (x ∷ xs) h = absurd cc
none_left (suc n) (x ∷ xs) h = none_left n xs h

all_passed : (n : ℕ) (xs : List Sent) → length xs ≤ n → drop n xs ≡ []
all_passed zero [] h = refl
all_passed (suc n) [] h = refl
all_passed zero (x ∷ xs) h = absurd (omega (arith, h))
all_passed (suc n) (x ∷ xs) h = all_passed n xs (omega (arith, h))

-- one of packets that are early is early
pub early_at : (n : ℕ) (xs : List Sent) (sent : Sent) → AllByRecursion (λ (s : Sent). s.at < 2 ^ 61) xs → slice_get xs n ≡ Some sent → sent.at < 2 ^ 61
early_at n [] sent all h = absurd cc
early_at zero (x ∷ xs) sent all h =
    let same : x ≡ sent = cc in
    subst (λ (s : Sent). s.at < 2 ^ 61) same all.0
early_at (suc n) (x ∷ xs) sent all h = early_at n xs sent all.1 h

module _ (p : Packet) (time : Time) (tolerance : ℕ) where
  -- the packets that are left to be counted after so many others
  abbrev pub Left : ℕ → ℕ → ℕ → List Sent → Type 0
  Left first base n xs =
      before_awaited p time tolerance first xs ≡ option_map (λ (k : ℕ). n + k) (before_awaited p time tolerance base (drop n xs))

  pub at_first : (base : ℕ) (xs : List Sent) → Left base base 0 xs
  at_first base xs = go (before_awaited p time tolerance base xs)
    where
      go : (o : Option ℕ) → o ≡ option_map (λ (k : ℕ). 0 + k) o
      go None = refl
      go (Some k) = ap (λ (m : ℕ). Some m) (let e : k ≡ 0 + k = omega arith in e)

  more : (n : ℕ) (o : Option ℕ) → option_map (λ (k : ℕ). n + k) (option_map (λ (k : ℕ). k + 1) o) ≡ option_map (λ (k : ℕ). n + 1 + k) o
  more n None = refl
  more n (Some k) = ap (λ (m : ℕ). Some m) (let e : n + (k + 1) ≡ n + 1 + k = omega arith in e)

  -- one that doesn't agree comes before
  pub one_before : (first base n : ℕ) (xs rest : List Sent) (sent : Sent) → drop n xs ≡ sent ∷ rest → drop (n + 1) xs ≡ rest
      → is_none (mismatch p (time_range_of base time) sent tolerance) ≡ false → Left first base n xs → Left first (max base sent.at) (n + 1) xs
  one_before first base n xs rest sent split next other left =
      left
      ∙ (ap (λ (l : List Sent). option_map (λ (k : ℕ). n + k) (before_awaited p time tolerance base l)) split
      ∙ (rw other (more n (before_awaited p time tolerance (max base sent.at) rest))
      ∙ ap (λ (l : List Sent). option_map (λ (k : ℕ). n + 1 + k) (before_awaited p time tolerance (max base sent.at) l)) (sym next)))

  -- the first that agrees
  pub found_after : (first base n : ℕ) (xs rest : List Sent) (sent : Sent) → drop n xs ≡ sent ∷ rest
      → is_none (mismatch p (time_range_of base time) sent tolerance) ≡ true → Left first base n xs
      → before_awaited p time tolerance first xs ≡ Some n
  found_after first base n xs rest sent split agrees left =
      left
      ∙ (ap (λ (l : List Sent). option_map (λ (k : ℕ). n + k) (before_awaited p time tolerance base l)) split
      ∙ (rw agrees (ap (λ (m : ℕ). Some m) (let e : n + 0 ≡ n = omega arith in e))))

  -- none is left
  nothing_left : (first base n : ℕ) (xs : List Sent) → drop n xs ≡ [] → Left first base n xs → before_awaited p time tolerance first xs ≡ None
  nothing_left first base n xs none left =
      left ∙ ap (λ (l : List Sent). option_map (λ (k : ℕ). n + k) (before_awaited p time tolerance base l)) none

  pub none_at : (first base n : ℕ) (xs : List Sent) → slice_get xs n ≡ None → Left first base n xs → before_awaited p time tolerance first xs ≡ None
  none_at first base n xs h left = nothing_left first base n xs (none_left n xs h) left

  pub none_in_all : (first base n : ℕ) (xs : List Sent) → length xs ≤ n → Left first base n xs → before_awaited p time tolerance first xs ≡ None
  none_in_all first base n xs h left = nothing_left first base n xs (all_passed n xs h) left
