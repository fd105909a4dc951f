-- Open jobs of which one ends.
use Rattle.std.proofs.Common.{◌≡◌, ℕ, ◌==◌, ◌+◌, ◌≤◌, ◌<◌, Bool, true, false, not, ◌||◌, cond, List, [], ◌∷◌, length, filter, find, Option, Some, None, IsSome, refl, arith}
use Rattle.std.specs.List.{list_any}
use Rattle.pd_track.specs.declared.task.Task.{Task}
use Rattle.pd_book.specs.Acts.{without}
use Rattle.pd_book.proofs.Calls.{fewer}

pub filter_le : (p : ℕ → Bool) (xs : List ℕ) → length (filter p xs) ≤ length xs
filter_le p [] = omega arith
filter_le p (x ∷ xs) = step (p x) (filter_le p xs)
  where
    step : (b : Bool) → length (filter p xs) ≤ length xs → length (cond b (x ∷ filter p xs) (filter p xs)) ≤ length (x ∷ xs)
    step true h = omega (arith, h)
    step false h = omega (arith, h)

-- a job that is taken out of those that are open leaves fewer
pub filter_less : (job : ℕ) (xs : List ℕ) → list_any (λ (x : ℕ). x == job) xs ≡ true → length (filter (λ (x : ℕ). not (x == job)) xs) + 1 ≤ length xs
filter_less job [] h = absurd cc
filter_less job (x ∷ xs) h = step (x == job) h (filter_less job xs) (filter_le (λ (y : ℕ). not (y == job)) xs)
  where
    left : List ℕ
    left = filter (λ (y : ℕ). not (y == job)) xs

    step : (b : Bool) → (b || list_any (λ (y : ℕ). y == job) xs) ≡ true → (list_any (λ (y : ℕ). y == job) xs ≡ true → length left + 1 ≤ length xs) → length left ≤ length xs
        → length (cond (not b) (x ∷ left) left) + 1 ≤ length (x ∷ xs)
    step true h f g = omega (arith, g)
    step false h f g = let k = f h in omega (arith, k)

-- the end of an outstanding job leaves fewer
pub fewer_tasks : (j : ℕ) (tasks : List Task) → IsSome (find (λ (task : Task). j == task.number) tasks) → length (without j tasks) < length tasks
fewer_tasks j tasks h = go (find (λ (task : Task). j == task.number) tasks) refl h
  where
    go : (o : Option Task) → find (λ (task : Task). j == task.number) tasks ≡ o → IsSome o → length (without j tasks) < length tasks
    go None e k = absurd cc
    go (Some task) e k = fewer j tasks task e

pub is_some_of : {A : Type 0} (o : Option A) (x : A) → o ≡ Some x → IsSome o
is_some_of None x e = absurd cc
is_some_of (Some y) x e = refl
