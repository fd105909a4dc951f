-- The notes beside a book and those of a seat, after one act more.
use Rattle.std.proofs.Common.{◌≡◌, ℕ, ◌+◌, ◌≤◌, List, ◌∷◌, length, reverse, Option, Some, None, IsSome, subst, sym, ap, ◌∙◌, arith}
use Rattle.std.specs.Option.{IsSomeAnd}
use Rattle.std.proofs.lemmas.List.{length-reverse}
use Rattle.pd_book.specs.declared.act.Act.{Act}
use Rattle.pd_book.specs.Acts.{jobs, job, without}
use Rattle.pd_book.specs.Legal.{Legal}
use Rattle.pd_book.specs.History.{History, BookView, after_act}
use Rattle.pd_seat.specs.Seats.{unended}
use Rattle.pd_seat.specs.SeatInvariants.{IsNoted, IsSeat}
use Rattle.pd_seat.proofs.Jobs.{fewer_tasks}

-- a list that is one longer from its end
pub one_longer : {A : Type 0} (new old : List A) (x : A) → reverse new ≡ x ∷ reverse old → length new ≡ length old + 1
one_longer new old x e = omega (arith, ap length e, length-reverse new, length-reverse old)

-- after an act that starts and ends no job
pub more_noted : (book book' : BookView) (notes notes' : List ℕ) (cap cap' : ℕ) (act : Act) (n : ℕ)
    → IsNoted book notes cap → book'.history ≡ after_act book.history act → Legal book'.history.opening book'.history.past
    → jobs book.history.opening (act ∷ book.history.past) ≡ jobs book.history.opening book.history.past
    → reverse notes' ≡ n ∷ reverse notes → length notes + 1 + length (jobs book.history.opening book.history.past) ≤ cap' → IsNoted book' notes' cap'
more_noted book book' notes notes' cap cap' act n k now legal same more room =
    let longer = one_longer notes' notes n more in record {
      legal = legal;
      noted = omega (arith, longer, k.noted, ap (λ (s : History). length s.past) now);
      room = omega (arith, longer, room, ap length same, ap (λ (s : History). length (jobs s.opening s.past)) now);
    }

-- after the end of an outstanding job
pub ended_noted : (book book' : BookView) (notes notes' : List ℕ) (cap cap' : ℕ) (act : Act) (n j : ℕ)
    → IsNoted book notes cap → book'.history ≡ after_act book.history act → Legal book'.history.opening book'.history.past
    → IsSome (job book.history.opening book.history.past j)
    → jobs book.history.opening (act ∷ book.history.past) ≡ without j (jobs book.history.opening book.history.past)
    → reverse notes' ≡ n ∷ reverse notes → cap' ≡ cap → IsNoted book' notes' cap'
ended_noted book book' notes notes' cap cap' act n j k now legal found less more same =
    let longer = one_longer notes' notes n more in
    let fewer = fewer_tasks j (jobs book.history.opening book.history.past) found in record {
      legal = legal;
      noted = omega (arith, longer, k.noted, ap (λ (s : History). length s.past) now);
      room = omega (arith, longer, k.room, fewer, same, ap length less, ap (λ (s : History). length (jobs s.opening s.past)) now);
    }

-- a seat after an act that starts and ends no job
pub more_seat : (own own' : List Act) (open_jobs : List ℕ) (cap cap' : ℕ) (act : Act)
    → IsSeat own open_jobs cap → unended (act ∷ reverse own) ≡ unended (reverse own) → reverse own' ≡ act ∷ reverse own
    → length own + 1 + length open_jobs ≤ cap' → IsSeat own' open_jobs cap'
more_seat own own' open_jobs cap cap' act k same more room =
    let longer = one_longer own' own act more in record {
      unended = k.unended ∙ (sym same ∙ sym (ap unended more));
      room = omega (arith, longer, room);
    }

-- what holds of a value's content
pub content : {A : Type 0} (P : A → Type 0) (o : Option A) (x : A) → o ≡ Some x → IsSomeAnd o P → P x
content P None x e h = absurd h
content P (Some y) x e h = subst P (some_same y x e) h
  where
    some_same : {A : Type 0} (a b : A) → Some a ≡ Some b → a ≡ b
    some_same a b q = cc
