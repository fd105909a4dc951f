-- Settling comes to its end, and leaves what it says.
use Rattle.std.proofs.Common.{◌≡◌, ℕ, ◌+◌, ◌≤◌, Option, Some, None, Result, Ok, Err, refl, ap, subst, arith, suc, zero}
use Rattle.pd_book.specs.declared.faults.BookFault.{BookFault}
use Rattle.pd_track.specs.declared.task.Task.{Task}
use Rattle.pd_book.specs.Acts.{next}
use Rattle.pd_book.specs.Report.{owed}
use Rattle.pd_book.specs.History.{History}
use Rattle.pd_book.specs.Refusals.{next_job, start_refusal}
use Rattle.pd_book.specs.Turns.{after_turn, turn, settled_in, IsAtRest, TurnsSuffice, IsSettled, SettlesAll}
use Rattle.pd_book.proofs.Legality.{turns_legal}
use Rattle.pd_book.proofs.Rows.{none_pending}
use Rattle.pd_book.proofs.Splits.{from_scratch}
use Rattle.pd_book.proofs.Turns.{turns_settle, none_owed, none_map}

-- one turn leaves one row fewer pending
one_less : (history : History) (task : Task) → IsAtRest history → next_job history ≡ Some task → owed history.opening (after_turn history task).past + 1 ≡ owed history.opening history.past
one_less history task q h = (turns_settle history.opening history.past q.legal task q.none h).0

-- where none waits, none is owed
none_left : (history : History) → IsAtRest history → next_job history ≡ None → owed history.opening history.past ≡ 0
none_left history q h = none_owed history.opening history.past q.legal q.none (none_map _ (next history.past) h)

-- ---- more turns than are needed

pub more_turns : (a b : ℕ) (history : History) → IsAtRest history → owed history.opening history.past ≤ a → owed history.opening history.past ≤ b → settled_in a history ≡ settled_in b history
more_turns zero zero history q h k = refl
more_turns (suc a) zero history q h k = none (next_job history) refl
  where
    none : (o : Option Task) → next_job history ≡ o → turn history o (start_refusal history) (λ next. settled_in a next) ≡ Ok history
    none None e = refl
    none (Some task) e = absurd (omega (arith, one_less history task q e, k))
more_turns zero (suc b) history q h k = none (next_job history) refl
  where
    none : (o : Option Task) → next_job history ≡ o → Ok history ≡ turn history o (start_refusal history) (λ next. settled_in b next)
    none None e = refl
    none (Some task) e = absurd (omega (arith, one_less history task q e, h))
more_turns (suc a) (suc b) history q h k = go (next_job history) refl (start_refusal history) refl (λ next r m n. more_turns a b next r m n)
  where
    go : (o : Option Task) → next_job history ≡ o → (r : Option BookFault) → start_refusal history ≡ r
        → ((next : History) → IsAtRest next → owed next.opening next.past ≤ a → owed next.opening next.past ≤ b → settled_in a next ≡ settled_in b next)
        → turn history o r (λ next. settled_in a next) ≡ turn history o r (λ next. settled_in b next)
    go None e r f rest = refl
    go (Some task) e (Some fault) f rest = refl
    go (Some task) e None f rest =
        let less = one_less history task q e in
        rest (after_turn history task) (turns_legal history q task e f) (omega (arith, less, h)) (omega (arith, less, k))

pub turns_suffice : (history : History) → IsAtRest history → TurnsSuffice history
turns_suffice history q turns h = more_turns turns (owed history.opening history.past) history q h (omega arith)

-- ---- what is left

abbrev got : History → Result History BookFault → History
got d (Ok history) = history
got d (Err fault) = d

same_story : (a b : History) → ◌≡◌ {A = Result History BookFault} (Ok a) (Ok b) → a ≡ b
same_story a b e = ap (λ (r : Result History BookFault). got a r) e

at_end : (history : History) → IsAtRest history → owed history.opening history.past ≡ 0 → IsSettled history history
at_end history q h = record {
  rest = q;
  opening = refl;
  same_texts = refl;
  same_settings = refl;
  none_owed = h;
  report = from_scratch history.opening history.past ((none_pending history.opening history.past).0 h);
}

-- a turn before a settling
before_end : (history after : History) (task : Task) → IsSettled (after_turn history task) after → IsSettled history after
before_end history after task s = record {
  rest = s.rest;
  opening = s.opening;
  same_texts = s.same_texts;
  same_settings = s.same_settings;
  none_owed = s.none_owed;
  report = s.report;
}

settles_in : (turns : ℕ) (history after : History) → IsAtRest history → owed history.opening history.past ≤ turns → settled_in turns history ≡ Ok after → IsSettled history after
settles_in zero history after q h e = subst (IsSettled history) (same_story history after e) (at_end history q (omega (arith, h)))
settles_in (suc turns) history after q h e = go (next_job history) refl (start_refusal history) refl e (λ next r m k. settles_in turns next after r m k)
  where
    go : (o : Option Task) → next_job history ≡ o → (r : Option BookFault) → start_refusal history ≡ r → turn history o r (λ next. settled_in turns next) ≡ Ok after
        → ((next : History) → IsAtRest next → owed next.opening next.past ≤ turns → settled_in turns next ≡ Ok after → IsSettled next after) → IsSettled history after
    go None n r f k rest = subst (IsSettled history) (same_story history after k) (at_end history q (none_left history q n))
    go (Some task) n (Some fault) f k rest = absurd cc
    go (Some task) n None f k rest =
        let less = one_less history task q n in
        before_end history after task (rest (after_turn history task) (turns_legal history q task n f) (omega (arith, less, h)) k)

pub settles_all : (history : History) → IsAtRest history → SettlesAll history
settles_all history q after e = settles_in (owed history.opening history.past) history after q (omega arith) e
