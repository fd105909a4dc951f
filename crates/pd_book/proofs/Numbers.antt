-- Numbers of jobs: those that were started, are outstanding or have ended.
use Rattle.std.proofs.Common.{◌≡◌, ℕ, ◌≤◌, ◌==◌, List, [], ◌∷◌, find, Option, Some, None, Bool, true, false, not, ◌||◌, refl, ap, sym, ◌∙◌, arith}
use Rattle.std.specs.List.{AllByRecursion}
use Rattle.std.proofs.lemmas.Bool.Decides.{Decides-eqb}
use Rattle.pd_settings.specs.declared.settings.Settings.{Settings}
use Rattle.pd_book.specs.declared.act.Act.{Act}
use Rattle.pd_book.specs.declared.act.Act.TheVariants.{Add, Edit, Remove, Set, Start, Finish, Abandon}
use Rattle.pd_track.specs.declared.task.Task.{Task}
use Rattle.pd_book.specs.Acts.{jobs, job, without, started, ended, finished}
use Rattle.pd_book.specs.Legal.{Legal}
use Rattle.pd_book.proofs.Searches.{all_push, all_imp, all_filter, find_is, find_all, find_last, find_filter, found_kept, not_not, not_true, or_false, only_if, apart, differs}

-- an outstanding job was started
pub jobs_small : (opening : Settings) (past : List Act) → Legal opening past → AllByRecursion (λ (h : Task). h.number ≤ started past) (jobs opening past)
jobs_small opening [] l = tt
jobs_small opening (Start j n ∷ older) l =
    all_push _ (jobs opening older) _ (all_imp _ _ (jobs opening older) (λ h k. omega arith) (jobs_small opening older l.1)) (omega (arith, l.0.0))
jobs_small opening (Finish j r ∷ older) l = all_filter _ _ _ (jobs opening older) (λ h e k. k) (jobs_small opening older l.1)
jobs_small opening (Abandon j ∷ older) l = all_filter _ _ _ (jobs opening older) (λ h e k. k) (jobs_small opening older l.1)
jobs_small opening (Add n t ∷ older) l = jobs_small opening older l.1
jobs_small opening (Edit n e ∷ older) l = jobs_small opening older l.1
jobs_small opening (Remove n ∷ older) l = jobs_small opening older l.1
jobs_small opening (Set k v ∷ older) l = jobs_small opening older l.1

-- an outstanding job has its number, which was given
pub job_number : (opening : Settings) (past : List Act) (j : ℕ) (h : Task) → Legal opening past → job opening past j ≡ Some h → (h.number ≡ j) × (j ≤ started past)
job_number opening past j h l e =
    let same : h.number ≡ j = sym ((Decides-eqb j h.number).0 (find_is _ (jobs opening past) h e)) in
    let small : h.number ≤ started past = find_all _ _ (jobs opening past) h (jobs_small opening past l) e in
    (same, omega (arith, small, same))

-- a job that ended was started
pub ended_small : (opening : Settings) (past : List Act) (j : ℕ) → Legal opening past → ended past j ≡ true → j ≤ started past
ended_small opening [] j l h = absurd cc
ended_small opening (Start k n ∷ older) j l h = let s = ended_small opening older j l.1 h in omega (arith, s)
ended_small opening (Finish k r ∷ older) j l h = go (j == k) refl h (ended_small opening older j l.1)
  where
    go : (b : Bool) → (j == k) ≡ b → (b || ended older j) ≡ true → (ended older j ≡ true → j ≤ started older) → j ≤ started older
    go true e g f = let same : j ≡ k = (Decides-eqb j k).0 e in let s = (job_number opening older k l.0.0 l.1 l.0.1).1 in omega (arith, same, s)
    go false e g f = f g
ended_small opening (Abandon k ∷ older) j l h = go (j == k) refl h (ended_small opening older j l.1)
  where
    go : (b : Bool) → (j == k) ≡ b → (b || ended older j) ≡ true → (ended older j ≡ true → j ≤ started older) → j ≤ started older
    go true e g f = let same : j ≡ k = (Decides-eqb j k).0 e in let s = (job_number opening older k l.0.0 l.1 l.0.1).1 in omega (arith, same, s)
    go false e g f = f g
ended_small opening (Add n t ∷ older) j l h = ended_small opening older j l.1 h
ended_small opening (Edit n e ∷ older) j l h = ended_small opening older j l.1 h
ended_small opening (Remove n ∷ older) j l h = ended_small opening older j l.1 h
ended_small opening (Set k v ∷ older) j l h = ended_small opening older j l.1 h

-- a job that hasn't ended isn't finished
pub finished_ended : (past : List Act) (j : ℕ) → ended past j ≡ false → finished past j ≡ false
finished_ended [] j h = refl
finished_ended (Start k n ∷ older) j h = finished_ended older j h
finished_ended (Add n t ∷ older) j h = finished_ended older j h
finished_ended (Edit n e ∷ older) j h = finished_ended older j h
finished_ended (Remove n ∷ older) j h = finished_ended older j h
finished_ended (Set k v ∷ older) j h = finished_ended older j h
finished_ended (Finish k r ∷ older) j h = go (j == k) h (finished_ended older j)
  where
    go : (b : Bool) → (b || ended older j) ≡ false → (ended older j ≡ false → finished older j ≡ false) → (b || finished older j) ≡ false
    go true g f = absurd cc
    go false g f = f g
finished_ended (Abandon k ∷ older) j h = go (j == k) h (finished_ended older j)
  where
    go : (b : Bool) → (b || ended older j) ≡ false → (ended older j ≡ false → finished older j ≡ false) → finished older j ≡ false
    go true g f = absurd cc
    go false g f = f g

-- a look-up of another number passes over the filter
pub other_kept : (j k : ℕ) → (j ≡ k → ⊥) → (x : Task) → (j == x.number) ≡ true → not (k == x.number) ≡ true
other_kept j k f x e =
    let same : j ≡ x.number = (Decides-eqb j x.number).0 e in
    let no : (k == x.number) ≡ false = apart k x.number (λ q. f (same ∙ sym q)) in ap not no

-- an outstanding job after the end of another
outlives : (opening : Settings) (older : List Act) (j k : ℕ) (h : Task) → find (λ (x : Task). j == x.number) (without k (jobs opening older)) ≡ Some h
    → ((j == k) ≡ false) × (job opening older j ≡ Some h)
outlives opening older j k h e =
    let kept : not (k == h.number) ≡ true = found_kept (λ (x : Task). j == x.number) (λ (x : Task). not (k == x.number)) (jobs opening older) h e in
    let same : j ≡ h.number = (Decides-eqb j h.number).0 (find_is (λ (x : Task). j == x.number) _ h e) in
    let far : j ≡ k → ⊥ = λ q. differs k h.number (not_not (k == h.number) kept) (sym q ∙ same) in
    (apart j k far, sym (find_filter (λ (x : Task). j == x.number) (λ (x : Task). not (k == x.number)) (jobs opening older) (other_kept j k far)) ∙ e)

-- an outstanding job has not ended
pub open_job : (opening : Settings) (past : List Act) (j : ℕ) (h : Task) → Legal opening past → job opening past j ≡ Some h → ended past j ≡ false
open_job opening [] j h l e = absurd cc
open_job opening (Add n t ∷ older) j h l e = open_job opening older j h l.1 e
open_job opening (Edit n d ∷ older) j h l e = open_job opening older j h l.1 e
open_job opening (Remove n ∷ older) j h l e = open_job opening older j h l.1 e
open_job opening (Set k v ∷ older) j h l e = open_job opening older j h l.1 e
open_job opening (Start k n ∷ older) j h l e = go (job opening older j) refl (open_job opening older j)
  where
    go : (r : Option Task) → job opening older j ≡ r → ((x : Task) → Legal opening older → job opening older j ≡ Some x → ended older j ≡ false) → ended older j ≡ false
    go (Some x) q f = f x l.1 q
    go None q f =
        let big : j ≡ k = (Decides-eqb j k).0 (only_if (j == k) _ h (sym (find_last (λ (x : Task). j == x.number) (jobs opening older) _ q) ∙ e)) in
        not_true (ended older j) (λ w. let s = ended_small opening older j l.1 w in absurd (omega (arith, s, l.0.0, big)))
open_job opening (Finish k r ∷ older) j h l e =
    let o = outlives opening older j k h e in
    or_false (j == k) (ended older j) o.0 (open_job opening older j h l.1 o.1)
open_job opening (Abandon k ∷ older) j h l e =
    let o = outlives opening older j k h e in
    or_false (j == k) (ended older j) o.0 (open_job opening older j h l.1 o.1)
