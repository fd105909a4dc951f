-- Jobs of a worker, one after the other.
use Rattle.std.proofs.Common.{◌≡◌, inl, inr, ℕ, ◌==◌, Bool, true, false, ◌||◌, arith, Result, Ok, Err, IfOk, OnOk, OnErr, refl, Option, Some, None, IfSome, List, [], ◌∷◌, ◌++◌, sym, ap, ◌∙◌, append_assoc, subst}
use Rattle.std.specs.Prelude.{◌≢◌}
use Rattle.std.specs.List.{list_any}
use Rattle.std.proofs.lemmas.Bool.Decides.{nat_tests}
use Rattle.pd_book.specs.declared.act.Act.{Act}
use Rattle.pd_book.specs.declared.act.Act.TheVariants.{Start, Finish, Abandon}
use Rattle.pd_book.specs.declared.act.Ruling.{Ruling}
use Rattle.pd_book.specs.declared.faults.FinishFault.{FinishFault}
use Rattle.pd_book.specs.declared.faults.FinishFault.TheVariants as finish
use Rattle.pd_book.specs.Replies.{GivesFinish, GivesAbandon}
use Rattle.pd_book.specs.History.{History}
use Rattle.pd_track.specs.declared.task.Task.{Task}
use Rattle.pd_seat.specs.Seats.{SeatView, with_act, unended, is_unended}
use Rattle.pd_desk.specs.Desk.{Disagrees}
use Rattle.pd_desk.specs.Work.{with_acts, with_start, RefusesFinish, RefusesAbandon, none, finished, not_ended, begun, abandoned, not_abandoned, Worked, Left, FoundDiffering, Works}
use Rattle.pd_desk.specs.Internal.{IsWant, EndsJob, AbandonsJob, Compared, LeavesJob, GivesUp}
use Rattle.pd_desk.specs.declared.faults.DeskFault.{DeskFault}
use Rattle.pd_desk.specs.declared.faults.DeskFault.TheVariants.{HistoryFull, NoWorkers, Differs, OutOfMemory}

nat_same : (n : ℕ) → (n == n) ≡ true
nat_same n = grind (arith, nat_tests)

or_true : (b : Bool) → (b || true) ≡ true
or_true true = refl
or_true false = refl

-- no job
pub worked_none : (s s' : SeatView) → s' ≡ s → Worked s s'
worked_none s s' e = record { acts = []; jobs = none; now = e }

-- acts after acts
later : (s m s' : SeatView) (older newer : List Act) → m ≡ with_acts s older → s' ≡ with_acts m newer → s' ≡ with_acts s (newer ++ older)
later s m s' older newer e f =
    f ∙ (ap (λ (t : SeatView). with_acts t newer) e
    ∙ ap (λ (l : List Act). record { number = s.number; own = l; longest_shown = s.longest_shown }) (sym (append_assoc newer older s.own)))

-- a seat after jobs and a start
started : (s m b : SeatView) (number : ℕ) (name : List ℕ) (w : Worked s m) → b ≡ with_act m (Start number name) → b ≡ with_start s w.acts number name
started s m b number name w e = e ∙ ap (λ (t : SeatView). with_act t (Start number name)) w.now

-- one job more, which was finished, or that was refused
pub worked_more : (s m b s' : SeatView) (task : Task) → Worked s m → b ≡ with_act m (Start task.number task.name) → EndsJob task b s' → Worked s s'
worked_more s m b s' task w e (inl (ruling, f)) = record {
  acts = Finish task.number ruling ∷ Start task.number task.name ∷ w.acts;
  jobs = finished task.number task.name ruling w.acts w.jobs;
  now = later s m s' w.acts (Finish task.number ruling ∷ Start task.number task.name ∷ []) w.now (f ∙ ap (λ (t : SeatView). with_act t (Finish task.number ruling)) e);
}
worked_more s m b s' task w e (inr (fault, why, f)) = record {
  acts = Start task.number task.name ∷ w.acts;
  jobs = not_ended task fault w.acts (subst (λ (t : SeatView). RefusesFinish t task fault) (started s m b task.number task.name w e) why) w.jobs;
  now = later s m s' w.acts (Start task.number task.name ∷ []) w.now (f ∙ e);
}

-- one job more, which was given up, or that was refused
abandoned_more : (s m b s' : SeatView) (number : ℕ) (name : List ℕ) → Worked s m → b ≡ with_act m (Start number name) → AbandonsJob number b s' → Left s s'
abandoned_more s m b s' number name w e (inl f) = record {
  acts = Abandon number ∷ Start number name ∷ w.acts;
  jobs = abandoned number name w.acts w.jobs;
  now = later s m s' w.acts (Abandon number ∷ Start number name ∷ []) w.now (f ∙ ap (λ (t : SeatView). with_act t (Abandon number)) e);
}
abandoned_more s m b s' number name w e (inr (fault, why, f)) = record {
  acts = Start number name ∷ w.acts;
  jobs = not_abandoned number name fault w.acts (subst (λ (t : SeatView). RefusesAbandon t number fault) (started s m b number name w e) why) w.jobs;
  now = later s m s' w.acts (Start number name ∷ []) w.now (f ∙ e);
}

-- a job more that was left as it is
strayed_more : (s m b s' : SeatView) (number : ℕ) (name : List ℕ) → Worked s m → b ≡ with_act m (Start number name) → LeavesJob b s' → FoundDiffering s s'
strayed_more s m b s' number name w e (f, differs) = record {
  acts = w.acts;
  number = number;
  name = name;
  jobs = w.jobs;
  now = f ∙ started s m b number name w e;
  differs = subst (λ (t : SeatView). Disagrees t) (sym f) differs;
}

-- how a worker leaves that gives up the job at hand
pub works_given_up : (s m b s' : SeatView) (number : ℕ) (name : List ℕ) (fault : DeskFault) → Worked s m → b ≡ with_act m (Start number name) → GivesUp number fault b s' → Works s (Err fault) s'
works_given_up s m b s' number name OutOfMemory w e g = abandoned_more s m b s' number name w e g
works_given_up s m b s' number name Differs w e g = strayed_more s m b s' number name w e g
works_given_up s m b s' number name HistoryFull w e g = absurd g
works_given_up s m b s' number name NoWorkers w e g = absurd g

-- a job that was started is not ended yet
any_last : (jobs : List ℕ) (number : ℕ) → list_any (λ (job : ℕ). job == number) (jobs ++ number ∷ []) ≡ true
any_last [] number = ap (λ (b : Bool). b || list_any (λ (job : ℕ). job == number) []) (nat_same number)
any_last (job ∷ jobs) number = ap (λ (b : Bool). (job == number) || b) (any_last jobs number) ∙ or_true (job == number)

pub is_started : (s s' : SeatView) (number : ℕ) (name : List ℕ) → s' ≡ with_act s (Start number name) → is_unended s'.own number ≡ true
is_started s s' number name e = ap (λ (t : SeatView). is_unended t.own number) e ∙ any_last (unended s.own) number

-- what the reply to a finish says of the job of the task, where the history agrees with the seat
pub finish_ends : (reply : Result Ruling FinishFault) (agrees : Bool) (task : Task) (s s' : SeatView) → Compared s reply agrees (λ before after. GivesFinish before task reply after)
    → IfOk reply (λ ruling. s' ≡ with_act s (Finish task.number ruling)) → (is_unended s.own task.number ≡ true → reply ≢ Err finish.OutOfMemory) → is_unended s.own task.number ≡ true → OnErr reply (s' ≡ s) → agrees ≡ true → EndsJob task s s'
finish_ends (Ok ruling) agrees task s s' compared records room started refuses e = inl (ruling, records)
finish_ends (Err fault) true task s s' compared records room started refuses e = inr (fault, compared (λ same. room started (ap (λ (f : FinishFault). Err f) same)), refuses)
finish_ends (Err fault) false task s s' compared records room started refuses e = absurd cc

-- a job whose end is refused after a history that disagrees with the seat
pub leaves_job : {T : Type 0} → (reply : Result T FinishFault) (agrees : Bool) (P : History → History → Type 0) (s s' : SeatView) → Compared s reply agrees P → OnErr reply (s' ≡ s) → agrees ≡ false → LeavesJob s s'
leaves_job (Ok x) agrees P s s' compared refuses e = absurd cc
leaves_job (Err fault) true P s s' compared refuses e = absurd cc
leaves_job (Err fault) false P s s' compared refuses e = (refuses, compared)

-- what the reply to an abandonment says of the job, where the history agrees with the seat
pub abandon_ends : (reply : Result (Unit {0}) FinishFault) (agrees : Bool) (number : ℕ) (s s' : SeatView) → Compared s reply agrees (λ before after. GivesAbandon before number reply after)
    → OnOk reply (s' ≡ with_act s (Abandon number)) → (is_unended s.own number ≡ true → reply ≢ Err finish.OutOfMemory) → is_unended s.own number ≡ true → OnErr reply (s' ≡ s) → agrees ≡ true → AbandonsJob number s s'
abandon_ends (Ok u) agrees number s s' compared records room started refuses e = inl records
abandon_ends (Err fault) true number s s' compared records room started refuses e = inr (fault, compared (λ same. room started (ap (λ (f : FinishFault). Err f) same)), refuses)
abandon_ends (Err fault) false number s s' compared records room started refuses e = absurd cc

-- no job more
pub worked_on : (s m s' : SeatView) → Worked s m → s' ≡ m → Worked s s'
worked_on s m s' w e = record { acts = w.acts; jobs = w.jobs; now = e ∙ w.now }

-- no job that was given up
pub left_of : (s s' : SeatView) → Worked s s' → Left s s'
left_of s s' w = record { acts = w.acts; jobs = begun w.acts w.jobs; now = w.now }

-- a worker that leaves out of room or memory, with no job at hand
pub works_want : (s s' : SeatView) (fault : DeskFault) → IsWant fault → Worked s s' → Works s (Err fault) s'
works_want s s' fault (inl e) w = subst (λ (f : DeskFault). Works s (Err f) s') (sym e) w
works_want s s' fault (inr e) w = subst (λ (f : DeskFault). Works s (Err f) s') (sym e) (left_of s s' w)

-- what holds of a job that is given
pub of_given : {A : Type 0} (P : A → Type 0) (given : Option A) (job : A) → given ≡ Some job → IfSome given P → P job
of_given P None job e h = absurd cc
of_given P (Some other) job e h = subst P (same other job e) h
  where
    same : {A : Type 0} (x y : A) → Some x ≡ Some y → x ≡ y
    same x y q = cc
