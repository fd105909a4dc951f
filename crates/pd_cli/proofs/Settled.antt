-- Settling turn by turn, and what acts print.
use Rattle.std.proofs.Common.{◌≡◌, ℕ, ◌<◌, ◌≤◌, true, false, List, Option, Some, None, Result, Ok, Err, OnOk, OnErr, IfErr, IfOk, IsOk, IsErrAnd, option_map, refl, sym, ap, ◌∙◌, arith, suc, zero}
use Rattle.std.specs.Option.{IsSomeAnd}
use Rattle.pd_settings.specs.declared.keys.Key.{Key}
use Rattle.pd_settings.specs.declared.values.Value.{Value}
use Rattle.pd_book.specs.declared.act.Act.TheVariants as act
use Rattle.pd_book.specs.declared.act.Ruling.{Ruling}
use Rattle.pd_book.specs.declared.faults.BookFault.{BookFault}
use Rattle.pd_book.specs.declared.faults.BookFault.TheVariants as book
use Rattle.pd_book.specs.declared.faults.FinishFault.{FinishFault}
use Rattle.pd_track.specs.declared.task.Task.{Task}
use Rattle.pd_book.specs.Acts.{job as job_of, ruling, next, NamedText}
use Rattle.pd_book.specs.History.{History, BookView, JobView, handed_task, after_act, after_start}
use Rattle.pd_book.specs.Report.{owed}
use Rattle.pd_book.specs.Refusals.{next_job, start_refusal, history_full_fault_unless_space_for, fault_of}
use Rattle.pd_book.specs.Turns.{after_turn, settled, settled_in, StartsAreOutstanding, TurnsSettle}
use Rattle.pd_protocol.specs.declared.faults.ServeFault.{ServeFault}
use Rattle.pd_protocol.specs.declared.faults.ServeFault.TheVariants.{HistoryFull, NoWorkers, Differs, BadCommand, Truncated, Read, Write, OutOfMemory}
use Rattle.pd_cli.specs.Output.{acted}
use Rattle.pd_cli.specs.Steps.{RepliesTo, IsQuiet, Turns, SettlesTo}

-- the settling of a first history goes on from this one, with enough turns
abbrev pub GoesOn : History → History → Type 0
GoesOn first history = (turns : ℕ) × (owed history.opening history.past ≤ turns) × (settled first ≡ settled_in turns history)

pub goes_first : (history : History) → GoesOn history history
goes_first history = (owed history.opening history.past, omega arith, refl)

turned_in : (turns : ℕ) (history : History) (task : Task) → next_job history ≡ Some task → start_refusal history ≡ None → settled_in (suc turns) history ≡ settled_in turns (after_turn history task)
turned_in turns history task h k = rw (h, k) refl

pub goes_on : (first history next : History) → GoesOn first history → Turns (Ok true) history next → GoesOn first next
goes_on first history next g t = go g.0 g.1 g.2
  where
    go : (turns : ℕ) → owed history.opening history.past ≤ turns → settled first ≡ settled_in turns history → GoesOn first next
    go zero le e = let less = t.4 in absurd (omega (arith, less, le))
    go (suc turns) le e = let less = t.4 in (turns, omega (arith, less, le), e ∙ (turned_in turns history t.0 t.1 t.2 ∙ ap (settled_in turns) (sym t.3)))

pub goes_less : (history next : History) → Turns (Ok true) history next → owed next.opening next.past < owed history.opening history.past
goes_less history next t = let less = t.4 in omega (arith, less)

pub settled_end : (turns : ℕ) (history : History) → next_job history ≡ None → settled_in turns history ≡ Ok history
settled_end zero history h = refl
settled_end (suc turns) history h = rw h refl

pub goes_end : (first history next : History) → GoesOn first history → Turns (Ok false) history next → SettlesTo (Ok tt) first next
goes_end first history next g t = rw t.1 (g.2 ∙ settled_end g.0 history t.0)

pub goes_stop : (first history next : History) (fault : ServeFault) → GoesOn first history → Turns (Err fault) history next → SettlesTo (Err fault) first next
goes_stop first history next OutOfMemory g t = tt
goes_stop first history next Read g t = absurd t
goes_stop first history next Write g t = absurd t
goes_stop first history next NoWorkers g t = absurd t
goes_stop first history next Differs g t = absurd t
goes_stop first history next BadCommand g t = absurd t
goes_stop first history next Truncated g t = absurd t
goes_stop first history next HistoryFull g t = go g.0 g.1 g.2
  where
    go : (turns : ℕ) → owed history.opening history.past ≤ turns → settled first ≡ settled_in turns history → settled first ≡ Err book.HistoryFull
    go zero le e = let some = t.3 in absurd (omega (arith, some, le))
    go (suc turns) le e = e ∙ rw (t.1, t.2) refl

-- a fault that is passed on
pub goes_out : (r : Result (Unit {0}) ServeFault) (first history next : History) (fault : ServeFault) → IsErrAnd r (λ x. x ≡ fault) → GoesOn first history → Turns (Err fault) history next → SettlesTo r first next
goes_out (Ok u) first history next fault e g t = absurd e
goes_out (Err x) first history next fault e g t = rw e (goes_stop first history next fault g t)

-- one turn

pub if_ok_map : {V E : Type 0} (r : Result V E) (P Q : V → Type 0) → ((v : V) → P v → Q v) → IfOk r P → IfOk r Q
if_ok_map (Ok v) P Q f h = f v h
if_ok_map (Err e) P Q f h = tt

pub start_full : (history : History) → IsQuiet history → TurnsSettle history.opening history.past → book.HistoryFull ≡ fault_of (start_refusal history)
    → (task : Task) × (next_job history ≡ Some task) × (start_refusal history ≡ Some book.HistoryFull) × (0 < owed history.opening history.past)
start_full history q law h = go (next history.past) refl (history_full_fault_unless_space_for 2 history) refl
  where
    some : (task : Task) → next_job history ≡ Some task → 0 < owed history.opening history.past
    some task n = let less = (law task q n).0 in omega (arith, less)

    go : (o : Option NamedText) → next history.past ≡ o → (f : Option BookFault) → history_full_fault_unless_space_for 2 history ≡ f
        → (task : Task) × (next_job history ≡ Some task) × (start_refusal history ≡ Some book.HistoryFull) × (0 < owed history.opening history.past)
    go None e f k = let none : start_refusal history ≡ None = rw e refl in let bad : book.HistoryFull ≡ book.OutOfMemory = h ∙ ap fault_of none in absurd cc
    go (Some script) e f k =
        let same : start_refusal history ≡ f = rw e k in
        first_or_none f same (h ∙ ap fault_of same) (rw e (_, refl))
      where
        first_or_none : (f : Option BookFault) → start_refusal history ≡ f → book.HistoryFull ≡ fault_of f → (task : Task) × (next_job history ≡ Some task)
            → (task : Task) × (next_job history ≡ Some task) × (start_refusal history ≡ Some book.HistoryFull) × (0 < owed history.opening history.past)
        first_or_none None s b t = absurd cc
        first_or_none (Some x) s b t = (t.0, t.1, s ∙ ap (λ (y : BookFault). Some y) (sym b), some t.0 t.1)

-- the job that was handed out is outstanding, and its result is its own
pub finish_own : (history begun : History) (o : Option JobView) (job : JobView) (done : Task) → StartsAreOutstanding history → o ≡ Some job → handed_task o ≡ next_job history → begun ≡ after_start history (handed_task o) → done ≡ job.task
    → job_of begun.opening begun.past done.number ≡ Some done
finish_own history begun o job done s e f b d = rw (d, b, e) (s job.task (sym f ∙ ap handed_task e))

pub finish_ok : (r : Result Ruling FinishFault) (P : Type 0) → OnErr r (P → ⊥) → P → IsOk r
finish_ok (Ok x) P f p = refl
finish_ok (Err x) P f p = absurd (f p)

pub turn_done : (history begun after : History) (o : Option JobView) (job : JobView) (done : Task) (r : Result Ruling FinishFault) → IsQuiet history → TurnsSettle history.opening history.past → o ≡ Some job → handed_task o ≡ next_job history
    → begun ≡ after_start history (handed_task o) → start_refusal history ≡ None → done ≡ job.task → IsOk r → IfOk r (λ x. x ≡ ruling begun.past done) → IfOk r (λ x. after ≡ after_act begun (act.Finish done.number x)) → Turns (Ok true) history after
turn_done history begun after o job done (Err x) q law e f b a d k m n = absurd cc
turn_done history begun after o job done (Ok x) q law e f b a d k m n =
    let next : next_job history ≡ Some job.task = sym f ∙ ap handed_task e in
    let is : after ≡ after_turn history job.task = n ∙ (ap (λ (y : Ruling). after_act begun (act.Finish done.number y)) m ∙ rw (d, b, e) refl) in
    let left = law job.task q next in
    (job.task, next, a, is, rw is left.0, rw is left.1)

-- what acts print

pub acts_set : (r : Result (Unit {0}) BookFault) (old new : BookView) (refusal : Option BookFault) (o : Option Key) (value : Value) (octets : List ℕ)
    → OnOk r (IsSomeAnd o (λ k. new.history ≡ after_act old.history (act.Set k value))) → OnOk r (refusal ≡ None) → IfErr r (λ e. e ≡ fault_of refusal) → OnErr r (new ≡ old) → RepliesTo r octets
    → acted old.history refusal (option_map (λ k. act.Set k value) o) ≡ (octets, new.history)
acts_set (Ok u) old new refusal None value octets h a e s p = absurd h
acts_set (Ok u) old new refusal (Some k) value octets h a e s p = rw (a, h, p) refl
acts_set (Err x) old new None o value octets h a e s p = absurd (p.1 e)
acts_set (Err x) old new (Some f) o value octets h a e s p = rw (p.0, s, e) refl
