-- A job that a seat started last, and that isn't outstanding, was ended by acts noted with another number.
use Rattle.std.proofs.Common.{◌≡◌, ℕ, ◌==◌, Bool, true, false, not, ◌||◌, cond, List, [], ◌∷◌, ◌++◌, find, Option, Some, None, refl, sym, ap, subst, ◌∙◌, arith}
use Rattle.std.specs.Prelude.{◌≢◌, if◌then◌else◌}
use Rattle.std.proofs.lemmas.Bool.Decides.{nat_tests}
use Rattle.pd_settings.specs.declared.settings.Settings.{Settings}
use Rattle.pd_book.specs.declared.act.Act.{Act}
use Rattle.pd_book.specs.declared.act.Act.TheVariants.{Add, Edit, Remove, Set, Start, Finish, Abandon}
use Rattle.pd_book.specs.declared.faults.FinishFault.TheVariants.{NoSuchJob}
use Rattle.pd_book.specs.Acts.{jobs, job, without, ends, ended}
use Rattle.pd_book.specs.Refusals.{finish_fault}
use Rattle.pd_track.specs.declared.task.Task.{Task}
use Rattle.pd_seat.specs.Seats.{made_by}
use Rattle.pd_desk.specs.Laws.{FinishedByAnother, AbandonedByAnother}

-- the task has this number
abbrev is : ℕ → Task → Bool
is j task = j == task.number

same : (n : ℕ) → (n == n) ≡ true
same n = grind (arith, nat_tests)

-- ---- which jobs are outstanding

none_before : (j : ℕ) (xs ys : List Task) → find (is j) (xs ++ ys) ≡ None → find (is j) xs ≡ None
none_before j [] ys h = refl
none_before j (x ∷ xs) ys h = step (j == x.number) h (none_before j xs ys)
  where
    step : (b : Bool) → cond b (Some x) (find (is j) (xs ++ ys)) ≡ None → (find (is j) (xs ++ ys) ≡ None → find (is j) xs ≡ None) → cond b (Some x) (find (is j) xs) ≡ None
    step true k f = k
    step false k f = f k

not_last : (j : ℕ) (xs : List Task) (x : Task) → (j == x.number) ≡ true → find (is j) (xs ++ x ∷ []) ≡ None → ⊥
not_last j [] x e h = let found : cond true (Some x) None ≡ None = subst (λ (b : Bool). cond b (Some x) None ≡ None) e h in absurd cc
not_last j (y ∷ xs) x e h = step (j == y.number) h (not_last j xs x e)
  where
    step : (b : Bool) → cond b (Some y) (find (is j) (xs ++ x ∷ [])) ≡ None → (find (is j) (xs ++ x ∷ []) ≡ None → ⊥) → ⊥
    step true k f = absurd cc
    step false k f = f k

none_without : (i j : ℕ) (xs : List Task) → (j == i) ≡ false → find (is j) (without i xs) ≡ None → find (is j) xs ≡ None
none_without i j [] e h = refl
none_without i j (x ∷ xs) e h = step (j == x.number) (i == x.number) refl refl h (none_without i j xs e)
  where
    left : List Task
    left = without i xs

    step : (a b : Bool) → (j == x.number) ≡ a → (i == x.number) ≡ b → find (is j) (cond (not b) (x ∷ left) left) ≡ None → (find (is j) left ≡ None → find (is j) xs ≡ None)
        → cond a (Some x) (find (is j) xs) ≡ None
    step true true p q k f = let both : (j == i) ≡ true = grind (arith, nat_tests, p, q) in let bad : true ≡ false = sym both ∙ e in absurd cc
    step true false p q k f = subst (λ (b : Bool). cond b (Some x) (find (is j) left) ≡ None) p k
    step false true p q k f = f k
    step false false p q k f = f (subst (λ (b : Bool). cond b (Some x) (find (is j) left) ≡ None) p k)

-- a job that isn't outstanding after an act that doesn't end it wasn't before
none_older : (opening : Settings) (act : Act) (past : List Act) (j : ℕ) → ends j act ≡ false → job opening (act ∷ past) j ≡ None → job opening past j ≡ None
none_older opening (Add n t) past j e h = h
none_older opening (Edit n d) past j e h = h
none_older opening (Remove n) past j e h = h
none_older opening (Set k v) past j e h = h
none_older opening (Start i n) past j e h = none_before j (jobs opening past) _ h
none_older opening (Finish i r) past j e h = none_without i j (jobs opening past) e h
none_older opening (Abandon i) past j e h = none_without i j (jobs opening past) e h

-- a start leaves its job outstanding
started_stands : (opening : Settings) (past : List Act) (j : ℕ) (name : List ℕ) → job opening (Start j name ∷ past) j ≡ None → ⊥
started_stands opening past j name h = not_last j (jobs opening past) _ (same j) h

-- ---- who ended it

abbrev ByAnother : ℕ → ℕ → List ℕ → List Act → Type 0
ByAnother n j notes past = (other : ℕ) × (other ≢ n) × (ended (made_by other notes past) j ≡ true)

-- an end stays one after an act more
ended_more : (b : Bool) (act : Act) (j : ℕ) (made : List Act) → ended made j ≡ true → ended (if b then act ∷ made else made) j ≡ true
ended_more true act j made e = ap (λ (d : Bool). ends j act || d) e ∙ or_true (ends j act)
  where
    or_true : (d : Bool) → (d || true) ≡ true
    or_true true = refl
    or_true false = refl
ended_more false act j made e = e

-- an act that ends the job, noted with this number
ended_here : (b : Bool) (act : Act) (j : ℕ) (made : List Act) → b ≡ true → ends j act ≡ true → ended (if b then act ∷ made else made) j ≡ true
ended_here true act j made e f = ap (λ (d : Bool). d || ended made j) f
ended_here false act j made e f = absurd cc

by_another : (opening : Settings) (n j : ℕ) (name : List ℕ) (older : List Act) (notes : List ℕ) (past : List Act)
    → made_by n notes past ≡ Start j name ∷ older → job opening past j ≡ None → ByAnother n j notes past
by_another opening n j name older [] past m h = absurd cc
by_another opening n j name older (note ∷ notes) [] m h = absurd cc
by_another opening n j name older (note ∷ notes) (act ∷ past) m h = at (λ k none. by_another opening n j name older notes past k none) (note == n) refl m
  where
    Older : Type 0
    Older = made_by n notes past ≡ Start j name ∷ older → job opening past j ≡ None → ByAnother n j notes past

    made : List Act
    made = made_by n notes past

    other_end : Older → (b : Bool) → ends j act ≡ b → (note == n) ≡ false → made ≡ Start j name ∷ older → ByAnother n j (note ∷ notes) (act ∷ past)
    other_end rest true e f k =
        (note, λ q. (let bad : true ≡ false = sym (same n) ∙ (ap (λ (x : ℕ). x == n) (sym q) ∙ f) in absurd cc), ended_here (note == note) act j (made_by note notes past) (same note) e)
    other_end rest false e f k =
        let (other, differs, made_end) = rest k (none_older opening act past j e h) in
        (other, differs, ended_more (note == other) act j (made_by other notes past) made_end)

    at : Older → (b : Bool) → (note == n) ≡ b → (if b then act ∷ made else made) ≡ Start j name ∷ older → ByAnother n j (note ∷ notes) (act ∷ past)
    at rest true f k =
        let first : act ≡ Start j name = cc in
        absurd (started_stands opening past j name (subst (λ (a : Act). job opening (a ∷ past) j ≡ None) first h))
    at rest false f k = other_end rest (ends j act) refl f k

-- the job that a finish finds where there is none
no_job : (o : Option Task) → NoSuchJob ≡ finish_fault o → o ≡ None
no_job None e = refl
no_job (Some task) e = absurd cc

pub finished_by_another : FinishedByAnother
finished_by_another seat acts task (held, after, kept, agrees, gives) =
    let past = held.book.history.past in
    by_another held.book.history.opening seat.number task.number task.name (acts ++ seat.own) held.notes past agrees.own (no_job (job held.book.history.opening past task.number) gives.1)

pub abandoned_by_another : AbandonedByAnother
abandoned_by_another seat acts number name (held, after, kept, agrees, gives) =
    by_another held.book.history.opening seat.number number name (acts ++ seat.own) held.notes held.book.history.past agrees.own gives.1
