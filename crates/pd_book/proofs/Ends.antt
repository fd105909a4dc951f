-- Each kept script after the end of a job, by the acts.
use Rattle.std.proofs.Common.{◌≡◌, ℕ, ◌==◌, List, ◌∷◌, Some, is_some, Bool, true, false, not, ◌&&◌, ◌||◌, cond, refl, ap, sym, subst, ◌∙◌}
use Rattle.std.specs.Str.{bytes_eq}
use Rattle.std.proofs.lemmas.Slice.Eq.{bytes_eq-Decides}
use Rattle.std.proofs.lemmas.Bool.Decides.{Decides-eqb}
use Rattle.pd_settings.specs.declared.settings.Settings.{Settings}
use Rattle.pd_run.specs.Run.{verdict_of}
use Rattle.pd_book.specs.declared.act.Act.{Act}
use Rattle.pd_book.specs.declared.act.Act.TheVariants.{Finish, Abandon}
use Rattle.pd_book.specs.declared.act.Ruling.{Ruling}
use Rattle.pd_book.specs.declared.act.Ruling.TheVariants.{Taken, Stale}
use Rattle.pd_book.specs.declared.stored_script.ScriptState.{ScriptState}
use Rattle.pd_book.specs.declared.stored_script.ScriptState.TheVariants.{Pending, Running, Answered}
use Rattle.pd_track.specs.declared.task.Task.{Task}
use Rattle.pd_book.specs.Acts.{has_script, since, finished, ended, job, jobs, is_unchanged_since_start}
use Rattle.pd_book.specs.Legal.{Legal}
use Rattle.pd_book.specs.StoredScripts.{ScriptEntry, in_state}
use Rattle.pd_book.proofs.Searches.{find_filter, apart, differs}
use Rattle.pd_book.proofs.Faithful.{bytes_refl}
use Rattle.pd_book.proofs.Stretches.{NoStart, sub, up, both, or_both}
use Rattle.pd_book.proofs.Numbers.{job_number, open_job, other_kept}
use Rattle.pd_book.proofs.Standing.{Stands, At, task_of, began}

not_or : (a b : Bool) → not b ≡ false → not (a || b) ≡ false
not_or true b h = refl
not_or false b h = h

not_or_and : (a b c : Bool) → (not b && c) ≡ false → (not (a || b) && c) ≡ false
not_or_and true b c h = refl
not_or_and false b c h = h

not_and_or : (a b : Bool) → (not b && not a) ≡ false → not (a || b) ≡ false
not_and_or true b h = refl
not_and_or false b h = both_no b h
  where
    both_no : (x : Bool) → (not x && true) ≡ false → not x ≡ false
    both_no true h = refl
    both_no false h = h

or_right_true : (a b : Bool) → b ≡ true → (a || b) ≡ true
or_right_true true b h = refl
or_right_true false b h = h

or_left_true : (a b : Bool) → a ≡ true → (a || b) ≡ true
or_left_true true b h = refl
or_left_true false b h = absurd cc

-- no start of an open job lies where none but ended ones were started
no_open : (past : List Act) (k : ℕ) (n : List ℕ) (xs : List Act) → ended past k ≡ false → NoStart (λ j. not (ended past j)) n xs → NoStart (λ j. j == k) n xs
no_open past k n xs o h = sub _ _ n xs (λ j q. apart j k (λ w. absurd (let e : ended past j ≡ false = ap (ended past) w ∙ o in let bad : true ≡ false = sym (ap not e) ∙ q in cc))) h

no_other : (past : List Act) (k i : ℕ) (n : List ℕ) (xs : List Act) → ended past k ≡ false → (k ≡ i → ⊥) → NoStart (λ j. not (ended past j) && not (j == i)) n xs → NoStart (λ j. j == k) n xs
no_other past k i n xs o far h =
    sub _ _ n xs (λ j q. apart j k (λ w. absurd (
    let e : ended past j ≡ false = ap (ended past) w ∙ o in
    let d : (j == i) ≡ false = apart j i (λ z. far (sym w ∙ z)) in
    let bad : true ≡ false = sym (ap not e) ∙ (sym (and_true (not (ended past j)) (not (j == i)) (ap not d)) ∙ q) in cc))) h
  where
    and_true : (b c : Bool) → c ≡ true → (b && c) ≡ b
    and_true true c h = h
    and_true false c h = refl

-- an end of a job that isn't the script's
other_finish : (opening : Settings) (past : List Act) (k : ℕ) (r : Ruling) → ended past k ≡ false → (e : ScriptEntry) → began past e.0 k ≡ false → Stands opening past e → Stands opening (Finish k r ∷ past) e
other_finish opening past k r o e f h = (h.0, by e.1.state h.1)
  where
    by : (st : ScriptState) → At opening past e.0 e.1.text st → At opening (Finish k r ∷ past) e.0 e.1.text st
    by Pending a = (both (λ j. j == k) (finished past) e.0 (since e.0 past) f a.0, sub _ _ e.0 (since e.0 past) (λ j q. not_or (j == k) _ q) a.1)
    by (Running i) a =
        let far : i ≡ k → ⊥ = λ w. let bad : began past e.0 k ≡ true = rw (← w) a.1 in cc in (
          both (λ j. j == k) (finished past) e.0 (since e.0 past) f a.0,
          a.1,
          or_both (i == k) _ (apart i k far) a.2,
          sub _ _ e.0 (since e.0 past) (λ j q. not_or_and (j == k) _ _ q) a.3,
          find_filter (λ (x : Task). i == x.number) (λ (x : Task). not (k == x.number)) (jobs opening past) (other_kept i k far) ∙ a.4,
        )
    by (Answered v) a = (
      up (finished past) (finished (Finish k r ∷ past)) e.0 (since e.0 past) (λ j q. or_right_true (j == k) _ q) a.0,
      sub _ _ e.0 (since e.0 past) (λ j q. not_or (j == k) _ q) a.1,
      a.2,
    )

other_abandon : (opening : Settings) (past : List Act) (k : ℕ) → ended past k ≡ false → (e : ScriptEntry) → began past e.0 k ≡ false → Stands opening past e → Stands opening (Abandon k ∷ past) e
other_abandon opening past k o e f h = (h.0, by e.1.state h.1)
  where
    by : (st : ScriptState) → At opening past e.0 e.1.text st → At opening (Abandon k ∷ past) e.0 e.1.text st
    by Pending a = (a.0, sub _ _ e.0 (since e.0 past) (λ j q. not_or (j == k) _ q) a.1)
    by (Running i) a =
        let far : i ≡ k → ⊥ = λ w. let bad : began past e.0 k ≡ true = rw (← w) a.1 in cc in (
          a.0,
          a.1,
          or_both (i == k) _ (apart i k far) a.2,
          sub _ _ e.0 (since e.0 past) (λ j q. not_or_and (j == k) _ _ q) a.3,
          find_filter (λ (x : Task). i == x.number) (λ (x : Task). not (k == x.number)) (jobs opening past) (other_kept i k far) ∙ a.4,
        )
    by (Answered v) a = (a.0, sub _ _ e.0 (since e.0 past) (λ j q. not_or (j == k) _ q) a.1, a.2)

-- a script on which an open job began since its last change runs it, and nothing else
pub record Runs (opening : Settings) (past : List Act) (k : ℕ) (n : List ℕ) (t : List (List ℕ)) (st : ScriptState) : Type 0 where
  pub state : st ≡ Running k
  pub task : job opening past k ≡ Some (task_of opening past n t k)
  pub calm : NoStart (finished past) n (since n past)
  pub alone : NoStart (λ i. not (ended past i) && not (i == k)) n (since n past)

pub hit : (opening : Settings) (past : List Act) (k : ℕ) → ended past k ≡ false → (n : List ℕ) (t : List (List ℕ)) (st : ScriptState) → began past n k ≡ true → At opening past n t st → Runs opening past k n t st
hit opening past k o n t Pending f a = let bad = no_open past k n (since n past) o a.1 in absurd cc
hit opening past k o n t (Answered v) f a = let bad = no_open past k n (since n past) o a.1 in absurd cc
hit opening past k o n t (Running i) f a = go (k == i) refl
  where
    go : (b : Bool) → (k == i) ≡ b → Runs opening past k n t (Running i)
    go true q =
        let same : i ≡ k = sym ((Decides-eqb k i).0 q) in record {
          state = ap Running same;
          task = subst (λ (x : ℕ). job opening past x ≡ Some (task_of opening past n t x)) same a.4;
          calm = a.0;
          alone = subst (λ (x : ℕ). NoStart (λ j. not (ended past j) && not (j == x)) n (since n past)) same a.3;
        }
    go false q = let bad = no_other past k i n (since n past) o (differs k i q) a.3 in absurd cc

-- the script of this name changed, or isn't the job's
not_mine : (opening : Settings) (past : List Act) (k : ℕ) (h : Task) → Legal opening past → job opening past k ≡ Some h → began past h.name h.number ≡ true
    → (n : List ℕ) → began past n k ≡ false → bytes_eq h.name n ≡ true → ⊥
not_mine opening past k h l j f n q w =
    let same : h.name ≡ n = (bytes_eq-Decides h.name n).0 w in
    let num : h.number ≡ k = (job_number opening past k h l j).0 in
    let yes : began past n k ≡ true = subst (λ (m : List ℕ). began past m k ≡ true) same (subst (λ (i : ℕ). began past h.name i ≡ true) num f) in cc

pub taken_each : (opening : Settings) (past : List Act) (k : ℕ) (h : Task) → Legal opening past → job opening past k ≡ Some h → began past h.name h.number ≡ true
    → (e : ScriptEntry) → Stands opening past e → Stands opening (Finish k Taken ∷ past) (cond (bytes_eq h.name e.0) (e.0, in_state e.1 (Answered (verdict_of h.text h.settings))) e)
taken_each opening past k h l j f e s = go (began past e.0 k) refl
  where
    open_k : ended past k ≡ false
    open_k = open_job opening past k h l j

    go : (b : Bool) → began past e.0 k ≡ b → Stands opening (Finish k Taken ∷ past) (cond (bytes_eq h.name e.0) (e.0, in_state e.1 (Answered (verdict_of h.text h.settings))) e)
    go true q =
        let x = hit opening past k open_k e.0 e.1.text e.1.state q s.1 in
        let is : h ≡ task_of opening past e.0 e.1.text k = cc (j, x.task) in
        let me : bytes_eq h.name e.0 ≡ true = rw is (bytes_refl e.0) in
        rw me (
          s.0,
          (
            up (λ i. i == k) _ e.0 (since e.0 past) (λ i w. or_left_true (i == k) _ w) q,
            sub _ _ e.0 (since e.0 past) (λ i w. not_and_or (i == k) _ w) x.alone,
            ap (λ (y : Task). verdict_of y.text y.settings) is,
          ),
        )
    go false q = rest (bytes_eq h.name e.0) refl
      where
        rest : (b : Bool) → bytes_eq h.name e.0 ≡ b → Stands opening (Finish k Taken ∷ past) (cond b (e.0, in_state e.1 (Answered (verdict_of h.text h.settings))) e)
        rest true w = absurd (not_mine opening past k h l j f e.0 q w)
        rest false w = other_finish opening past k Taken open_k e q s

pub abandoned_each : (opening : Settings) (past : List Act) (k : ℕ) (h : Task) → Legal opening past → job opening past k ≡ Some h → began past h.name h.number ≡ true
    → (e : ScriptEntry) → Stands opening past e → Stands opening (Abandon k ∷ past) (cond (bytes_eq h.name e.0) (e.0, in_state e.1 Pending) e)
abandoned_each opening past k h l j f e s = go (began past e.0 k) refl
  where
    open_k : ended past k ≡ false
    open_k = open_job opening past k h l j

    go : (b : Bool) → began past e.0 k ≡ b → Stands opening (Abandon k ∷ past) (cond (bytes_eq h.name e.0) (e.0, in_state e.1 Pending) e)
    go true q =
        let x = hit opening past k open_k e.0 e.1.text e.1.state q s.1 in
        let is : h ≡ task_of opening past e.0 e.1.text k = cc (j, x.task) in
        let me : bytes_eq h.name e.0 ≡ true = rw is (bytes_refl e.0) in
        rw me (s.0, (x.calm, sub _ _ e.0 (since e.0 past) (λ i w. not_and_or (i == k) _ w) x.alone))
    go false q = rest (bytes_eq h.name e.0) refl
      where
        rest : (b : Bool) → bytes_eq h.name e.0 ≡ b → Stands opening (Abandon k ∷ past) (cond b (e.0, in_state e.1 Pending) e)
        rest true w = absurd (not_mine opening past k h l j f e.0 q w)
        rest false w = other_abandon opening past k open_k e q s

pub and_both : (a b : Bool) → a ≡ true → b ≡ true → (a && b) ≡ true
and_both true b h k = k
and_both false b h k = absurd cc

-- the job of a script that changed began on no script since its last change
not_begun : (opening : Settings) (past : List Act) (k : ℕ) (h : Task) → Legal opening past → job opening past k ≡ Some h → is_unchanged_since_start past h ≡ false
    → (e : ScriptEntry) → Stands opening past e → (b : Bool) → began past e.0 k ≡ b → b ≡ false
not_begun opening past k h l j f e s true q =
    let x = hit opening past k (open_job opening past k h l j) e.0 e.1.text e.1.state q s.1 in
    let is : h ≡ task_of opening past e.0 e.1.text k = cc (j, x.task) in
    let yes : is_unchanged_since_start past h ≡ true = subst (λ (y : Task). is_unchanged_since_start past y ≡ true) (sym is) (and_both (has_script past e.0) (began past e.0 k) (ap is_some s.0) q) in absurd cc
not_begun opening past k h l j f e s false q = refl

pub stale_each : (opening : Settings) (past : List Act) (k : ℕ) (h : Task) → Legal opening past → job opening past k ≡ Some h → is_unchanged_since_start past h ≡ false
    → (e : ScriptEntry) → Stands opening past e → Stands opening (Finish k Stale ∷ past) e
stale_each opening past k h l j f e s = other_finish opening past k Stale (open_job opening past k h l j) e (not_begun opening past k h l j f e s (began past e.0 k) refl) s

pub left_each : (opening : Settings) (past : List Act) (k : ℕ) (h : Task) → Legal opening past → job opening past k ≡ Some h → is_unchanged_since_start past h ≡ false
    → (e : ScriptEntry) → Stands opening past e → Stands opening (Abandon k ∷ past) e
left_each opening past k h l j f e s = other_abandon opening past k (open_job opening past k h l j) e (not_begun opening past k h l j f e s (began past e.0 k) refl) s
