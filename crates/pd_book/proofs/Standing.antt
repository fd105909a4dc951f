-- Each script that a book keeps, by the acts; acts on other scripts leave it.
use Rattle.std.proofs.Common.{◌≡◌, ℕ, ◌+◌, ◌==◌, List, [], ◌∷◌, map, Option, Some, None, Bool, true, false, not, ◌&&◌, cond, unwrap_or, refl, ap, sym, ◌∙◌, arith}
use Rattle.std.specs.List.{list_any}
use Rattle.std.specs.Option.{option_map}
use Rattle.std.specs.Map.{lookup}
use Rattle.std.specs.Str.{bytes_eq}
use Rattle.std.proofs.lemmas.Slice.Eq.{bytes_eq-Decides}
use Rattle.std.proofs.lemmas.Bool.Decides.{Decides-eqb}
use Rattle.pd_text.specs.Edit.{edited}
use Rattle.pd_text.specs.declared.line_edit.LineEdit.{LineEdit}
use Rattle.pd_settings.specs.declared.settings.Settings.{Settings}
use Rattle.pd_settings.specs.declared.keys.Key.{Key}
use Rattle.pd_settings.specs.declared.values.Value.{Value}
use Rattle.pd_run.specs.Run.{verdict_of}
use Rattle.pd_book.specs.declared.act.Act.{Act}
use Rattle.pd_book.specs.declared.act.Act.TheVariants.{Add, Edit, Remove, Set, Start}
use Rattle.pd_book.specs.declared.stored_script.ScriptState.{ScriptState}
use Rattle.pd_book.specs.declared.stored_script.ScriptState.TheVariants.{Pending, Running, Answered}
use Rattle.pd_track.specs.declared.task.Task.{Task}
use Rattle.pd_book.specs.Acts.{edited_at, texts, has_script, text_of, now, since, starts, finished, ended, busy, job, jobs, started}
use Rattle.pd_book.specs.Legal.{Legal}
use Rattle.pd_book.specs.StoredScripts.{ScriptEntry, in_state}
use Rattle.pd_book.proofs.Searches.{find_push, find_none, all_imp, lookup_push, lookup_last, none_from_test, not_not, apart}
use Rattle.pd_book.proofs.Faithful.{bytes_refl, bytes_flip, lookup-edited, lookup-edited_other, lookup-removed_other}
use Rattle.pd_book.proofs.Stretches.{NoStart, sub, up, or_both}
use Rattle.pd_book.proofs.Numbers.{jobs_small, ended_small, finished_ended}

-- some job started on the script since its last change is finished
abbrev pub reached : List Act → List ℕ → Bool
reached past n = list_any (starts (finished past) n) (since n past)

-- this job was started on the script since its last change
abbrev pub began : List Act → List ℕ → ℕ → Bool
began past n j = list_any (starts (λ i. i == j) n) (since n past)

abbrev pub task_of : Settings → List Act → List ℕ → List (List ℕ) → ℕ → Task
task_of opening past n t j = record { number = j; name = n; text = t; settings = now opening past }

-- the acts say of a script what its state says: pending, nothing was finished and nothing runs since its last change;
-- running a job, that job alone runs, and it has the script's text; answered, the verdict is its text's
abbrev pub At : Settings → List Act → List ℕ → List (List ℕ) → ScriptState → Type 0
At opening past n t Pending = NoStart (finished past) n (since n past) × NoStart (λ j. not (ended past j)) n (since n past)
At opening past n t (Running j) = NoStart (finished past) n (since n past) × (began past n j ≡ true) × (ended past j ≡ false) × NoStart (λ i. not (ended past i) && not (i == j)) n (since n past) × (job opening past j ≡ Some (task_of opening past n t j))
At opening past n t (Answered v) = (reached past n ≡ true) × NoStart (λ j. not (ended past j)) n (since n past) × (v ≡ verdict_of t (now opening past))

-- a script that is kept stands with its text, in its state
abbrev pub Stands : Settings → List Act → ScriptEntry → Type 0
Stands opening past e = (lookup (bytes_eq e.0) (texts past) ≡ Some e.1.text) × At opening past e.0 e.1.text e.1.state

pub and_no : (b c : Bool) → c ≡ false → (b && c) ≡ false
and_no true c h = h
and_no false c h = refl

and_first : (b c : Bool) → b ≡ false → (b && c) ≡ false
and_first true c h = absurd cc
and_first false c h = refl

-- an act that is no change and no start of the script, and ends nothing
keep : (opening : Settings) (past past' : List Act) (a : Act) (n : List ℕ) (t : List (List ℕ)) (st : ScriptState)
    → since n past' ≡ a ∷ since n past → ((p : ℕ → Bool) → starts p n a ≡ false)
    → ((j : ℕ) → finished past' j ≡ finished past j) → ((j : ℕ) → ended past' j ≡ ended past j) → now opening past' ≡ now opening past
    → ((j : ℕ) (h : Task) → job opening past j ≡ Some h → job opening past' j ≡ Some h)
    → At opening past n t st → At opening past' n t st
keep opening past past' a n t Pending s quiet f e w jb h =
    rw s (or_both _ _ (quiet _) (sub _ _ n (since n past) (λ j q. f j ∙ q) h.0), or_both _ _ (quiet _) (sub _ _ n (since n past) (λ j q. ap not (e j) ∙ q) h.1))
keep opening past past' a n t (Running k) s quiet f e w jb h =
    rw s (
      or_both _ _ (quiet _) (sub _ _ n (since n past) (λ j q. f j ∙ q) h.0),
      rw (quiet (λ j. j == k)) h.1,
      e k ∙ h.2,
      or_both _ _ (quiet _) (sub _ _ n (since n past) (λ j q. ap (λ b. not b && not (j == k)) (e j) ∙ q) h.3),
      rw w (jb k _ h.4),
    )
keep opening past past' a n t (Answered v) s quiet f e w jb h =
    rw s (
      rw (quiet (finished past')) (up (finished past) (finished past') n (since n past) (λ j q. f j ∙ q) h.0),
      or_both _ _ (quiet _) (sub _ _ n (since n past) (λ j q. ap not (e j) ∙ q) h.1),
      h.2 ∙ ap (λ (x : Settings). verdict_of t x) (sym w),
    )

pub add_old : (opening : Settings) (past : List Act) (m : List ℕ) (t : List (List ℕ)) → has_script past m ≡ false → (e : ScriptEntry) → Stands opening past e → Stands opening (Add m t ∷ past) e
add_old opening past m t absent e h = go (bytes_eq e.0 m) refl
  where
    go : (b : Bool) → bytes_eq e.0 m ≡ b → Stands opening (Add m t ∷ past) e
    go true q =
        let same : e.0 ≡ m = (bytes_eq-Decides e.0 m).0 q in
        let found : lookup (bytes_eq m) (texts past) ≡ Some e.1.text = rw (← same) h.0 in
        let none : lookup (bytes_eq m) (texts past) ≡ None = none_from_test _ absent in absurd cc
    go false q = (
      lookup_push (bytes_eq e.0) (texts past) _ _ h.0,
      keep opening past (Add m t ∷ past) (Add m t) e.0 e.1.text e.1.state (rw q refl) (λ p. refl) (λ j. refl) (λ j. refl) refl (λ j x y. y) h.1,
    )

pub add_new : (opening : Settings) (past : List Act) (m : List ℕ) (t : List (List ℕ)) → has_script past m ≡ false → Stands opening (Add m t ∷ past) (m, record { text = t; state = Pending })
add_new opening past m t absent = (
  lookup_last (bytes_eq m) (texts past) _ (none_from_test _ absent) ∙ rw (bytes_refl m) refl,
  rw (bytes_refl m) (refl, refl),
)

pub edit_each : (opening : Settings) (past : List Act) (m : List ℕ) (d : LineEdit) (e : ScriptEntry) → Stands opening past e
    → Stands opening (Edit m d ∷ past) (cond (bytes_eq m e.0) (e.0, record { text = edited e.1.text d; state = Pending }) e)
edit_each opening past m d e h = go (bytes_eq m e.0) refl
  where
    go : (b : Bool) → bytes_eq m e.0 ≡ b → Stands opening (Edit m d ∷ past) (cond b (e.0, record { text = edited e.1.text d; state = Pending }) e)
    go true q =
        let same : m ≡ e.0 = (bytes_eq-Decides m e.0).0 q in
        let me : bytes_eq e.0 m ≡ true = (bytes_eq-Decides e.0 m).1 (sym same) in (
          ap (λ (x : List ℕ). lookup (bytes_eq e.0) (map (edited_at x d) (texts past))) same
              ∙ (lookup-edited e.0 d (texts past) ∙ ap (λ (o : Option (List (List ℕ))). option_map (λ (t : List (List ℕ)). edited t d) o) h.0),
          rw me (refl, refl),
        )
    go false q = (
      lookup-edited_other m e.0 d (texts past) q ∙ h.0,
      keep opening past (Edit m d ∷ past) (Edit m d) e.0 e.1.text e.1.state (rw (bytes_flip m e.0 q) refl) (λ p. refl) (λ j. refl) (λ j. refl) refl (λ j x y. y) h.1,
    )

pub remove_each : (opening : Settings) (past : List Act) (m : List ℕ) (e : ScriptEntry) → not (bytes_eq m e.0) ≡ true → Stands opening past e → Stands opening (Remove m ∷ past) e
remove_each opening past m e k h =
    let q : bytes_eq m e.0 ≡ false = not_not (bytes_eq m e.0) k in (
      lookup-removed_other m e.0 (texts past) q ∙ h.0,
      keep opening past (Remove m ∷ past) (Remove m) e.0 e.1.text e.1.state (rw (bytes_flip m e.0 q) refl) (λ p. refl) (λ j. refl) (λ j. refl) refl (λ j x y. y) h.1,
    )

pub set_each : (opening : Settings) (past : List Act) (k : Key) (v : Value) (e : ScriptEntry) → Stands opening past e → Stands opening (Set k v ∷ past) (e.0, in_state e.1 Pending)
set_each opening past k v e h = (h.0, (refl, refl))

pub start_each : (opening : Settings) (past : List Act) (j : ℕ) (m : List ℕ) → Legal opening past → j ≡ started past + 1 → reached past m ≡ false → busy past m ≡ false
    → (e : ScriptEntry) → Stands opening past e → Stands opening (Start j m ∷ past) (cond (bytes_eq m e.0) (e.0, in_state e.1 (Running j)) e)
start_each opening past j m l new calm idle e h = go (bytes_eq m e.0) refl
  where
    not_ended : (b : Bool) → ended past j ≡ b → b ≡ false
    not_ended true q = let s = ended_small opening past j l q in absurd (omega (arith, s, new))
    not_ended false q = refl

    open_j : ended past j ≡ false
    open_j = not_ended (ended past j) refl

    go : (b : Bool) → bytes_eq m e.0 ≡ b → Stands opening (Start j m ∷ past) (cond b (e.0, in_state e.1 (Running j)) e)
    go true q =
        let same : m ≡ e.0 = (bytes_eq-Decides m e.0).0 q in
        let calm' : reached past e.0 ≡ false = rw (← same) calm in
        let idle' : busy past e.0 ≡ false = rw (← same) idle in
        let me : bytes_eq e.0 m ≡ true = (bytes_eq-Decides e.0 m).1 (sym same) in
        let text : text_of past m ≡ e.1.text = ap (λ (n : List ℕ). unwrap_or (lookup (bytes_eq n) (texts past)) []) same ∙ ap (λ (o : Option (List (List ℕ))). unwrap_or o []) h.0 in
        let jj : (j == j) ≡ true = (Decides-eqb j j).1 refl in (
          h.0,
          (
            or_both _ _ (and_no (bytes_eq e.0 m) _ (finished_ended past j open_j)) calm',
            rw (me, jj) refl,
            open_j,
            or_both _ _ (and_no (bytes_eq e.0 m) _ (rw jj (and_no (not (ended past j)) false refl))) (sub _ _ e.0 (since e.0 past) (λ i k. and_first (not (ended past i)) _ k) idle'),
            find_none (λ (x : Task). j == x.number) (jobs opening past) _ (all_imp _ _ (jobs opening past) (λ x k. apart j x.number (λ w. absurd (omega (arith, k, w, new)))) (jobs_small opening past l))
                ∙ rw jj (ap (λ (n : List ℕ). Some (task_of opening past n (text_of past m) j)) same ∙ ap (λ (t : List (List ℕ)). Some (task_of opening past e.0 t j)) text),
          ),
        )
    go false q = (
      h.0,
      keep opening past (Start j m ∷ past) (Start j m) e.0 e.1.text e.1.state refl (λ p. rw (bytes_flip m e.0 q) refl) (λ i. refl) (λ i. refl) refl (λ i x y. find_push _ (jobs opening past) _ x y) h.1,
    )
