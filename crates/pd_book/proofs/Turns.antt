-- A start and its finish leave one row fewer pending.
use Rattle.std.proofs.Common.{◌≡◌, ℕ, ◌==◌, ◌+◌, ◌<◌, List, [], ◌∷◌, ◌++◌, map, filter, find, Option, Some, None, is_some, is_none, Bool, true, false, not, ◌&&◌, ◌||◌, cond, refl, ap, sym, ◌∙◌, arith}
use Rattle.std.specs.Option.{option_map}
use Rattle.std.specs.List.{AllByRecursion, list_any}
use Rattle.std.specs.Map.{lookup, values_of}
use Rattle.std.specs.Str.{bytes_eq}
use Rattle.std.proofs.lemmas.List.Folds.{list_any-append}
use Rattle.std.proofs.lemmas.Slice.Eq.{bytes_eq-Decides}
use Rattle.std.proofs.lemmas.Bool.Decides.{Decides-eqb}
use Rattle.pd_text.specs.Edit.{edited}
use Rattle.pd_text.specs.declared.line_edit.LineEdit.{LineEdit}
use Rattle.pd_settings.specs.declared.settings.Settings.{Settings}
use Rattle.pd_run.specs.Run.{verdict_of}
use Rattle.pd_book.specs.declared.act.Act.{Act}
use Rattle.pd_book.specs.declared.act.Act.TheVariants.{Add, Edit, Remove, Set, Start, Finish, Abandon}
use Rattle.pd_book.specs.declared.act.Ruling.{Ruling}
use Rattle.pd_book.specs.declared.stored_script.ScriptState.{ScriptState}
use Rattle.pd_book.specs.declared.stored_script.ScriptState.TheVariants.{Pending, Running, Answered}
use Rattle.pd_track.specs.declared.task.Task.{Task}
use Rattle.pd_book.specs.Acts.{NamedText, edited_at, texts, has_script, now, since, starts, finished, started, answered, busy, waits, next, jobs, job, ruling}
use Rattle.pd_book.specs.Report.{row, shown, owed}
use Rattle.pd_book.specs.Legal.{Legal}
use Rattle.pd_book.specs.StoredScripts.{ScriptEntry, is_pending, pending_state, verdict_in}
use Rattle.pd_book.specs.Replay.{scripts_of}
use Rattle.pd_book.specs.Turns.{turned, TurnsSettle, NoneOwedWhenNoneWaits}
use Rattle.pd_book.proofs.Searches.{find_is, none_from_test, or_false, apart}
use Rattle.pd_book.proofs.Faithful.{named_text, bytes_refl, bytes_flip}
use Rattle.pd_book.proofs.Stretches.{NoStart, up, both, or_left}
use Rattle.pd_book.proofs.Standing.{Stands, At, reached}
use Rattle.pd_book.proofs.Replayed.{standing, next_kept, found_stands, both_left}
use Rattle.pd_book.proofs.Rows.{tally, tallied, pending_row, pending_script, owed_kept}
use Rattle.pd_book.proofs.Splits.{parted}

-- ---- names of scripts differ

-- no script has the name of one before it
abbrev Distinct : List NamedText → Type 0
Distinct [] = Unit {0}
Distinct (x ∷ xs) = (lookup (bytes_eq x.0) xs ≡ None) × Distinct xs

absent_push : (n m : List ℕ) (t : List (List ℕ)) (xs : List NamedText) → lookup (bytes_eq n) xs ≡ None → bytes_eq n m ≡ false → lookup (bytes_eq n) (xs ++ (m, t) ∷ []) ≡ None
absent_push n m t [] h e = rw e refl
absent_push n m t (x ∷ xs) h e = go (bytes_eq n x.0) h (absent_push n m t xs)
  where
    go : (b : Bool) → cond b (Some x.1) (lookup (bytes_eq n) xs) ≡ None → (lookup (bytes_eq n) xs ≡ None → bytes_eq n m ≡ false → lookup (bytes_eq n) (xs ++ (m, t) ∷ []) ≡ None)
        → cond b (Some x.1) (lookup (bytes_eq n) (xs ++ (m, t) ∷ [])) ≡ None
    go true k f = absurd cc
    go false k f = f k e

distinct_push : (m : List ℕ) (t : List (List ℕ)) (xs : List NamedText) → Distinct xs → lookup (bytes_eq m) xs ≡ None → Distinct (xs ++ (m, t) ∷ [])
distinct_push m t [] d h = (refl, tt)
distinct_push m t (x ∷ xs) d h = go (bytes_eq m x.0) refl h (distinct_push m t xs d.1)
  where
    go : (b : Bool) → bytes_eq m x.0 ≡ b → cond b (Some x.1) (lookup (bytes_eq m) xs) ≡ None → (lookup (bytes_eq m) xs ≡ None → Distinct (xs ++ (m, t) ∷ [])) → Distinct (x ∷ (xs ++ (m, t) ∷ []))
    go true e k f = absurd cc
    go false e k f = (absent_push x.0 m t xs d.0 (bytes_flip m x.0 e), f k)

absent_edited : (n m : List ℕ) (d : LineEdit) (xs : List NamedText) → lookup (bytes_eq n) xs ≡ None → lookup (bytes_eq n) (map (edited_at m d) xs) ≡ None
absent_edited n m d [] h = refl
absent_edited n m d (x ∷ xs) h = go (bytes_eq n x.0) refl (bytes_eq m x.0) h (absent_edited n m d xs)
  where
    go : (b : Bool) → bytes_eq n x.0 ≡ b → (c : Bool) → cond b (Some x.1) (lookup (bytes_eq n) xs) ≡ None → (lookup (bytes_eq n) xs ≡ None → lookup (bytes_eq n) (map (edited_at m d) xs) ≡ None)
        → lookup (bytes_eq n) (cond c (x.0, edited x.1 d) x ∷ map (edited_at m d) xs) ≡ None
    go true e c k f = absurd cc
    go false e true k f = rw e (f k)
    go false e false k f = rw e (f k)

distinct_edited : (m : List ℕ) (d : LineEdit) (xs : List NamedText) → Distinct xs → Distinct (map (edited_at m d) xs)
distinct_edited m d [] h = tt
distinct_edited m d (x ∷ xs) h = go (bytes_eq m x.0) (distinct_edited m d xs h.1)
  where
    go : (c : Bool) → Distinct (map (edited_at m d) xs) → Distinct (cond c (x.0, edited x.1 d) x ∷ map (edited_at m d) xs)
    go true f = (absent_edited x.0 m d xs h.0, f)
    go false f = (absent_edited x.0 m d xs h.0, f)

absent_removed : (n m : List ℕ) (xs : List NamedText) → lookup (bytes_eq n) xs ≡ None → lookup (bytes_eq n) (filter (λ (p : NamedText). not (bytes_eq m p.0)) xs) ≡ None
absent_removed n m [] h = refl
absent_removed n m (x ∷ xs) h = go (bytes_eq n x.0) refl (bytes_eq m x.0) h (absent_removed n m xs)
  where
    go : (b : Bool) → bytes_eq n x.0 ≡ b → (c : Bool) → cond b (Some x.1) (lookup (bytes_eq n) xs) ≡ None → (lookup (bytes_eq n) xs ≡ None → lookup (bytes_eq n) (filter (λ (p : NamedText). not (bytes_eq m p.0)) xs) ≡ None)
        → lookup (bytes_eq n) (cond (not c) (x ∷ filter (λ (p : NamedText). not (bytes_eq m p.0)) xs) (filter (λ (p : NamedText). not (bytes_eq m p.0)) xs)) ≡ None
    go true e c k f = absurd cc
    go false e true k f = f k
    go false e false k f = rw e (f k)

distinct_removed : (m : List ℕ) (xs : List NamedText) → Distinct xs → Distinct (filter (λ (p : NamedText). not (bytes_eq m p.0)) xs)
distinct_removed m [] h = tt
distinct_removed m (x ∷ xs) h = go (bytes_eq m x.0) (distinct_removed m xs h.1)
  where
    go : (c : Bool) → Distinct (filter (λ (p : NamedText). not (bytes_eq m p.0)) xs)
        → Distinct (cond (not c) (x ∷ filter (λ (p : NamedText). not (bytes_eq m p.0)) xs) (filter (λ (p : NamedText). not (bytes_eq m p.0)) xs))
    go true f = f
    go false f = (absent_removed x.0 m xs h.0, f)

pub distinct : (opening : Settings) (past : List Act) → Legal opening past → Distinct (texts past)
distinct opening [] l = tt
distinct opening (Add n t ∷ past) l = distinct_push n t (texts past) (distinct opening past l.1) (none_from_test _ l.0.1)
distinct opening (Edit n d ∷ past) l = distinct_edited n d (texts past) (distinct opening past l.1)
distinct opening (Remove n ∷ past) l = distinct_removed n (texts past) (distinct opening past l.1)
distinct opening (Set k v ∷ past) l = distinct opening past l.1
distinct opening (Start j n ∷ past) l = distinct opening past l.1
distinct opening (Finish j r ∷ past) l = distinct opening past l.1
distinct opening (Abandon j ∷ past) l = distinct opening past l.1

-- ---- one more is answered

-- a number above those of the starts isn't among them
unused : (opening : Settings) (past : List Act) (j : ℕ) (m : List ℕ) → Legal opening past → started past < j → NoStart (λ (i : ℕ). i == j) m past
unused opening [] j m l h = refl
unused opening (Start i n ∷ past) j m l h = go (bytes_eq m n) (unused opening past j m l.1 (omega (arith, h)))
  where
    go : (b : Bool) → NoStart (λ (k : ℕ). k == j) m past → ((b && (i == j)) || list_any (starts (λ (k : ℕ). k == j) m) past) ≡ false
    go true f = or_false (i == j) _ (apart i j (λ e. absurd (omega (arith, h, e, l.0.0)))) f
    go false f = f
unused opening (Add n t ∷ past) j m l h = unused opening past j m l.1 h
unused opening (Edit n d ∷ past) j m l h = unused opening past j m l.1 h
unused opening (Remove n ∷ past) j m l h = unused opening past j m l.1 h
unused opening (Set k v ∷ past) j m l h = unused opening past j m l.1 h
unused opening (Finish i r ∷ past) j m l h = unused opening past j m l.1 h
unused opening (Abandon i ∷ past) j m l h = unused opening past j m l.1 h

unused_since : (opening : Settings) (past : List Act) (j : ℕ) (m : List ℕ) → Legal opening past → started past < j → NoStart (λ (i : ℕ). i == j) m (since m past)
unused_since opening past j m l h =
    let p = parted m past in
    or_left (list_any (starts (λ (i : ℕ). i == j) m) (since m past)) (list_any (starts (λ (i : ℕ). i == j) m) p.rest)
    (sym (list_any-append (starts (λ (i : ℕ). i == j) m) (since m past) p.rest) ∙ (ap (λ (xs : List Act). list_any (starts (λ (i : ℕ). i == j) m) xs) (sym p.split) ∙ unused opening past j m l h))

or_no : (a b : Bool) → a ≡ true → (b || a) ≡ true
or_no true true h = refl
or_no true false h = refl
or_no false b h = absurd cc

-- a start and its finish on another script leave what is answered
others_same : (opening : Settings) (past : List Act) (j : ℕ) (r : Ruling) (n m : List ℕ) → Legal opening past → started past < j → bytes_eq m n ≡ false
    → answered (Finish j r ∷ Start j n ∷ past) m ≡ answered past m
others_same opening past j r n m l h e = rw e (ap (λ (b : Bool). has_script past m && b) (go (reached past m) refl))
  where
    go : (b : Bool) → reached past m ≡ b → list_any (starts (finished (Finish j r ∷ Start j n ∷ past)) m) (since m past) ≡ reached past m
    go true q = up (finished past) (finished (Finish j r ∷ Start j n ∷ past)) m (since m past) (λ i w. or_no (finished past i) (i == j) w) q ∙ sym q
    go false q = both (λ (i : ℕ). i == j) (finished past) m (since m past) (unused_since opening past j m l h) q ∙ sym q

now_answered : (past : List Act) (j : ℕ) (r : Ruling) (n : List ℕ) → has_script past n ≡ true → answered (Finish j r ∷ Start j n ∷ past) n ≡ true
now_answered past j r n h = rw (h, bytes_refl n, (Decides-eqb j j).1 refl) refl

-- ---- counts

-- two tests that differ at one name alone, which passes the second
counted_less : (p q : NamedText → Bool) (n : List ℕ) (xs : List NamedText) → Distinct xs
    → ((x : NamedText) → bytes_eq n x.0 ≡ false → p x ≡ q x) → ((x : NamedText) → bytes_eq n x.0 ≡ true → (p x ≡ false) × (q x ≡ true))
    → (is_some (lookup (bytes_eq n) xs) ≡ true → tally p xs + 1 ≡ tally q xs) × (lookup (bytes_eq n) xs ≡ None → tally p xs ≡ tally q xs)
unfolding tally
counted_less p q n [] d same one = (λ h. absurd cc, λ h. refl)
counted_less p q n (x ∷ xs) d same one = go (bytes_eq n x.0) refl (counted_less p q n xs d.1 same one)
  where
    go : (b : Bool) → bytes_eq n x.0 ≡ b
        → (is_some (lookup (bytes_eq n) xs) ≡ true → tally p xs + 1 ≡ tally q xs) × (lookup (bytes_eq n) xs ≡ None → tally p xs ≡ tally q xs)
        → (is_some (cond b (Some x.1) (lookup (bytes_eq n) xs)) ≡ true → cond (p x) (1 + tally p xs) (tally p xs) + 1 ≡ cond (q x) (1 + tally q xs) (tally q xs))
        × (cond b (Some x.1) (lookup (bytes_eq n) xs) ≡ None → cond (p x) (1 + tally p xs) (tally p xs) ≡ cond (q x) (1 + tally q xs) (tally q xs))
    go true e f =
        let is : n ≡ x.0 = (bytes_eq-Decides n x.0).0 e in
        let gone : lookup (bytes_eq n) xs ≡ None = ap (λ (m : List ℕ). lookup (bytes_eq m) xs) is ∙ d.0 in
        let eq : tally p xs ≡ tally q xs = f.1 gone in
        (λ h. rw ((one x e).0, (one x e).1) (omega (arith, eq)), λ h. absurd cc)
    go false e f = (λ h. rw (same x e) (more (q x) (f.0 h)), λ h. rw (same x e) (ap (λ (k : ℕ). cond (q x) (1 + k) k) (f.1 h)))
      where
        more : (c : Bool) → tally p xs + 1 ≡ tally q xs → cond c (1 + tally p xs) (tally p xs) + 1 ≡ cond c (1 + tally q xs) (tally q xs)
        more true k = omega (arith, k)
        more false k = k

abbrev unanswered : List Act → NamedText → Bool
unanswered past p = not (answered past p.0)

verdict_none : {A : Type 0} (b : Bool) (x : A) → is_none (cond b (Some x) None) ≡ not b
verdict_none true x = refl
verdict_none false x = refl

owed_tally : (opening : Settings) (past : List Act) → owed opening past ≡ tally (unanswered past) (texts past)
unfolding tally
owed_tally opening past = tallied pending_row (shown opening past).rows ∙ each (texts past)
  where
    each : (xs : List NamedText) → tally pending_row (map (row opening past) xs) ≡ tally (unanswered past) xs
    each [] = refl
    each (x ∷ xs) =
        ap (λ (b : Bool). cond b (1 + tally pending_row (map (row opening past) xs)) (tally pending_row (map (row opening past) xs))) (verdict_none (answered past x.0) (verdict_of x.1 (now opening past)))
        ∙ ap (λ (k : ℕ). cond (unanswered past x) (1 + k) k) (each xs)

abbrev task_at : ℕ → List ℕ → List (List ℕ) → Settings → Task
task_at j n t s = record { number = j; name = n; text = t; settings = s }

pub turns_settle : (opening : Settings) (past : List Act) → Legal opening past → TurnsSettle opening past
turns_settle opening past l task empty h = (fewer, alone)
  where
    acts : List Act
    acts = turned past task

    r : Ruling
    r = ruling (Start task.number task.name ∷ past) task

    found : (o : Option NamedText) → next past ≡ o
        → option_map (λ (p : NamedText). task_at (started past + 1) p.0 p.1 (now opening past)) o ≡ Some task
        → (has_script past task.name ≡ true) × (answered past task.name ≡ false) × (started past < task.number)
    found None q w = absurd cc
    found (Some p) q w =
        let is : task_at (started past + 1) p.0 p.1 (now opening past) ≡ task = cc in
        let name : p.0 ≡ task.name = ap (λ (t : Task). t.name) is in
        let number : started past + 1 ≡ task.number = ap (λ (t : Task). t.number) is in
        let here = found_stands (waits past) (texts past) p.0 p.1 q in
        let waiting = find_is (waits past) (texts past) p q in
        let calm = both_left (answered past p.0) (busy past p.0) waiting in
        (ap (has_script past) (sym name) ∙ here, ap (answered past) (sym name) ∙ calm, omega (arith, number))

    facts : (has_script past task.name ≡ true) × (answered past task.name ≡ false) × (started past < task.number)
    facts = found (next past) refl h

    same : (x : NamedText) → bytes_eq task.name x.0 ≡ false → unanswered acts x ≡ unanswered past x
    same x e = ap not (others_same opening past task.number r task.name x.0 l facts.2 (bytes_flip task.name x.0 e))

    one : (x : NamedText) → bytes_eq task.name x.0 ≡ true → (unanswered acts x ≡ false) × (unanswered past x ≡ true)
    one x e =
        let is : task.name ≡ x.0 = (bytes_eq-Decides task.name x.0).0 e in
        (ap not (ap (answered acts) (sym is) ∙ now_answered past task.number r task.name facts.0), ap not (ap (answered past) (sym is) ∙ facts.1))

    fewer : owed opening acts + 1 ≡ owed opening past
    fewer =
        ap (λ (k : ℕ). k + 1) (owed_tally opening acts)
        ∙ ((counted_less (unanswered acts) (unanswered past) task.name (texts past) (distinct opening past l) same one).0 facts.0 ∙ sym (owed_tally opening past))

    alone : jobs opening acts ≡ []
    alone = rw (empty, (Decides-eqb task.number task.number).1 refl) refl

pub none_map : {A B : Type 0} (f : A → B) (o : Option A) → option_map f o ≡ None → o ≡ None
none_map f None h = refl
none_map f (Some x) h = absurd cc

all_answered : (opening : Settings) (past : List Act) → jobs opening past ≡ [] → (es : List ScriptEntry) → AllByRecursion (Stands opening past) es → find is_pending es ≡ None → tally pending_script (values_of es) ≡ 0
unfolding tally
all_answered opening past empty [] a h = refl
all_answered opening past empty (e ∷ es) a h = by e.1.state a.0.1 h (all_answered opening past empty es a.1)
  where
    by : (st : ScriptState) → At opening past e.0 e.1.text st → cond (pending_state st) (Some e) (find is_pending es) ≡ None → (find is_pending es ≡ None → tally pending_script (values_of es) ≡ 0)
        → cond (is_none (verdict_in st)) (1 + tally pending_script (values_of es)) (tally pending_script (values_of es)) ≡ 0
    by Pending at k f = absurd cc
    by (Running j) at k f = absurd (let none : job opening past j ≡ None = ap (λ (ts : List Task). find (λ (t : Task). j == t.number) ts) empty in let some = at.4 in cc)
    by (Answered v) at k f = f k

pub none_owed : (opening : Settings) (past : List Act) → Legal opening past → NoneOwedWhenNoneWaits opening past
none_owed opening past l empty h =
    let none : find is_pending (scripts_of opening past) ≡ None = none_map named_text _ (sym (next_kept opening past l) ∙ h) in
    owed_kept opening past l ∙ (tallied pending_script (values_of (scripts_of opening past)) ∙ all_answered opening past empty (scripts_of opening past) (standing opening past l) none)
