-- The scripts that a book keeps stand as the acts say.
use Rattle.std.proofs.Common.{◌≡◌, ℕ, ◌==◌, List, [], ◌∷◌, find, Option, Some, None, is_some, Bool, true, false, not, ◌&&◌, cond, unwrap_or, refl, ap, sym, subst, ◌∙◌}
use Rattle.std.specs.Option.{option_map}
use Rattle.std.specs.List.{AllByRecursion}
use Rattle.std.specs.Map.{lookup}
use Rattle.std.specs.Str.{bytes_eq}
use Rattle.std.proofs.lemmas.Slice.Eq.{bytes_eq-Decides}
use Rattle.std.proofs.lemmas.Bool.Decides.{Decides-eqb}
use Rattle.pd_settings.specs.declared.settings.Settings.{Settings}
use Rattle.pd_book.specs.declared.act.Act.{Act}
use Rattle.pd_book.specs.declared.act.Act.TheVariants.{Add, Edit, Remove, Set, Start, Finish, Abandon}
use Rattle.pd_book.specs.declared.act.Ruling.{Ruling}
use Rattle.pd_book.specs.declared.act.Ruling.TheVariants.{Taken, Stale}
use Rattle.pd_book.specs.declared.stored_script.StoredScript.{StoredScript}
use Rattle.pd_book.specs.declared.stored_script.ScriptState.{ScriptState}
use Rattle.pd_book.specs.declared.stored_script.ScriptState.TheVariants.{Pending, Running, Answered}
use Rattle.pd_track.specs.declared.task.Task.{Task}
use Rattle.pd_book.specs.Acts.{NamedText, texts, has_script, text_of, since, answered, busy, ended, is_unchanged_since_start, job, next, waits, ruling}
use Rattle.pd_book.specs.Legal.{Legal}
use Rattle.pd_book.specs.StoredScripts.{ScriptEntry, is_pending, pending_state, is_running_job, with_state}
use Rattle.pd_book.specs.Replay.{scripts_of, settle, make_pending_if_running_task}
use Rattle.pd_book.proofs.Searches.{all_map, all_push, all_imp, all_filter, find_is, find_all, apart}
use Rattle.pd_book.proofs.Faithful.{named_text, texts_of, texts-scripts, has_script-kept}
use Rattle.pd_book.proofs.Stretches.{up}
use Rattle.pd_book.proofs.Numbers.{open_job, job_number}
use Rattle.pd_book.proofs.Standing.{Stands, At, reached, began, add_old, add_new, edit_each, remove_each, set_each, start_each, and_no}
use Rattle.pd_book.proofs.Ends.{hit, taken_each, stale_each, abandoned_each, left_each}

taken_if : (b : Bool) → Taken ≡ cond b Taken Stale → b ≡ true
taken_if true h = refl
taken_if false h = absurd cc

stale_if : (b : Bool) → Stale ≡ cond b Taken Stale → b ≡ false
stale_if true h = absurd cc
stale_if false h = refl

pub both_left : (a b : Bool) → (not a && not b) ≡ true → a ≡ false
both_left true b h = absurd cc
both_left false b h = refl

both_right : (a b : Bool) → (not a && not b) ≡ true → b ≡ false
both_right true b h = absurd cc
both_right false true h = absurd cc
both_right false false h = refl

pub and_left : (a b : Bool) → (a && b) ≡ true → a ≡ true
and_left true b h = refl
and_left false b h = absurd cc

pub and_right : (a b : Bool) → (a && b) ≡ true → b ≡ true
and_right true b h = h
and_right false b h = absurd cc

second_no : (a b : Bool) → a ≡ true → (a && b) ≡ false → b ≡ false
second_no true b h k = k
second_no false b h k = absurd cc

-- a script that is found stands
pub found_stands : (p : NamedText → Bool) (xs : List NamedText) (m : List ℕ) (t : List (List ℕ)) → find p xs ≡ Some (m, t) → is_some (lookup (bytes_eq m) xs) ≡ true
found_stands p [] m t h = absurd cc
found_stands p (x ∷ xs) m t h = go (p x) h (bytes_eq m x.0) refl (found_stands p xs m t)
  where
    go : (b : Bool) → cond b (Some x) (find p xs) ≡ Some (m, t) → (c : Bool) → bytes_eq m x.0 ≡ c → (find p xs ≡ Some (m, t) → is_some (lookup (bytes_eq m) xs) ≡ true) → is_some (cond c (Some x.1) (lookup (bytes_eq m) xs)) ≡ true
    go b h true w f = refl
    go true h false w f =
        let same : x ≡ (m, t) = cc in
        let name : x.0 ≡ m = ap (λ (y : NamedText). y.0) same in
        let yes : bytes_eq m x.0 ≡ true = (bytes_eq-Decides m x.0).1 (sym name) in absurd cc
    go false h false w f = f h

found_name : (n : List ℕ) (es : List ScriptEntry) (s : StoredScript) → lookup (bytes_eq n) es ≡ Some s → (P : ScriptEntry → Type 0) → AllByRecursion P es → P (n, s)
found_name n [] s h P a = absurd cc
found_name n (e ∷ es) s h P a = go (bytes_eq n e.0) refl h (found_name n es s)
  where
    go : (b : Bool) → bytes_eq n e.0 ≡ b → cond b (Some e.1) (lookup (bytes_eq n) es) ≡ Some s → (lookup (bytes_eq n) es ≡ Some s → (Q : ScriptEntry → Type 0) → AllByRecursion Q es → Q (n, s)) → P (n, s)
    go true w k f =
        let name : e.0 ≡ n = sym ((bytes_eq-Decides n e.0).0 w) in
        let script : e.1 ≡ s = cc in
        subst (λ (x : List ℕ). P (x, s)) name (subst (λ (x : StoredScript). P (e.0, x)) script a.0)
    go false w k f = f k P a.1

-- a script runs an outstanding job exactly where it is fresh
runs_at : (opening : Settings) (past : List Act) (h : Task) (t : List (List ℕ)) → ended past h.number ≡ false → (st : ScriptState) → At opening past h.name t st
    → (b : Bool) → began past h.name h.number ≡ b → is_running_job (Some st) h.number ≡ b
runs_at opening past h t o Pending a true w = let x = hit opening past h.number o h.name t Pending w a in let bad = x.state in absurd cc
runs_at opening past h t o Pending a false w = refl
runs_at opening past h t o (Answered v) a true w = let x = hit opening past h.number o h.name t (Answered v) w a in let bad = x.state in absurd cc
runs_at opening past h t o (Answered v) a false w = refl
runs_at opening past h t o (Running k) a true w =
    let x = hit opening past h.number o h.name t (Running k) w a in
    let is = x.state in
    let same : k ≡ h.number = cc in (Decides-eqb k h.number).1 same
runs_at opening past h t o (Running k) a false w =
    apart k h.number (λ e. let yes : began past h.name h.number ≡ true = subst (λ (i : ℕ). began past h.name i ≡ true) e a.1 in cc)

pub runs_fresh : (opening : Settings) (past : List Act) (h : Task) → Legal opening past → AllByRecursion (Stands opening past) (scripts_of opening past) → job opening past h.number ≡ Some h
    → is_running_job (option_map (λ (s : StoredScript). s.state) (lookup (bytes_eq h.name) (scripts_of opening past))) h.number ≡ is_unchanged_since_start past h
runs_fresh opening past h l a j = go (lookup (bytes_eq h.name) (scripts_of opening past)) refl
  where
    go : (r : Option StoredScript) → lookup (bytes_eq h.name) (scripts_of opening past) ≡ r → is_running_job (option_map (λ (s : StoredScript). s.state) r) h.number ≡ is_unchanged_since_start past h
    go (Some s) q =
        let at = found_name h.name (scripts_of opening past) s q (Stands opening past) a in
        rw (ap is_some at.0) (runs_at opening past h s.text (open_job opening past h.number h l j) s.state at.1 (began past h.name h.number) refl)
    go None q =
        let gone : has_script past h.name ≡ false = has_script-kept h.name opening past ∙ ap is_some q in rw gone refl

-- each script stands as the acts say
pub standing : (opening : Settings) (past : List Act) → Legal opening past → AllByRecursion (Stands opening past) (scripts_of opening past)
standing opening [] l = tt
standing opening (Add m t ∷ past) l = all_push _ (scripts_of opening past) _ (all_imp _ _ (scripts_of opening past) (add_old opening past m t l.0.1) (standing opening past l.1)) (add_new opening past m t l.0.1)
standing opening (Edit m d ∷ past) l = all_map _ _ _ (scripts_of opening past) (edit_each opening past m d) (standing opening past l.1)
standing opening (Remove m ∷ past) l = all_filter _ _ _ (scripts_of opening past) (remove_each opening past m) (standing opening past l.1)
standing opening (Set k v ∷ past) l = all_map _ _ _ (scripts_of opening past) (set_each opening past k v) (standing opening past l.1)
standing opening (Start j m ∷ past) l =
    let w = find_is (waits past) (texts past) _ l.0.1 in
    let here = found_stands (waits past) (texts past) m (text_of past m) l.0.1 in
    let calm : reached past m ≡ false = second_no (has_script past m) (reached past m) here (both_left (answered past m) (busy past m) w) in
    all_map _ _ _ (scripts_of opening past) (start_each opening past j m l.1 l.0.0 calm (both_right (answered past m) (busy past m) w)) (standing opening past l.1)
standing opening (Finish k r ∷ past) l = go r (standing opening past l.1) l.0.2
  where
    go : (r' : Ruling) → AllByRecursion (Stands opening past) (scripts_of opening past) → r' ≡ ruling past l.0.0 → AllByRecursion (Stands opening (Finish k r' ∷ past)) (settle r' (job opening past k) (scripts_of opening past))
    go Taken a q =
        rw l.0.1 (all_map _ _ _ (scripts_of opening past) (taken_each opening past k l.0.0 l.1 l.0.1 (and_right (has_script past l.0.0.name) (began past l.0.0.name l.0.0.number) (taken_if _ q))) a)
    go Stale a q = all_imp _ _ (scripts_of opening past) (stale_each opening past k l.0.0 l.1 l.0.1 (stale_if _ q)) a
standing opening (Abandon k ∷ past) l = rw l.0.1 (go (is_unchanged_since_start past l.0.0) refl (standing opening past l.1))
  where
    h : Task
    h = l.0.0

    go : (b : Bool) → is_unchanged_since_start past h ≡ b → AllByRecursion (Stands opening past) (scripts_of opening past) → AllByRecursion (Stands opening (Abandon k ∷ past)) (make_pending_if_running_task (Some h) (scripts_of opening past))
    go b q a = rw is (by b q a)
      where
        num : h.number ≡ k
        num = (job_number opening past k h l.1 l.0.1).0

        mine : job opening past h.number ≡ Some h
        mine = ap (job opening past) num ∙ l.0.1

        is : is_running_job (option_map (λ (s : StoredScript). s.state) (lookup (bytes_eq h.name) (scripts_of opening past))) h.number ≡ b
        is = runs_fresh opening past h l.1 a mine ∙ q

        by : (c : Bool) → is_unchanged_since_start past h ≡ c → AllByRecursion (Stands opening past) (scripts_of opening past)
            → AllByRecursion (Stands opening (Abandon k ∷ past)) (cond c (with_state (bytes_eq h.name) Pending (scripts_of opening past)) (scripts_of opening past))
        by true q a = all_map _ _ _ (scripts_of opening past) (abandoned_each opening past k h l.1 l.0.1 (and_right (has_script past h.name) (began past h.name h.number) q)) a
        by false q a = all_imp _ _ (scripts_of opening past) (left_each opening past k h l.1 l.0.1 q) a

pub ruling_kept : (opening : Settings) (past : List Act) (h : Task) → Legal opening past → job opening past h.number ≡ Some h
    → is_running_job (option_map (λ (s : StoredScript). s.state) (lookup (bytes_eq h.name) (scripts_of opening past))) h.number ≡ is_unchanged_since_start past h
ruling_kept opening past h l j = runs_fresh opening past h l (standing opening past l) j

waits_is : (opening : Settings) (past : List Act) (e : ScriptEntry) → Stands opening past e → waits past (named_text e) ≡ is_pending e
waits_is opening past e s = by e.1.state s.1
  where
    here : has_script past e.0 ≡ true
    here = ap is_some s.0

    by : (st : ScriptState) → At opening past e.0 e.1.text st → (not (has_script past e.0 && reached past e.0) && not (busy past e.0)) ≡ pending_state st
    by Pending a = rw (here, a.0, a.1) refl
    by (Running j) a =
        let working : busy past e.0 ≡ true = up (λ i. i == j) _ e.0 (since e.0 past) (λ i w. ap (λ (x : ℕ). not (ended past x)) ((Decides-eqb i j).0 w) ∙ ap not a.2) a.1 in
        rw working (and_no (not (has_script past e.0 && reached past e.0)) false refl)
    by (Answered v) a = rw (here, a.0) refl

first_is : (opening : Settings) (past : List Act) (es : List ScriptEntry) → AllByRecursion (Stands opening past) es → find (waits past) (texts_of es) ≡ option_map named_text (find is_pending es)
first_is opening past [] a = refl
first_is opening past (e ∷ es) a = rw (waits_is opening past e a.0) (go (is_pending e) (first_is opening past es a.1))
  where
    go : (b : Bool) → find (waits past) (texts_of es) ≡ option_map named_text (find is_pending es) → cond b (Some (e.0, e.1.text)) (find (waits past) (texts_of es)) ≡ option_map named_text (cond b (Some e) (find is_pending es))
    go true h = refl
    go false h = h

-- the first script that waits is the first that is kept as pending
pub next_kept : (opening : Settings) (past : List Act) → Legal opening past → next past ≡ option_map named_text (find is_pending (scripts_of opening past))
next_kept opening past l = ap (find (waits past)) (sym (texts-scripts opening past)) ∙ first_is opening past (scripts_of opening past) (standing opening past l)

-- the text of the first script that waits is the text of its name
pub next_text : (opening : Settings) (past : List Act) (n : List ℕ) (t : List (List ℕ)) → Legal opening past → next past ≡ Some (n, t) → text_of past n ≡ t
next_text opening past n t l h = go (find is_pending (scripts_of opening past)) refl (sym (next_kept opening past l) ∙ h)
  where
    go : (r : Option ScriptEntry) → find is_pending (scripts_of opening past) ≡ r → option_map named_text r ≡ Some (n, t) → text_of past n ≡ t
    go None q w = absurd cc
    go (Some e) q w =
        let s = find_all (Stands opening past) is_pending (scripts_of opening past) e (standing opening past l) q in
        let both : named_text e ≡ (n, t) = cc in
        let name : e.0 ≡ n = ap (λ (x : NamedText). x.0) both in
        let text : e.1.text ≡ t = ap (λ (x : NamedText). x.1) both in
        ap (λ (m : List ℕ). unwrap_or (lookup (bytes_eq m) (texts past)) []) (sym name) ∙ (ap (λ (o : Option (List (List ℕ))). unwrap_or o []) s.0 ∙ text)
