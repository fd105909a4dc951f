-- A book after each call is the replay of its acts.
use Rattle.std.proofs.Common.{◌≡◌, ℕ, suc, ◌==◌, ◌+◌, ◌<◌, ◌≤◌, length, length-append, List, [], ◌∷◌, ◌++◌, find, Option, Some, None, is_some, Bool, true, false, not, cond, unwrap_or, refl, ap, sym, ◌∙◌, arith}
use Rattle.std.specs.Option.{option_map, option_map_or}
use Rattle.std.specs.List.{IsDistinct}
use Rattle.std.specs.Map.{lookup, set_value, keys_of}
use Rattle.std.specs.Str.{bytes_eq}
use Rattle.std.proofs.lemmas.Bool.{leb-true}
use Rattle.std.specs.Prelude.{nat_le}
use Rattle.pd_text.specs.Edit.{edited, edit_refusal}
use Rattle.pd_text.specs.Text.{AreLines}
use Rattle.pd_text.specs.declared.line_edit.LineEdit.{LineEdit}
use Rattle.pd_settings.specs.declared.settings.Settings.{Settings}
use Rattle.pd_book.specs.declared.act.Act.{Act}
use Rattle.pd_book.specs.declared.act.Act.TheVariants.{Edit, Start, Finish, Abandon}
use Rattle.pd_book.specs.declared.act.Ruling.{Ruling}
use Rattle.pd_book.specs.declared.faults.BookFault.TheVariants.{HistoryFull}
use Rattle.pd_book.specs.declared.stored_script.StoredScript.{StoredScript}
use Rattle.pd_book.specs.declared.stored_script.ScriptState.TheVariants.{Pending, Running}
use Rattle.pd_track.specs.declared.task.Task.{Task}
use Rattle.pd_book.specs.Acts.{texts, text_of, now, without, jobs, job, started, next, ruling}
use Rattle.pd_book.specs.Legal.{MayBeRecorded}
use Rattle.pd_book.specs.History.{History}
use Rattle.pd_book.specs.Faults.{of_text}
use Rattle.pd_book.specs.Refusals.{taken_room, history_full_fault_unless_space_for, line_edit_refusal}
use Rattle.pd_book.specs.StoredScripts.{ScriptEntry, with_state, with_edit}
use Rattle.pd_book.specs.Replay.{scripts_of, settle, make_pending_if_running_task, IsReplay}
use Rattle.pd_book.proofs.NamedText.{set_named}
use Rattle.pd_book.proofs.Faithful.{lookup-kept}
use Rattle.pd_book.proofs.Replayed.{next_text}

-- where there is room for so many more
pub has_room : (m : ℕ) (s : History) → history_full_fault_unless_space_for m s ≡ None → taken_room s + m ≤ 65536
has_room m s h = leb-true (taken_room s + m) 65536 (go (nat_le (taken_room s + m) 65536) h)
  where
    go : (b : Bool) → cond b None (Some HistoryFull) ≡ None → b ≡ true
    go true k = refl
    go false k = absurd cc

-- one more act that starts and ends no job
pub recorded : (opening : Settings) (past past' : List Act) (current current' : Settings) (kept kept' : List ScriptEntry) (tasks : List Task) (count cap cap' : ℕ) (a : Act)
    → IsReplay opening past current kept tasks count cap → MayBeRecorded opening past a
    → jobs opening (a ∷ past) ≡ jobs opening past → started (a ∷ past) ≡ started past
    → current' ≡ now opening (a ∷ past) → kept' ≡ scripts_of opening (a ∷ past) → past' ≡ a ∷ past
    → length past + length tasks + 1 ≤ 65536 → length past + length tasks + 1 ≤ cap'
    → IsReplay opening past' current' kept' tasks count cap'
recorded opening past past' current current' kept kept' tasks count cap cap' a r may js ns cs ks p few big =
    rw p record {
      settings = cs;
      scripts = ks;
      tasks = r.tasks ∙ sym js;
      last_number = r.last_number ∙ sym ns;
      legal = (may, r.legal, omega (arith, few, ap length js, ap length r.tasks));
      room = omega (arith, big);
      few = omega (arith, few);
      numbered = omega (arith, r.numbered, ns);
    }

pub no_fault : {A B : Type 0} (f : A → B) (o : Option A) → option_map f o ≡ None → o ≡ None
no_fault f None h = refl
no_fault f (Some x) h = absurd cc

-- the book after an edit
pub edit_kept : (opening : Settings) (past past' : List Act) (current : Settings) (kept kept' : List ScriptEntry) (tasks : List Task) (count cap cap' : ℕ) (n : List ℕ) (d : LineEdit) (t : List (List ℕ))
    → IsReplay opening past current kept tasks count cap → line_edit_refusal (lookup (bytes_eq n) (texts past)) d ≡ None → AreLines d.insert → t ≡ edited (text_of past n) d
    → kept' ≡ option_map_or (λ (s : StoredScript). set_value (bytes_eq n) kept (record { text = t; state = Pending })) (lookup (bytes_eq n) kept) kept → IsDistinct bytes_eq (keys_of kept)
    → past' ≡ Edit n d ∷ past → length past + length tasks + 1 ≤ 65536 → length past + length tasks + 1 ≤ cap'
    → IsReplay opening past' current kept' tasks count cap'
edit_kept opening past past' current kept kept' tasks count cap cap' n d t r allowed lines te w distinct p few big = go (lookup (bytes_eq n) kept) refl
  where
    found : lookup (bytes_eq n) (texts past) ≡ option_map (λ (s : StoredScript). s.text) (lookup (bytes_eq n) kept)
    found = lookup-kept (bytes_eq n) opening past ∙ ap (λ (es : List ScriptEntry). option_map (λ (s : StoredScript). s.text) (lookup (bytes_eq n) es)) (sym r.scripts)

    go : (o : Option StoredScript) → lookup (bytes_eq n) kept ≡ o → IsReplay opening past' current kept' tasks count cap'
    go None q =
        let none : lookup (bytes_eq n) (texts past) ≡ None = found ∙ ap (option_map (λ (s : StoredScript). s.text)) q in
        let bad : line_edit_refusal None d ≡ None = rw none at allowed in absurd cc
    go (Some s) q =
        let here : lookup (bytes_eq n) (texts past) ≡ Some s.text = found ∙ ap (option_map (λ (x : StoredScript). x.text)) q in
        let may : line_edit_refusal (Some s.text) d ≡ None = rw here at allowed in
        let is : text_of past n ≡ s.text = ap (λ (o : Option (List (List ℕ))). unwrap_or o []) here in
        let text : t ≡ edited s.text d = te ∙ ap (λ (x : List (List ℕ)). edited x d) is in
        let f : StoredScript → StoredScript = λ x. record { text = edited x.text d; state = Pending } in
        let one : kept' ≡ set_value (bytes_eq n) kept (record { text = t; state = Pending }) =
        w ∙ ap (λ (o : Option StoredScript). option_map_or (λ (x : StoredScript). set_value (bytes_eq n) kept (record { text = t; state = Pending })) o kept) q in
        let two : set_value (bytes_eq n) kept (record { text = t; state = Pending }) ≡ set_value (bytes_eq n) kept (f s) = ap (λ (x : List (List ℕ)). set_value (bytes_eq n) kept (record { text = x; state = Pending })) text in
        recorded opening past past' current current kept kept' tasks count cap cap' (Edit n d) r
        (ap is_some here, ap (λ (x : List (List ℕ)). edit_refusal x d) is ∙ no_fault of_text (edit_refusal s.text d) may, lines)
        refl refl r.settings
        (one ∙ (two ∙ (set_named n f s kept distinct q ∙ ap (with_edit n d) r.scripts)))
        p few big

-- the book after a start
start_replays : (opening : Settings) (past : List Act) (current : Settings) (kept : List ScriptEntry) (tasks : List Task) (count cap cap' : ℕ) (n : List ℕ) (t : List (List ℕ))
    → IsReplay opening past current kept tasks count cap → next past ≡ Some (n, t) → length past + length tasks + 2 ≤ cap' → length past + length tasks + 2 ≤ 65536
    → IsReplay opening (Start (count + 1) n ∷ past) current (with_state (bytes_eq n) (Running (count + 1)) kept) (tasks ++ record { number = count + 1; name = n; text = t; settings = current } ∷ []) (count + 1) cap'
start_replays opening past current kept tasks count cap cap' n t r h big few =
    let text : text_of past n ≡ t = next_text opening past n t r.legal h in
    let new : Task = record { number = count + 1; name = n; text = t; settings = current } in
    let same : tasks ++ new ∷ [] ≡ jobs opening (Start (count + 1) n ∷ past) = cc (r.tasks, r.settings, text) in record {
      settings = r.settings;
      scripts = ap (with_state (bytes_eq n) (Running (count + 1))) r.scripts;
      tasks = same;
      last_number = ap (λ (x : ℕ). x + 1) r.last_number;
      legal = (
        (ap (λ (x : ℕ). x + 1) r.last_number, h ∙ ap (λ (x : List (List ℕ)). Some (n, x)) (sym text)),
        r.legal,
        omega (arith, few, length-append tasks (new ∷ []), ap length same),
      );
      room = omega (arith, big, length-append tasks (new ∷ []));
      few = omega (arith, few, length-append tasks (new ∷ []));
      numbered = omega (arith, r.numbered);
    }

abbrev task_with : ℕ → List ℕ → List (List ℕ) → Settings → Task
task_with j n t s = record { number = j; name = n; text = t; settings = s }

pub start_kept : (opening : Settings) (past past' : List Act) (current : Settings) (kept kept' : List ScriptEntry) (tasks tasks' : List Task) (count count' cap cap' : ℕ) (j : Task) (a : Act)
    → IsReplay opening past current kept tasks count cap → next past ≡ Some (j.name, j.text) → j.number ≡ started past + 1 → j.settings ≡ now opening past → a ≡ Start j.number j.name
    → past' ≡ a ∷ past → kept' ≡ with_state (bytes_eq j.name) (Running j.number) kept → tasks' ≡ tasks ++ j ∷ [] → count' ≡ j.number
    → length past + length tasks + 2 ≤ cap' → length past + length tasks + 2 ≤ 65536
    → IsReplay opening past' current kept' tasks' count' cap'
start_kept opening past past' current kept kept' tasks tasks' count count' cap cap' j a r h ns ss ais p k hs n big few =
    let num : j.number ≡ count + 1 = ns ∙ ap (λ (x : ℕ). x + 1) (sym r.last_number) in
    let set : j.settings ≡ current = ss ∙ sym r.settings in
    let whole : j ≡ record { number = count + 1; name = j.name; text = j.text; settings = current } =
    ap (λ (x : ℕ). task_with x j.name j.text j.settings) num ∙ ap (λ (x : Settings). task_with (count + 1) j.name j.text x) set in
    rw (p, ais, k, hs, n, num, whole) (start_replays opening past current kept tasks count cap cap' j.name j.text r h big few)

-- an end leaves fewer jobs
pub fewer : (j : ℕ) (tasks : List Task) (h : Task) → find (λ (x : Task). j == x.number) tasks ≡ Some h → length (without j tasks) < length tasks
fewer j [] h e = absurd cc
fewer j (x ∷ tasks) h e = go (j == x.number) e (fewer j tasks h) (no_more tasks)
  where
    no_more : (xs : List Task) → length (without j xs) ≤ length xs
    no_more [] = omega arith
    no_more (y ∷ ys) = by (j == y.number) (no_more ys)
      where
        by : (b : Bool) → length (without j ys) ≤ length ys → length (cond (not b) (y ∷ without j ys) (without j ys)) ≤ suc (length ys)
        by true f = omega (arith, f)
        by false f = omega (arith, f)

    go : (b : Bool) → cond b (Some x) (find (λ (y : Task). j == y.number) tasks) ≡ Some h → (find (λ (y : Task). j == y.number) tasks ≡ Some h → length (without j tasks) < length tasks)
        → length (without j tasks) ≤ length tasks → length (cond (not b) (x ∷ without j tasks) (without j tasks)) < suc (length tasks)
    go true w f m = omega (arith, m)
    go false w f m = let s = f w in omega (arith, s)

-- the book after the end of a job
ended_kept : (opening : Settings) (past past' : List Act) (current : Settings) (kept kept' : List ScriptEntry) (tasks tasks' : List Task) (count cap cap' : ℕ) (h : Task) (j : ℕ) (a : Act)
    → IsReplay opening past current kept tasks count cap → job opening past j ≡ Some h → MayBeRecorded opening past a
    → now opening (a ∷ past) ≡ now opening past → jobs opening (a ∷ past) ≡ without j (jobs opening past) → started (a ∷ past) ≡ started past
    → past' ≡ a ∷ past → kept' ≡ scripts_of opening (a ∷ past) → tasks' ≡ without j tasks → cap ≤ cap'
    → IsReplay opening past' current kept' tasks' count cap'
ended_kept opening past past' current kept kept' tasks tasks' count cap cap' h j a re found may ws js ns p ks hs big =
    let less : length (without j tasks) < length tasks = fewer j tasks h (ap (λ (xs : List Task). find (λ (x : Task). j == x.number) xs) re.tasks ∙ found) in
    let same : without j tasks ≡ jobs opening (a ∷ past) = ap (without j) re.tasks ∙ sym js in
    rw (p, hs) record {
      settings = re.settings ∙ sym ws;
      scripts = ks;
      tasks = same;
      last_number = re.last_number ∙ sym ns;
      legal = (may, re.legal, omega (arith, less, re.few, ap length same));
      room = omega (arith, less, re.room, big);
      few = omega (arith, less, re.few);
      numbered = omega (arith, re.numbered, ns);
    }

pub finish_kept : (opening : Settings) (past past' : List Act) (current : Settings) (kept kept' : List ScriptEntry) (tasks tasks' : List Task) (count cap cap' : ℕ) (h : Task) (r : Ruling)
    → IsReplay opening past current kept tasks count cap → job opening past h.number ≡ Some h → r ≡ ruling past h
    → past' ≡ Finish h.number r ∷ past → kept' ≡ settle r (Some h) kept → tasks' ≡ without h.number tasks → cap ≤ cap'
    → IsReplay opening past' current kept' tasks' count cap'
finish_kept opening past past' current kept kept' tasks tasks' count cap cap' h r re j ok p k hs big =
    ended_kept opening past past' current kept kept' tasks tasks' count cap cap' h h.number (Finish h.number r) re j (h, j, ok) refl refl refl p
    (k ∙ (ap (settle r (Some h)) re.scripts ∙ ap (λ (o : Option Task). settle r o (scripts_of opening past)) (sym j))) hs big

pub abandon_kept : (opening : Settings) (past past' : List Act) (current : Settings) (kept kept' : List ScriptEntry) (tasks tasks' : List Task) (count cap cap' : ℕ) (h : Task) (j : ℕ)
    → IsReplay opening past current kept tasks count cap → job opening past j ≡ Some h
    → past' ≡ Abandon j ∷ past → kept' ≡ make_pending_if_running_task (Some h) kept → tasks' ≡ without j tasks → cap ≤ cap'
    → IsReplay opening past' current kept' tasks' count cap'
abandon_kept opening past past' current kept kept' tasks tasks' count cap cap' h j re found p k hs big =
    ended_kept opening past past' current kept kept' tasks tasks' count cap cap' h j (Abandon j) re found (h, found) refl refl refl p
    (k ∙ (ap (make_pending_if_running_task (Some h)) re.scripts ∙ ap (λ (o : Option Task). make_pending_if_running_task o (scripts_of opening past)) (sym found))) hs big
