-- Calls that aren't refused, and turns of settling, keep a history legal.
use Rattle.std.proofs.Common.{◌≡◌, ◌↔◌, ℕ, ◌==◌, ◌+◌, ◌≤◌, ◌<◌, List, [], ◌∷◌, length, length-append, Option, Some, None, is_some, is_none, Bool, true, false, not, cond, unwrap_or, refl, ap, sym, subst, ◌∙◌, arith}
use Rattle.std.specs.Prelude.{nat_le}
use Rattle.std.specs.Option.{option_map}
use Rattle.std.proofs.lemmas.Bool.{leb-false}
use Rattle.std.proofs.lemmas.Bool.Decides.{Decides-eqb, nat_tests}
use Rattle.pd_text.specs.Name.{is_valid_name}
use Rattle.pd_text.specs.Edit.{edit_refusal as fault_of_edit}
use Rattle.pd_text.specs.Text.{AreLines, IsText}
use Rattle.pd_text.specs.declared.line_edit.LineEdit.{LineEdit}
use Rattle.pd_settings.specs.Settings.{replaced}
use Rattle.pd_settings.specs.Keys.{key_named}
use Rattle.pd_settings.specs.declared.settings.Settings.{Settings}
use Rattle.pd_settings.specs.declared.keys.Key.{Key}
use Rattle.pd_settings.specs.declared.values.Value.{Value}
use Rattle.pd_book.specs.declared.act.Act.{Act}
use Rattle.pd_book.specs.declared.act.Act.TheVariants.{Add, Edit, Remove, Set, Start, Finish, Abandon}
use Rattle.pd_book.specs.declared.faults.BookFault.{BookFault}
use Rattle.pd_book.specs.declared.faults.BookFault.TheVariants.{BadName, NameTaken, TooManyScripts, NoSuchScript, BadValue, HistoryFull}
use Rattle.pd_track.specs.declared.task.Task.{Task}
use Rattle.pd_book.specs.Acts.{NamedText, texts, present_text, text_of, has_script, now, started, without, jobs, job, next, ruling}
use Rattle.pd_book.specs.Legal.{MayBeRecorded, HasRoom, Legal}
use Rattle.pd_book.specs.History.{History}
use Rattle.pd_book.specs.Faults.{of_text}
use Rattle.pd_book.specs.Refusals.{taken_room, history_full_fault_unless_space_for, or_else, refusal_if_name_bad_taken_or_too_many, line_edit_refusal, missing_refusal, refusal_if_key_unknown_or_value_bad, add_refusal, edit_refusal, remove_refusal, set_refusal, start_refusal, next_job}
use Rattle.pd_book.specs.Accepted.{IsLegalWith, AddsAreLegal, EditsAreLegal, RemovesAreLegal, SetsAreLegal, LegalAddsAreAccepted, LegalEditsAreAccepted, LegalRemovesAreAccepted, LegalSetsAreAccepted, StartsAreLegal, FinishesAreLegal, AbandonsAreLegal}
use Rattle.pd_book.specs.Turns.{turned, after_turn, IsAtRest, StartsAreOutstanding, TurnsAreLegal}
use Rattle.pd_book.proofs.Searches.{find_last}
use Rattle.pd_book.proofs.Numbers.{job_number}
use Rattle.pd_book.proofs.Calls.{has_room, no_fault, fewer}
use Rattle.pd_book.proofs.Replayed.{next_text}

-- ---- acts that start and end no job

one_more : (history : History) (act : Act) → jobs history.opening (act ∷ history.past) ≡ jobs history.opening history.past → history_full_fault_unless_space_for 1 history ≡ None → HasRoom history.opening (act ∷ history.past)
one_more history act same free = omega (arith, has_room 1 history free, ap length same)

pub both_none : (first second : Option BookFault) → or_else first second ≡ None → (first ≡ None) × (second ≡ None)
both_none None second h = (refl, h)
both_none (Some fault) second h = absurd cc

pub add_legal : (history : History) → Legal history.opening history.past → (name : List ℕ) (text : List (List ℕ)) → IsText text → add_refusal history name ≡ None → IsLegalWith history (Add name text)
add_legal history l name text fits h =
    let both = both_none (refusal_if_name_bad_taken_or_too_many history.past name) (history_full_fault_unless_space_for 1 history) h in
    go (is_valid_name name) refl (has_script history.past name) refl (nat_le 1024 (length (texts history.past))) refl both.0 both.1
  where
    go : (a : Bool) → is_valid_name name ≡ a → (b : Bool) → has_script history.past name ≡ b → (c : Bool) → nat_le 1024 (length (texts history.past)) ≡ c
        → cond (not a) (Some BadName) (cond b (Some NameTaken) (cond c (Some TooManyScripts) None)) ≡ None → history_full_fault_unless_space_for 1 history ≡ None → Legal history.opening (Add name text ∷ history.past)
    go true e false f false g h k = ((e, f, leb-false 1024 (length (texts history.past)) g, fits), l, one_more history (Add name text) refl k)
    go false e b f c g h k = absurd cc
    go true e true f c g h k = absurd cc
    go true e false f true g h k = absurd cc

edit_legal : (history : History) → Legal history.opening history.past → (name : List ℕ) (edit : LineEdit) → AreLines edit.insert → edit_refusal history name edit ≡ None → IsLegalWith history (Edit name edit)
edit_legal history l name edit lines h =
    let both = both_none (line_edit_refusal (present_text history.past name) edit) (history_full_fault_unless_space_for 1 history) h in
    go (present_text history.past name) refl both.0 both.1
  where
    go : (o : Option (List (List ℕ))) → present_text history.past name ≡ o → line_edit_refusal o edit ≡ None → history_full_fault_unless_space_for 1 history ≡ None → Legal history.opening (Edit name edit ∷ history.past)
    go None e k f = absurd cc
    go (Some text) e k f =
        let here : has_script history.past name ≡ true = rw e refl in
        let is : text_of history.past name ≡ text = rw e refl in
        let fits : fault_of_edit (text_of history.past name) edit ≡ None = ap (λ (t : List (List ℕ)). fault_of_edit t edit) is ∙ no_fault of_text (fault_of_edit text edit) k in
        ((here, fits, lines), l, one_more history (Edit name edit) refl f)

remove_legal : (history : History) → Legal history.opening history.past → (name : List ℕ) → remove_refusal history name ≡ None → IsLegalWith history (Remove name)
remove_legal history l name h =
    let both = both_none (missing_refusal history.past name) (history_full_fault_unless_space_for 1 history) h in
    go (has_script history.past name) refl both.0 both.1
  where
    go : (b : Bool) → has_script history.past name ≡ b → cond b None (Some NoSuchScript) ≡ None → history_full_fault_unless_space_for 1 history ≡ None → Legal history.opening (Remove name ∷ history.past)
    go true e h k = (e, l, one_more history (Remove name) refl k)
    go false e h k = absurd cc

set_legal : (history : History) → Legal history.opening history.past → (name : List ℕ) (key : Key) (value : Value) → key_named name ≡ Some key → set_refusal history name value ≡ None → IsLegalWith history (Set key value)
set_legal history l name key value named h =
    let both = both_none (refusal_if_key_unknown_or_value_bad (now history.opening history.past) (key_named name) value) (history_full_fault_unless_space_for 1 history) h in
    go (replaced (now history.opening history.past) key value) refl (ap (λ (o : Option Key). refusal_if_key_unknown_or_value_bad (now history.opening history.past) o value) (sym named) ∙ both.0) both.1
  where
    go : (o : Option Settings) → replaced (now history.opening history.past) key value ≡ o → cond (is_none o) (Some BadValue) None ≡ None → history_full_fault_unless_space_for 1 history ≡ None → Legal history.opening (Set key value ∷ history.past)
    go None e k f = absurd cc
    go (Some settings) e k f = (rw e refl, l, one_more history (Set key value) refl f)

-- ---- legal acts are those of calls that aren't refused

room_left : (more : ℕ) (history : History) → taken_room history + more ≤ 65536 → history_full_fault_unless_space_for more history ≡ None
room_left more history h = ap (λ (b : Bool). cond b None (Some HistoryFull)) (fits (taken_room history + more) h)
  where
    fits : (n : ℕ) → n ≤ 65536 → nat_le n 65536 ≡ true
    fits n le = grind (arith, nat_tests, le)

one_left : (history : History) (act : Act) → jobs history.opening (act ∷ history.past) ≡ jobs history.opening history.past → HasRoom history.opening (act ∷ history.past) → history_full_fault_unless_space_for 1 history ≡ None
one_left history act same room = room_left 1 history (omega (arith, room, ap length same))

none_of_both : (first second : Option BookFault) → first ≡ None → second ≡ None → or_else first second ≡ None
none_of_both first second e f = rw (e, f) refl

not_over : (n m : ℕ) → n < m → nat_le m n ≡ false
not_over n m h = grind (arith, nat_tests, h)

adds_exactly : (history : History) → Legal history.opening history.past → (name : List ℕ) (text : List (List ℕ)) → IsLegalWith history (Add name text) ↔ (IsText text × (add_refusal history name ≡ None))
adds_exactly history l name text = (allowed, λ h. add_legal history l name text h.0 h.1)
  where
    allowed : IsLegalWith history (Add name text) → IsText text × (add_refusal history name ≡ None)
    allowed (may, older, room) =
        let few : nat_le 1024 (length (texts history.past)) ≡ false = not_over (length (texts history.past)) 1024 may.2 in
        (may.3, none_of_both (refusal_if_name_bad_taken_or_too_many history.past name) (history_full_fault_unless_space_for 1 history) (rw (may.0, may.1, few) refl) (one_left history (Add name text) refl room))

edits_exactly : (history : History) → Legal history.opening history.past → (name : List ℕ) (edit : LineEdit) → IsLegalWith history (Edit name edit) ↔ (AreLines edit.insert × (edit_refusal history name edit ≡ None))
edits_exactly history l name edit = (allowed, λ h. edit_legal history l name edit h.0 h.1)
  where
    refused : (o : Option (List (List ℕ))) → is_some o ≡ true → fault_of_edit (unwrap_or o []) edit ≡ None → line_edit_refusal o edit ≡ None
    refused None e f = absurd cc
    refused (Some text) e f = ap (option_map of_text) f

    allowed : IsLegalWith history (Edit name edit) → AreLines edit.insert × (edit_refusal history name edit ≡ None)
    allowed (may, older, room) =
        (may.2, none_of_both (line_edit_refusal (present_text history.past name) edit) (history_full_fault_unless_space_for 1 history) (refused (present_text history.past name) may.0 may.1) (one_left history (Edit name edit) refl room))

removes_exactly : (history : History) → Legal history.opening history.past → (name : List ℕ) → IsLegalWith history (Remove name) ↔ (remove_refusal history name ≡ None)
removes_exactly history l name = (allowed, remove_legal history l name)
  where
    allowed : IsLegalWith history (Remove name) → remove_refusal history name ≡ None
    allowed (may, older, room) = none_of_both (missing_refusal history.past name) (history_full_fault_unless_space_for 1 history) (rw may refl) (one_left history (Remove name) refl room)

sets_exactly : (history : History) → Legal history.opening history.past → (name : List ℕ) (key : Key) (value : Value) → key_named name ≡ Some key → IsLegalWith history (Set key value) ↔ (set_refusal history name value ≡ None)
sets_exactly history l name key value named = (allowed, set_legal history l name key value named)
  where
    known : (o : Option Settings) → is_some o ≡ true → cond (is_none o) (Some BadValue) None ≡ None
    known None e = absurd cc
    known (Some settings) e = refl

    allowed : IsLegalWith history (Set key value) → set_refusal history name value ≡ None
    allowed (may, older, room) =
        none_of_both (refusal_if_key_unknown_or_value_bad (now history.opening history.past) (key_named name) value) (history_full_fault_unless_space_for 1 history)
        (ap (λ (o : Option Key). refusal_if_key_unknown_or_value_bad (now history.opening history.past) o value) named ∙ known (replaced (now history.opening history.past) key value) may) (one_left history (Set key value) refl room)

pub adds_legal : (history : History) → Legal history.opening history.past → AddsAreLegal history
adds_legal history l name text fits h = add_legal history l name text fits h

pub edits_legal : (history : History) → Legal history.opening history.past → EditsAreLegal history
edits_legal history l name edit lines h = edit_legal history l name edit lines h

pub removes_legal : (history : History) → Legal history.opening history.past → RemovesAreLegal history
removes_legal history l name h = remove_legal history l name h

pub sets_legal : (history : History) → Legal history.opening history.past → SetsAreLegal history
sets_legal history l name key value named h = set_legal history l name key value named h

pub adds_accepted : (history : History) → Legal history.opening history.past → LegalAddsAreAccepted history
adds_accepted history l name text = (adds_exactly history l name text).0

pub edits_accepted : (history : History) → Legal history.opening history.past → LegalEditsAreAccepted history
edits_accepted history l name edit = (edits_exactly history l name edit).0

pub removes_accepted : (history : History) → Legal history.opening history.past → LegalRemovesAreAccepted history
removes_accepted history l name = (removes_exactly history l name).0

pub sets_accepted : (history : History) → Legal history.opening history.past → LegalSetsAreAccepted history
sets_accepted history l name key value named = (sets_exactly history l name key value named).0

-- ---- a start and its finish

abbrev task_at : History → ℕ → List ℕ → Task
task_at history number name = record { number = number; name = name; text = text_of history.past name; settings = now history.opening history.past }

abbrev task_now : History → List ℕ → Task
task_now history name = task_at history (started history.past + 1) name

abbrev task_for : History → NamedText → Task
task_for history script = record { number = started history.past + 1; name = script.0; text = script.1; settings = now history.opening history.past }

some_same : {A : Type 0} (a b : A) → Some a ≡ Some b → a ≡ b
some_same {A = A} a b e = ap (λ (o : Option A). unwrap_or o a) e

-- a start's job is that of the first script that waits
pub job_from : (P : Task → Type 0) (history : History) (task : Task) → next_job history ≡ Some task → ((script : NamedText) → next history.past ≡ Some script → P (task_for history script)) → P task
job_from P history task h f = go (next history.past) refl h
  where
    go : (o : Option NamedText) → next history.past ≡ o → option_map (task_for history) o ≡ Some task → P task
    go None e k = absurd cc
    go (Some script) e k = subst P (some_same (task_for history script) task k) (f script e)

-- the job is outstanding then
pub starts_outstanding : (history : History) → Legal history.opening history.past → StartsAreOutstanding history
starts_outstanding history l task h = job_from (λ (t : Task). job history.opening (Start t.number t.name ∷ history.past) t.number ≡ Some t) history task h begun
  where
    begun : (script : NamedText) → next history.past ≡ Some script → job history.opening (Start (started history.past + 1) script.0 ∷ history.past) (started history.past + 1) ≡ Some (task_for history script)
    begun script e = go (job history.opening history.past (started history.past + 1)) refl
      where
        text : text_of history.past script.0 ≡ script.1
        text = next_text history.opening history.past script.0 script.1 l e

        own : ((started history.past + 1) == (started history.past + 1)) ≡ true
        own = (Decides-eqb (started history.past + 1) (started history.past + 1)).1 refl

        go : (r : Option Task) → job history.opening history.past (started history.past + 1) ≡ r → job history.opening (Start (started history.past + 1) script.0 ∷ history.past) (started history.past + 1) ≡ Some (task_for history script)
        go (Some t) q = let small = (job_number history.opening history.past (started history.past + 1) t l q).1 in absurd (omega (arith, small))
        go None q = find_last (λ (x : Task). (started history.past + 1) == x.number) (jobs history.opening history.past) _ q ∙ rw (own, text) refl

one_job : (history : History) (script : NamedText) → IsAtRest history → next history.past ≡ Some script → jobs history.opening (Start (started history.past + 1) script.0 ∷ history.past) ≡ task_for history script ∷ []
one_job history script q e =
    let text : text_of history.past script.0 ≡ script.1 = next_text history.opening history.past script.0 script.1 q.legal e in
    rw (q.none, text) refl

two_more : (history : History) → history_full_fault_unless_space_for 2 history ≡ None → taken_room history + 2 ≤ 65536
two_more history free = has_room 2 history free

start_room : (history : History) (script : NamedText) → next history.past ≡ Some script → start_refusal history ≡ None → history_full_fault_unless_space_for 2 history ≡ None
start_room history script e h = let same : start_refusal history ≡ history_full_fault_unless_space_for 2 history = rw e refl in sym same ∙ h

turn_of : (history : History) (script : NamedText) → IsAtRest history → next history.past ≡ Some script → start_refusal history ≡ None → IsAtRest (after_turn history (task_for history script))
turn_of history script q e h =
    let number : ℕ = started history.past + 1 in
    let begun : List Act = Start number script.0 ∷ history.past in
    let room = two_more history (start_room history script e h) in
    let empty : length (jobs history.opening history.past) ≡ 0 = ap length q.none in
    let text : text_of history.past script.0 ≡ script.1 = next_text history.opening history.past script.0 script.1 q.legal e in
    let one = one_job history script q e in
    let own : (number == number) ≡ true = (Decides-eqb number number).1 refl in
    let found : job history.opening begun number ≡ Some (task_for history script) = rw (one, own) refl in
    let gone : jobs history.opening (turned history.past (task_for history script)) ≡ [] = rw (one, own) refl in
    let may : MayBeRecorded history.opening history.past (Start number script.0) = (refl, e ∙ ap (λ (t : List (List ℕ)). Some (script.0, t)) (sym text)) in
    let starts : Legal history.opening begun = (may, q.legal, omega (arith, room, empty, ap length one)) in record {
      legal = ((task_for history script, found, refl), starts, omega (arith, room, empty, ap length gone));
      none = gone;
    }

pub turns_legal : (history : History) → IsAtRest history → TurnsAreLegal history
turns_legal history q task h k = job_from (λ (t : Task). IsAtRest (after_turn history t)) history task h (λ script e. turn_of history script q e k)

-- ---- legal starts and ends of jobs

start_legal : (history : History) → Legal history.opening history.past → (script : NamedText) → next history.past ≡ Some script → history_full_fault_unless_space_for 2 history ≡ None → IsLegalWith history (Start (started history.past + 1) script.0)
start_legal history l script e free =
    let text : text_of history.past script.0 ≡ script.1 = next_text history.opening history.past script.0 script.1 l e in
    let room = two_more history free in
    ((refl, e ∙ ap (λ (t : List (List ℕ)). Some (script.0, t)) (sym text)), l, omega (arith, room, length-append (jobs history.opening history.past) (task_now history script.0 ∷ [])))

pub starts_legal : (history : History) → Legal history.opening history.past → StartsAreLegal history
starts_legal history l number name = (allowed, back)
  where
    allowed : IsLegalWith history (Start number name) → (task : Task) × (next_job history ≡ Some task) × (start_refusal history ≡ None) × (number ≡ task.number) × (name ≡ task.name)
    allowed (may, older, room) =
        let some : is_some (next history.past) ≡ true = rw may.1 refl in
        let free : history_full_fault_unless_space_for 2 history ≡ None = room_left 2 history (omega (arith, room, length-append (jobs history.opening history.past) (task_at history number name ∷ []))) in
        (task_for history (name, text_of history.past name), ap (option_map (task_for history)) may.1, rw some free, may.0, refl)

    back : (task : Task) × (next_job history ≡ Some task) × (start_refusal history ≡ None) × (number ≡ task.number) × (name ≡ task.name) → IsLegalWith history (Start number name)
    back (task, h, r, n, m) =
        rw (n, m) (job_from (λ (t : Task). IsLegalWith history (Start t.number t.name)) history task h (λ script e. start_legal history l script e (start_room history script e r)))

-- an end of a job needs no further room
end_room : (history : History) (act : Act) (number : ℕ) (task : Task) → Legal history.opening history.past → job history.opening history.past number ≡ Some task → jobs history.opening (act ∷ history.past) ≡ without number (jobs history.opening history.past)
    → HasRoom history.opening (act ∷ history.past)
end_room history act number task l found gone =
    let less : length (without number (jobs history.opening history.past)) < length (jobs history.opening history.past) = fewer number (jobs history.opening history.past) task found in
    let room : HasRoom history.opening history.past = has_kept history.opening history.past l in
    omega (arith, less, room, ap length gone)
  where
    has_kept : (opening : Settings) (past : List Act) → Legal opening past → HasRoom opening past
    has_kept opening [] k = omega arith
    has_kept opening (first ∷ older) k = k.2

pub finishes_legal : (history : History) → Legal history.opening history.past → FinishesAreLegal history
finishes_legal history l number ruled = (λ h. h.0, λ h. (h, l, end_room history (Finish number ruled) number h.0 l h.1 refl))

pub abandons_legal : (history : History) → Legal history.opening history.past → AbandonsAreLegal history
abandons_legal history l number = (λ h. found (job history.opening history.past number) h.0, back)
  where
    found : (o : Option Task) → (task : Task) × (o ≡ Some task) → is_some o ≡ true
    found o (task, e) = rw e refl

    some_of : (o : Option Task) → is_some o ≡ true → (task : Task) × (o ≡ Some task)
    some_of None e = absurd cc
    some_of (Some task) e = (task, refl)

    back : is_some (job history.opening history.past number) ≡ true → IsLegalWith history (Abandon number)
    back e = let t = some_of (job history.opening history.past number) e in (t, l, end_room history (Abandon number) number t.0 l t.1 refl)
