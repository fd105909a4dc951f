-- The scripts that a book keeps are those of its acts, with their texts.
use Rattle.std.proofs.Common.{◌≡◌, ℕ, List, [], ◌∷◌, ◌++◌, map, filter, Option, Some, None, Bool, true, false, not, cond, is_some, length, refl, ap, sym, ◌∙◌}
use Rattle.std.specs.Option.{option_map}
use Rattle.std.specs.Map.{lookup}
use Rattle.std.specs.Str.{bytes_eq}
use Rattle.std.proofs.lemmas.List.{map-append, length-map}
use Rattle.std.proofs.lemmas.Slice.Eq.{bytes_eq-Decides}
use Rattle.pd_text.specs.Edit.{edited}
use Rattle.pd_text.specs.declared.line_edit.LineEdit.{LineEdit}
use Rattle.pd_settings.specs.declared.settings.Settings.{Settings}
use Rattle.pd_book.specs.declared.act.Act.{Act}
use Rattle.pd_book.specs.declared.act.Act.TheVariants.{Add, Edit, Remove, Set, Start, Finish, Abandon}
use Rattle.pd_book.specs.declared.act.Ruling.{Ruling}
use Rattle.pd_book.specs.declared.act.Ruling.TheVariants.{Taken, Stale}
use Rattle.pd_book.specs.declared.stored_script.StoredScript.{StoredScript}
use Rattle.pd_book.specs.declared.stored_script.ScriptState.{ScriptState}
use Rattle.pd_book.specs.declared.stored_script.ScriptState.TheVariants.{Pending, Running}
use Rattle.pd_track.specs.declared.task.Task.{Task}
use Rattle.pd_book.specs.Acts.{NamedText, edited_at, texts, has_script, job}
use Rattle.pd_book.specs.StoredScripts.{ScriptEntry, with_state, with_edit, without_name, all_pending, in_state, is_running_job}
use Rattle.pd_book.specs.Replay.{scripts_of, settle, make_pending_if_running_task}
use Rattle.pd_book.proofs.Searches.{none_from_test}

abbrev pub named_text : ScriptEntry → NamedText
named_text e = (e.0, e.1.text)

abbrev pub texts_of : List ScriptEntry → List NamedText
texts_of es = map named_text es

texts-pending : (es : List ScriptEntry) → texts_of (all_pending es) ≡ texts_of es
texts-pending [] = refl
texts-pending (e ∷ es) = ap (λ (t : List NamedText). (e.0, e.1.text) ∷ t) (texts-pending es)

texts-state : (test : List ℕ → Bool) (state : ScriptState) (es : List ScriptEntry) → texts_of (with_state test state es) ≡ texts_of es
texts-state test state [] = refl
texts-state test state (e ∷ es) = go (test e.0) (texts-state test state es)
  where
    go : (b : Bool) → texts_of (with_state test state es) ≡ texts_of es → named_text (cond b (e.0, in_state e.1 state) e) ∷ texts_of (with_state test state es) ≡ texts_of (e ∷ es)
    go true f = ap (λ (x : List NamedText). (e.0, e.1.text) ∷ x) f
    go false f = ap (λ (x : List NamedText). (e.0, e.1.text) ∷ x) f

texts-settle : (r : Ruling) (h : Option Task) (es : List ScriptEntry) → texts_of (settle r h es) ≡ texts_of es
texts-settle Stale h es = refl
texts-settle Taken None es = refl
texts-settle Taken (Some h) es = texts-state _ _ es

texts-make_pending_if_running_task : (h : Option Task) (es : List ScriptEntry) → texts_of (make_pending_if_running_task h es) ≡ texts_of es
texts-make_pending_if_running_task None es = refl
texts-make_pending_if_running_task (Some h) es = go (is_running_job (option_map (λ (s : StoredScript). s.state) (lookup (bytes_eq h.name) es)) h.number)
  where
    go : (b : Bool) → texts_of (cond b (with_state (bytes_eq h.name) Pending es) es) ≡ texts_of es
    go true = texts-state _ _ es
    go false = refl

texts-without : (n : List ℕ) (es : List ScriptEntry) → texts_of (without_name n es) ≡ filter (λ (p : NamedText). not (bytes_eq n p.0)) (texts_of es)
texts-without n [] = refl
texts-without n (e ∷ es) = go (bytes_eq n e.0) (texts-without n es)
  where
    go : (b : Bool) → texts_of (without_name n es) ≡ filter (λ (p : NamedText). not (bytes_eq n p.0)) (texts_of es)
        → texts_of (cond (not b) (e ∷ without_name n es) (without_name n es)) ≡ cond (not b) ((e.0, e.1.text) ∷ filter (λ (p : NamedText). not (bytes_eq n p.0)) (texts_of es)) (filter (λ (p : NamedText). not (bytes_eq n p.0)) (texts_of es))
    go true f = f
    go false f = ap (λ (x : List NamedText). (e.0, e.1.text) ∷ x) f

texts-edit : (n : List ℕ) (d : LineEdit) (es : List ScriptEntry) → texts_of (with_edit n d es) ≡ map (edited_at n d) (texts_of es)
texts-edit n d [] = refl
texts-edit n d (e ∷ es) = go (bytes_eq n e.0) (texts-edit n d es)
  where
    go : (b : Bool) → texts_of (with_edit n d es) ≡ map (edited_at n d) (texts_of es)
        → named_text (cond b (e.0, record { text = edited e.1.text d; state = Pending }) e) ∷ texts_of (with_edit n d es) ≡ cond b (e.0, edited e.1.text d) (e.0, e.1.text) ∷ map (edited_at n d) (texts_of es)
    go true f = ap (λ (x : List NamedText). (e.0, edited e.1.text d) ∷ x) f
    go false f = ap (λ (x : List NamedText). (e.0, e.1.text) ∷ x) f

-- the texts kept are those of the acts
pub texts-scripts : (opening : Settings) (past : List Act) → texts_of (scripts_of opening past) ≡ texts past
texts-scripts opening [] = refl
texts-scripts opening (Add n t ∷ older) =
    map-append named_text (scripts_of opening older) ((n, record { text = t; state = Pending }) ∷ []) ∙ ap (λ (x : List NamedText). x ++ (n, t) ∷ []) (texts-scripts opening older)
texts-scripts opening (Edit n d ∷ older) = texts-edit n d (scripts_of opening older) ∙ ap (map (edited_at n d)) (texts-scripts opening older)
texts-scripts opening (Remove n ∷ older) = texts-without n (scripts_of opening older) ∙ ap (filter (λ (p : NamedText). not (bytes_eq n p.0))) (texts-scripts opening older)
texts-scripts opening (Set k v ∷ older) = texts-pending (scripts_of opening older) ∙ texts-scripts opening older
texts-scripts opening (Start j n ∷ older) = texts-state (bytes_eq n) (Running j) (scripts_of opening older) ∙ texts-scripts opening older
texts-scripts opening (Finish j r ∷ older) = texts-settle r (job opening older j) (scripts_of opening older) ∙ texts-scripts opening older
texts-scripts opening (Abandon j ∷ older) = texts-make_pending_if_running_task (job opening older j) (scripts_of opening older) ∙ texts-scripts opening older

-- a name is looked up in either
pub lookup-texts : (test : List ℕ → Bool) (es : List ScriptEntry) → lookup test (texts_of es) ≡ option_map (λ (s : StoredScript). s.text) (lookup test es)
lookup-texts test [] = refl
lookup-texts test (e ∷ es) = go (test e.0) (lookup-texts test es)
  where
    go : (b : Bool) → lookup test (texts_of es) ≡ option_map (λ (s : StoredScript). s.text) (lookup test es)
        → cond b (Some e.1.text) (lookup test (texts_of es)) ≡ option_map (λ (s : StoredScript). s.text) (cond b (Some e.1) (lookup test es))
    go true f = refl
    go false f = f

pub lookup-kept : (test : List ℕ → Bool) (opening : Settings) (past : List Act) → lookup test (texts past) ≡ option_map (λ (s : StoredScript). s.text) (lookup test (scripts_of opening past))
lookup-kept test opening past = ap (lookup test) (sym (texts-scripts opening past)) ∙ lookup-texts test (scripts_of opening past)

some_map : {A B : Type 0} (f : A → B) (o : Option A) → is_some (option_map f o) ≡ is_some o
some_map f None = refl
some_map f (Some x) = refl

pub has_script-kept : (n : List ℕ) (opening : Settings) (past : List Act) → has_script past n ≡ is_some (lookup (bytes_eq n) (scripts_of opening past))
has_script-kept n opening past = ap is_some (lookup-kept (bytes_eq n) opening past) ∙ some_map (λ (s : StoredScript). s.text) (lookup (bytes_eq n) (scripts_of opening past))

pub absent-kept : (n : List ℕ) (opening : Settings) (past : List Act) → has_script past n ≡ false → lookup (bytes_eq n) (scripts_of opening past) ≡ None
absent-kept n opening past h = none_from_test (lookup (bytes_eq n) (scripts_of opening past)) (sym (has_script-kept n opening past) ∙ h)

pub bytes_refl : (n : List ℕ) → bytes_eq n n ≡ true
bytes_refl n = (bytes_eq-Decides n n).1 refl

pub bytes_flip : (m n : List ℕ) → bytes_eq m n ≡ false → bytes_eq n m ≡ false
bytes_flip m n h = go (bytes_eq n m) refl
  where
    go : (b : Bool) → bytes_eq n m ≡ b → b ≡ false
    go true e = let yes : bytes_eq m n ≡ true = (bytes_eq-Decides m n).1 (sym ((bytes_eq-Decides n m).0 e)) in absurd cc
    go false e = refl

-- another name than that of x, which is n's
other_name : (m n k : List ℕ) → bytes_eq m n ≡ false → bytes_eq n k ≡ true → bytes_eq m k ≡ false
other_name m n k h e = let same : n ≡ k = (bytes_eq-Decides n k).0 e in ap (bytes_eq m) (sym same) ∙ h

-- an edit is seen under its name alone
pub lookup-edited_other : (m n : List ℕ) (d : LineEdit) (xs : List NamedText) → bytes_eq m n ≡ false → lookup (bytes_eq n) (map (edited_at m d) xs) ≡ lookup (bytes_eq n) xs
lookup-edited_other m n d [] h = refl
lookup-edited_other m n d (x ∷ xs) h = go (bytes_eq m x.0) (bytes_eq n x.0) refl refl (lookup-edited_other m n d xs h)
  where
    go : (b c : Bool) → bytes_eq m x.0 ≡ b → bytes_eq n x.0 ≡ c → lookup (bytes_eq n) (map (edited_at m d) xs) ≡ lookup (bytes_eq n) xs
        → lookup (bytes_eq n) (cond b (x.0, edited x.1 d) x ∷ map (edited_at m d) xs) ≡ cond c (Some x.1) (lookup (bytes_eq n) xs)
    go true true p q f = absurd (let no = other_name m n x.0 h q in cc)
    go true false p q f = rw q f
    go false true p q f = rw q refl
    go false false p q f = rw q f

pub lookup-edited : (n : List ℕ) (d : LineEdit) (xs : List NamedText) → lookup (bytes_eq n) (map (edited_at n d) xs) ≡ option_map (λ (t : List (List ℕ)). edited t d) (lookup (bytes_eq n) xs)
lookup-edited n d [] = refl
lookup-edited n d (x ∷ xs) = go (bytes_eq n x.0) refl (lookup-edited n d xs)
  where
    go : (b : Bool) → bytes_eq n x.0 ≡ b → lookup (bytes_eq n) (map (edited_at n d) xs) ≡ option_map (λ (t : List (List ℕ)). edited t d) (lookup (bytes_eq n) xs)
        → lookup (bytes_eq n) (cond b (x.0, edited x.1 d) x ∷ map (edited_at n d) xs) ≡ option_map (λ (t : List (List ℕ)). edited t d) (cond b (Some x.1) (lookup (bytes_eq n) xs))
    go true p f = rw p refl
    go false p f = rw p f

-- a removal is seen under its name alone
pub lookup-removed_other : (m n : List ℕ) (xs : List NamedText) → bytes_eq m n ≡ false → lookup (bytes_eq n) (filter (λ (p : NamedText). not (bytes_eq m p.0)) xs) ≡ lookup (bytes_eq n) xs
lookup-removed_other m n [] h = refl
lookup-removed_other m n (x ∷ xs) h = go (bytes_eq m x.0) (bytes_eq n x.0) refl refl (lookup-removed_other m n xs h)
  where
    go : (b c : Bool) → bytes_eq m x.0 ≡ b → bytes_eq n x.0 ≡ c → lookup (bytes_eq n) (filter (λ (p : NamedText). not (bytes_eq m p.0)) xs) ≡ lookup (bytes_eq n) xs
        → lookup (bytes_eq n) (cond (not b) (x ∷ filter (λ (p : NamedText). not (bytes_eq m p.0)) xs) (filter (λ (p : NamedText). not (bytes_eq m p.0)) xs)) ≡ cond c (Some x.1) (lookup (bytes_eq n) xs)
    go true true p q f = absurd (let no = other_name m n x.0 h q in cc)
    go true false p q f = f
    go false true p q f = rw q refl
    go false false p q f = rw q f

pub length-kept : (opening : Settings) (past : List Act) → length (texts past) ≡ length (scripts_of opening past)
length-kept opening past = ap length (sym (texts-scripts opening past)) ∙ length-map (scripts_of opening past) named_text
