-- The rows that a book keeps are those that its acts show.
use Rattle.std.proofs.Common.{◌≡◌, ◌+◌, List, [], ◌∷◌, map, Option, Some, None, is_some, is_none, Bool, true, false, cond, ℕ, refl, ap, sym, ◌∙◌, arith}
use Rattle.std.specs.Prelude.{IsSome}
use Rattle.std.specs.List.{AllByRecursion, All, count_by}
use Rattle.std.specs.Map.{values_of}
use Rattle.std.proofs.lemmas.List.Elements.{All-map, All-from_recursion, All-head, All-tail}
use Rattle.std.proofs.lemmas.List.Recursion.{is_count_by}
use Rattle.pd_settings.specs.declared.settings.Settings.{Settings}
use Rattle.pd_run.specs.declared.verdict.Verdict.{Verdict}
use Rattle.pd_run.specs.Run.{verdict_of}
use Rattle.pd_book.specs.declared.act.Act.{Act}
use Rattle.pd_book.specs.declared.report.Row.{Row}
use Rattle.pd_book.specs.declared.stored_script.StoredScript.{StoredScript}
use Rattle.pd_book.specs.declared.stored_script.ScriptState.{ScriptState}
use Rattle.pd_book.specs.declared.stored_script.ScriptState.TheVariants.{Pending, Running, Answered}
use Rattle.pd_book.specs.Acts.{NamedText, texts, now, has_script, answered}
use Rattle.pd_book.specs.Report.{IsRunUnder, row, shown, owed}
use Rattle.pd_book.specs.Headline.{NoneOwedWhenAllAnswered}
use Rattle.pd_book.specs.Legal.{Legal}
use Rattle.pd_book.specs.StoredScripts.{ScriptEntry, verdict_in, kept_row}
use Rattle.pd_book.specs.Replay.{scripts_of}
use Rattle.pd_book.proofs.Faithful.{named_text, texts_of, texts-scripts}
use Rattle.pd_book.proofs.Standing.{Stands, At}
use Rattle.pd_book.proofs.Replayed.{standing}

row_is : (opening : Settings) (past : List Act) (e : ScriptEntry) → Stands opening past e → row opening past (named_text e) ≡ kept_row e
row_is opening past e s = by e.1.state s.1
  where
    here : has_script past e.0 ≡ true
    here = ap is_some s.0

    by : (st : ScriptState) → At opening past e.0 e.1.text st → row opening past (named_text e) ≡ record { name = e.0; text = e.1.text; verdict = verdict_in st }
    by Pending a = rw (here, a.0) refl
    by (Running j) a = rw (here, a.0) refl
    by (Answered v) a = rw (here, a.0) (ap (λ (x : Verdict). record { name = e.0; text = e.1.text; verdict = Some x }) (sym a.2))

rows_are : (opening : Settings) (past : List Act) (es : List ScriptEntry) → AllByRecursion (Stands opening past) es → map (row opening past) (texts_of es) ≡ map kept_row es
rows_are opening past [] a = refl
rows_are opening past (e ∷ es) a = let one = row_is opening past e a.0 in let rest = rows_are opening past es a.1 in cc

-- the rows that are shown are those that are kept
pub rows_kept : (opening : Settings) (past : List Act) → Legal opening past → (shown opening past).rows ≡ map kept_row (scripts_of opening past)
rows_kept opening past l = ap (map (row opening past)) (sym (texts-scripts opening past)) ∙ rows_are opening past (scripts_of opening past) (standing opening past l)

-- each verdict that is shown is a run
pub rows_run : (opening : Settings) (past : List Act) → All (IsRunUnder (now opening past)) (shown opening past).rows
rows_run opening past = All-map (IsRunUnder (now opening past)) (row opening past) (texts past) (All-from_recursion _ (texts past) (each (texts past)))
  where
    one : (p : NamedText) (b : Bool) → answered past p.0 ≡ b → IsRunUnder (now opening past) (record { name = p.0; text = p.1; verdict = cond b (Some (verdict_of p.1 (now opening past))) None })
    one p true q = refl
    one p false q = tt

    each : (ps : List NamedText) → AllByRecursion (λ (p : NamedText). IsRunUnder (now opening past) (row opening past p)) ps
    each [] = tt
    each (p ∷ ps) = (one p (answered past p.0) refl, each ps)

unfoldable pub tally : {X : Type 0} → (X → Bool) → List X → ℕ
tally p [] = 0
tally p (x ∷ xs) = cond (p x) (1 + tally p xs) (tally p xs)

pub tallied : {X : Type 0} (p : X → Bool) (xs : List X) → count_by p xs ≡ tally p xs
unfolding tally
tallied p xs = sym (is_count_by (tally p) p refl (λ y ys. refl) xs)

abbrev pub pending_row : Row → Bool
pending_row r = is_none r.verdict

abbrev pub pending_script : StoredScript → Bool
pending_script s = is_none (verdict_in s.state)

same_tally : (es : List ScriptEntry) → tally pending_row (map kept_row es) ≡ tally pending_script (values_of es)
unfolding tally
same_tally [] = refl
same_tally (e ∷ es) = ap (λ (n : ℕ). cond (is_none (verdict_in e.1.state)) (1 + n) n) (same_tally es)

-- the pending rows are as many as the scripts that are kept without a verdict
pub owed_kept : (opening : Settings) (past : List Act) → Legal opening past → owed opening past ≡ count_by pending_script (values_of (scripts_of opening past))
owed_kept opening past l =
    ap (count_by pending_row) (rows_kept opening past l)
    ∙ (tallied pending_row (map kept_row (scripts_of opening past)) ∙ (same_tally (scripts_of opening past) ∙ sym (tallied pending_script (values_of (scripts_of opening past)))))

zero_all : (rows : List Row) → tally pending_row rows ≡ 0 → AllByRecursion (λ (r : Row). IsSome r.verdict) rows
unfolding tally
zero_all [] h = tt
zero_all (r ∷ rows) h = go r.verdict refl h (zero_all rows)
  where
    go : (v : Option Verdict) → r.verdict ≡ v → cond (is_none v) (1 + tally pending_row rows) (tally pending_row rows) ≡ 0
        → (tally pending_row rows ≡ 0 → AllByRecursion (λ (x : Row). IsSome x.verdict) rows) → AllByRecursion (λ (x : Row). IsSome x.verdict) (r ∷ rows)
    go None e k f = absurd (omega (arith, k))
    go (Some v) e k f = (ap is_some e, f k)

all_zero : (rows : List Row) → AllByRecursion (λ (r : Row). IsSome r.verdict) rows → tally pending_row rows ≡ 0
unfolding tally
all_zero [] a = refl
all_zero (r ∷ rows) a = go r.verdict a.0 (all_zero rows a.1)
  where
    go : (v : Option Verdict) → is_some v ≡ true → tally pending_row rows ≡ 0 → cond (is_none v) (1 + tally pending_row rows) (tally pending_row rows) ≡ 0
    go None e k = absurd cc
    go (Some v) e k = k

by_recursion : {A : Type 0} (P : A → Type 0) (xs : List A) → All P xs → AllByRecursion P xs
by_recursion P [] h = tt
by_recursion P (x ∷ xs) h = (All-head P x xs h, by_recursion P xs (All-tail P x xs h))

-- none is owed exactly when each row has a verdict
pub none_pending : (opening : Settings) (past : List Act) → NoneOwedWhenAllAnswered opening past (shown opening past)
none_pending opening past =
    let rows : List Row = (shown opening past).rows in
    let is : owed opening past ≡ tally pending_row rows = tallied pending_row rows in (
      λ h. All-from_recursion (λ (r : Row). IsSome r.verdict) rows (zero_all rows (sym is ∙ h)),
      λ a. is ∙ all_zero rows (by_recursion (λ (r : Row). IsSome r.verdict) rows a),
    )
