-- The lines on which events stand don't matter to a run that goes on.
use Rattle.std.proofs.Common.{◌≡◌, ℕ, suc, ◌+◌, Bool, false, Option, Some, None, is_none, List, [], ◌∷◌, find, length, Result, Ok, Err, refl, sym, ap, subst, ◌∙◌, arith}
use Rattle.std.specs.List.{filter_map, last_or, cons_option}
use Rattle.pd_settings.specs.declared.settings.Settings.{Settings}
use Rattle.pd_script.specs.Script.{script_of}
use Rattle.pd_script.specs.declared.parsed.Parsed.{Parsed}
use Rattle.pd_script.specs.declared.script_events.Event.{Event}
use Rattle.pd_script.specs.declared.script_header.HeaderItem.{HeaderItem}
use Rattle.pd_host.specs.Host.{fresh_host}
use Rattle.pd_run.specs.Run.{tolerance_written, tolerance_in, start_of, verdict_in, verdict_of, verdict_from}
use Rattle.pd_run.specs.RunStates.{RunStateView}
use Rattle.pd_run.specs.Step.{precheck_then_perform_event_and_find_stop, at_line, step}
use Rattle.pd_run.specs.declared.verdict.Verdict.{Verdict}
use Rattle.pd_run.specs.declared.verdict.Verdict.TheVariants.{Pass, Unsupported}
use Rattle.pd_record.specs.Recording.{RecordedScriptView, recorded_script_of, events_of}
use Rattle.pd_layout.specs.ReadAs.{without_line, AreSameEvents, kinds_of, IsReadAs}
use Rattle.pd_run.proofs.Bounds.{goes}
use Rattle.pd_record.proofs.Passing.{Through, passes, recording_goes}

-- how an event ends doesn't depend on its line
stepping : (r s : RunStateView) (e : Event) (line : ℕ) → step r e ≡ Ok s → step r (record e { line = line }) ≡ Ok s
stepping r s e line h = ap (at_line line) (goes e.line (precheck_then_perform_event_and_find_stop r e) s h)

-- a step goes on at any line
pub step_unplaced : (r s : RunStateView) (d e : Event) → without_line d ≡ without_line e → step r d ≡ Ok s → step r e ≡ Ok s
step_unplaced r s d e same h =
    stepping r s (without_line e) e.line (subst (λ (x : Event). step r x ≡ Ok s) same (stepping r s d 0 h))

-- and so does a run
pub through_unplaced : (ds es : List Event) (r s : RunStateView) → AreSameEvents ds es → Through ds r s → Through es r s
through_unplaced [] [] r s same h = h
through_unplaced [] (e ∷ es) r s same h = absurd cc
through_unplaced (d ∷ ds) [] r s same h = absurd cc
through_unplaced (d ∷ ds) (e ∷ es) r s same h =
    let first : without_line d ≡ without_line e = cc in
    let rest : AreSameEvents ds es = cc in
    (h.0, step_unplaced r h.0 d e first h.1, through_unplaced ds es h.0 s rest h.2)

pub as_many : (ds es : List Event) → AreSameEvents ds es → length ds ≡ length es
as_many [] [] same = refl
as_many [] (e ∷ es) same = absurd cc
as_many (d ∷ ds) [] same = absurd cc
as_many (d ∷ ds) (e ∷ es) same =
    let rest : AreSameEvents ds es = cc in
    ap (λ (n : ℕ). suc n) (as_many ds es rest)

-- ---- headers

abbrev refused : HeaderItem → Bool
refused item = is_none (tolerance_in item)

passed_over : (item : HeaderItem) (rest : List HeaderItem) (m : ℕ) → tolerance_in item ≡ Some m → find refused (item ∷ rest) ≡ find refused rest
passed_over item rest m is = rw is refl

none_refused : (xs ys : List HeaderItem) → kinds_of xs ≡ kinds_of ys → find refused xs ≡ None → find refused ys ≡ None
none_refused [] [] same h = refl
none_refused [] (y ∷ ys) same h = absurd cc
none_refused (x ∷ xs) [] same h = absurd cc
none_refused (x ∷ xs) (y ∷ ys) same h =
    let kind : y.kind ≡ x.kind = cc in
    let rest : kinds_of xs ≡ kinds_of ys = cc in
    go (none_refused xs ys rest) kind (tolerance_in x) refl
  where
    go : (find refused xs ≡ None → find refused ys ≡ None) → y.kind ≡ x.kind → (o : Option ℕ) → tolerance_in x ≡ o → find refused (y ∷ ys) ≡ None
    go more kind None is = absurd (let found : find refused (x ∷ xs) ≡ Some x = rw is refl in cc)
    go more kind (Some m) is = passed_over y ys m (ap tolerance_written kind ∙ is) ∙ more (sym (passed_over x xs m is) ∙ h)

same_written : (xs ys : List HeaderItem) → kinds_of xs ≡ kinds_of ys → filter_map tolerance_in xs ≡ filter_map tolerance_in ys
same_written [] [] same = refl
same_written [] (y ∷ ys) same = absurd cc
same_written (x ∷ xs) [] same = absurd cc
same_written (x ∷ xs) (y ∷ ys) same =
    let kind : x.kind ≡ y.kind = cc in
    let rest : kinds_of xs ≡ kinds_of ys = cc in
    ap (λ (o : Option ℕ). cons_option o (filter_map tolerance_in xs)) (ap tolerance_written kind)
    ∙ ap (cons_option (tolerance_in y)) (same_written xs ys rest)

abbrev begun_with : Settings → Option ℕ → Result RunStateView Verdict
begun_with settings header_tolerance = Ok (record { host = fresh_host settings; clock = 0; base = 0; header_tolerance = header_tolerance; used_tolerance = false })

begins : (xs : List HeaderItem) (settings : Settings) → find refused xs ≡ None → start_of xs settings ≡ begun_with settings (last_or None (filter_map tolerance_in xs))
begins xs settings h = rw h refl

none_found : (xs : List HeaderItem) (settings : Settings) (r : RunStateView) → start_of xs settings ≡ Ok r → find refused xs ≡ None
none_found xs settings r h = go (find refused xs) refl
  where
    go : (o : Option HeaderItem) → find refused xs ≡ o → find refused xs ≡ None
    go None is = is
    go (Some item) is = absurd (let stops : start_of xs settings ≡ Err (Unsupported item.line) = rw is refl in cc)

-- headers with the same items begin the same run
pub same_start : (xs ys : List HeaderItem) (settings : Settings) (r : RunStateView) → kinds_of xs ≡ kinds_of ys → start_of xs settings ≡ Ok r → start_of ys settings ≡ Ok r
same_start xs ys settings r same h =
    let none : find refused xs ≡ None = none_found xs settings r h in
    begins ys settings (none_refused xs ys same none)
    ∙ (ap (λ (list : List ℕ). begun_with settings (last_or None list)) (sym (same_written xs ys same)) ∙ (sym (begins xs settings none) ∙ h))

-- ---- whole texts

pub verdict_begun : (settings : Settings) (p : Parsed) (r : RunStateView) → p.fault ≡ None → start_of p.header.items settings ≡ Ok r
    → verdict_in settings p ≡ verdict_from 0 p.events r
verdict_begun settings p r fault start = rw (fault, start) refl

-- a text that is read as what was recorded passes
pub passes_as_read : (header : List HeaderItem) (events : List Event) (settings : Settings) (recorded_script : RecordedScriptView) (text : List (List ℕ))
    → recorded_script_of header events settings ≡ Ok recorded_script → IsReadAs header (events_of recorded_script) text
    → verdict_of text settings ≡ Pass (length (events_of recorded_script))
passes_as_read header events settings recorded_script text h read =
    let went = recording_goes header events settings recorded_script h in
    let p : Parsed = script_of text in
    let start : start_of p.header.items settings ≡ Ok went.0 = same_start header p.header.items settings went.0 (sym read.header) went.2 in
    let through : Through p.events went.0 went.1 = through_unplaced (events_of recorded_script) p.events went.0 went.1 (sym read.events) went.3 in
    let many : length p.events ≡ length (events_of recorded_script) = as_many p.events (events_of recorded_script) read.events in
    let count : 0 + length p.events ≡ length (events_of recorded_script) = omega (arith, many) in
    verdict_begun settings p went.0 read.whole start ∙ (passes 0 p.events went.0 went.1 through ∙ ap (λ (n : ℕ). Pass n) count)
