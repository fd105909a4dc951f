-- Which segments checks have dropped, one event after the other.
use Rattle.std.proofs.Common.{◌≡◌, ℕ, zero, suc, ◌+◌, ◌-◌, ◌<◌, ◌≤◌, ◌==◌, nat_le, Bool, true, false, ◌||◌, List, [], ◌∷◌, ◌++◌, length, map, take, drop, slice_get, get_or, Option, Some, None, option_map, Result, Ok, Err, refl, sym, ap, subst, ◌∙◌, arith}
use Rattle.std.specs.List.{zip, filter_map}
use Rattle.std.proofs.lemmas.Bool.{leb-true}
use Rattle.std.proofs.lemmas.Bool.Decides.{nat_tests}
use Rattle.std.proofs.lemmas.List.{take_more, drop_all, drop-append-le, length-take, length-take-le, length-drop, length-map}
use Rattle.std.proofs.lemmas.List.Elements.{filter_map-append}
use Rattle.std.proofs.lemmas.Option.{slice_get_within, slice_get-map, get_or_from_slice_get}
use Rattle.pd_settings.specs.declared.settings.Settings.{Settings}
use Rattle.pd_script.specs.declared.parsed.Parsed.{Parsed}
use Rattle.pd_script.specs.declared.script_events.Event.{Event}
use Rattle.pd_run.specs.Run.{start_of, states_from}
use Rattle.pd_run.specs.Step.{RunStateView, on_step, step}
use Rattle.pd_run.specs.StopPoints.{preview_stop_reason_if_on_line, stop_by, stop_from, stop_in}
use Rattle.pd_run.specs.declared.stop_point.StopPoint.{StopPoint}
use Rattle.pd_run.specs.declared.verdict.Verdict.{Verdict}
use Rattle.pd_run.specs.declared.stop_reason.StopReason.{StopReason}
use Rattle.pd_cause.specs.Dropped.{dropped_in_event, dropped_in, dropped_before, last, last_dropped_segments_of_last_events}
use Rattle.pd_cause.specs.Inner.{Reaches}
use Rattle.pd_cause.specs.Origins.{stages}
use Rattle.pd_cause.specs.declared.dropped.DroppedSegment.{DroppedSegment}
use Rattle.pd_cause.proofs.ResumedRun.{stop_begun}

-- Lists

zip_at : {A B : Type 0} → (xs : List A) (ys : List B) (n : ℕ) (x : A) (y : B) → slice_get xs n ≡ Some x → slice_get ys n ≡ Some y
    → slice_get (zip xs ys) n ≡ Some (x, y)
zip_at [] ys n x y h k = absurd cc
zip_at (a ∷ xs) [] n x y h k = absurd cc
zip_at (a ∷ xs) (b ∷ ys) zero x y h k = cc
zip_at (a ∷ xs) (b ∷ ys) (suc n) x y h k = zip_at xs ys n x y h k

zip_within : {A B : Type 0} → (xs : List A) (ys : List B) (n : ℕ) → n ≤ length xs → n ≤ length ys → n ≤ length (zip xs ys)
zip_within xs ys zero h k = omega arith
zip_within [] ys (suc n) h k = absurd (omega (arith, h))
zip_within (a ∷ xs) [] (suc n) h k = absurd (omega (arith, k))
zip_within (a ∷ xs) (b ∷ ys) (suc n) h k =
    let less : n ≤ length (zip xs ys) = zip_within xs ys n (omega (arith, h)) (omega (arith, k)) in
    omega (arith, less)

drop_drop : {A : Type 0} → (m n : ℕ) (xs : List A) → drop m (drop n xs) ≡ drop (n + m) xs
drop_drop m zero xs = let same : 0 + m ≡ m = omega arith in ap (λ k. drop k xs) (sym same)
drop_drop m (suc n) [] = drop_all m [] (omega arith) ∙ sym (drop_all (suc n + m) [] (omega arith))
drop_drop m (suc n) (x ∷ xs) =
    let same : suc (n + m) ≡ suc n + m = omega arith in
    drop_drop m n xs ∙ ap (λ k. drop k (x ∷ xs)) same

-- the last ones are the same without some of those before them
last_left : {A : Type 0} → (n b : ℕ) (xs : List A) → b + n ≤ length xs → last n (drop b xs) ≡ last n xs
last_left n b xs h =
    let count : b + (length (drop b xs) - n) ≡ length xs - n = omega (arith, h, length-drop b xs) in
    drop_drop (length (drop b xs) - n) b xs ∙ ap (λ k. drop k xs) count

-- One more event

-- of each event of a script
abbrev whole : Settings → Parsed → List (Option DroppedSegment)
whole settings p = map (λ at. dropped_in_event at.0 at.1) (zip (stages settings p) p.events)

at_place : (settings : Settings) (p : Parsed) (n : ℕ) (r : RunStateView) (e : Event) → slice_get (stages settings p) n ≡ Some r
    → slice_get p.events n ≡ Some e → slice_get (whole settings p) n ≡ Some (dropped_in_event r e)
at_place settings p n r e stage found =
    slice_get-map (λ at. dropped_in_event at.0 at.1) (zip (stages settings p) p.events) n
    ∙ ap (λ o. option_map (λ at. dropped_in_event at.0 at.1) o) (zip_at (stages settings p) p.events n r e stage found)

pub noted_more : (settings : Settings) (p : Parsed) (begun n : ℕ) (r : RunStateView) (e : Event) → begun ≤ n → slice_get (stages settings p) n ≡ Some r
    → slice_get p.events n ≡ Some e → drop begun (dropped_in settings p (n + 1)) ≡ drop begun (dropped_in settings p n) ++ dropped_in_event r e ∷ []
noted_more settings p begun n r e from stage found =
    let each : List (Option DroppedSegment) = whole settings p in
    let there : slice_get each n ≡ Some (dropped_in_event r e) = at_place settings p n r e stage found in
    let within : n < length each = slice_get_within each n (dropped_in_event r e) there in
    let more : take (n + 1) each ≡ take n each ++ dropped_in_event r e ∷ [] =
    take_more each n (dropped_in_event r e) within ∙ ap (λ y. take n each ++ y ∷ []) (get_or_from_slice_get each n (dropped_in_event r e) (dropped_in_event r e) there) in
    let long : begun ≤ length (take n each) = omega (arith, from, within, length-take-le n each (omega (arith, within))) in
    ap (drop begun) more ∙ drop-append-le begun (take n each) (dropped_in_event r e ∷ []) long

pub noted_none : (settings : Settings) (p : Parsed) (begun : ℕ) → [] ≡ drop begun (dropped_in settings p begun)
noted_none settings p begun =
    let each : List (Option DroppedSegment) = whole settings p in
    sym (drop_all begun (take begun each) (omega (arith, length-take begun each)))

-- The segments that are reported

pub filtered_more : {A : Type 0} → (xs : List (Option A)) (n : ℕ) (d : Option A) → n < length xs
    → filter_map (λ it. it) (take (n + 1) xs) ≡ filter_map (λ it. it) (take n xs) ++ filter_map (λ it. it) (get_or xs n d ∷ [])
filtered_more xs n d h =
    ap (filter_map (λ it. it)) (take_more xs n d h) ∙ filter_map-append (λ it. it) (take n xs) (get_or xs n d ∷ [])

-- a run that is taken up so early is so before the event
pub begins : (begun passed : ℕ) → ((begun == 0) || nat_le (begun + 16) passed) ≡ true → begun ≤ passed
begins begun passed h = by (begun == 0) refl h
  where
    by : (none : Bool) → (begun == 0) ≡ none → (none || nat_le (begun + 16) passed) ≡ true → begun ≤ passed
    by true is h = let zeroth : begun ≡ 0 = grind (arith, nat_tests) in omega (arith, zeroth)
    by false is h = let far : begun + 16 ≤ passed = leb-true (begun + 16) passed h in omega (arith, far)

pub told_left : (settings : Settings) (p : Parsed) (begun passed : ℕ) → Reaches settings p passed → ((begun == 0) || nat_le (begun + 16) passed) ≡ true
    → last_dropped_segments_of_last_events (drop begun (dropped_in settings p passed)) ≡ dropped_before settings p passed
told_left settings p begun passed reached early = by begun (begun == 0) refl early
  where
    all : length (dropped_in settings p passed) ≡ passed
    all =
        let stage : passed < length (stages settings p) = slice_get_within (stages settings p) passed reached.run reached.stage in
        let zipped : passed ≤ length (zip (stages settings p) p.events) = zip_within (stages settings p) p.events passed (omega (arith, stage)) reached.within in
        length-take-le passed (whole settings p)
        (omega (arith, zipped, length-map (zip (stages settings p) p.events) (λ (at : RunStateView × Event). dropped_in_event at.0 at.1)))

    by : (b : ℕ) (none : Bool) → (b == 0) ≡ none → ((b == 0) || nat_le (b + 16) passed) ≡ true
        → last_dropped_segments_of_last_events (drop b (dropped_in settings p passed)) ≡ dropped_before settings p passed
    by b true is h =
        let zeroth : b ≡ 0 = grind (arith, nat_tests) in
        ap (λ (k : ℕ). last_dropped_segments_of_last_events (drop k (dropped_in settings p passed))) zeroth
    by b false is h =
        let far : nat_le (b + 16) passed ≡ true = let h' = rw is at h in h' in
        let enough : b + 16 ≤ length (dropped_in settings p passed) = omega (arith, all, leb-true (b + 16) passed far) in
        ap (λ (xs : List (Option DroppedSegment)). last 4 (filter_map (λ it. it) xs)) (last_left 16 b (dropped_in settings p passed) enough)

-- How far a run gets

-- after an event that stops it there is no stage
end_reason : (es : List Event) (r s : RunStateView) (e : Event) (v : Verdict) (n m : ℕ) → slice_get (r ∷ states_from es r) n ≡ Some s → slice_get es n ≡ Some e
    → step s e ≡ Err v → slice_get (r ∷ states_from es r) (suc (n + m)) ≡ None
end_reason [] r s e v n m there found stops = absurd cc
end_reason (d ∷ es) r s e v zero m there found stops =
    let same : step r d ≡ Err v = cc in
    let none : slice_get (r ∷ states_from (d ∷ es) r) (suc m) ≡ None = rw same refl in
    let place : suc m ≡ suc (0 + m) = omega arith in
    subst (λ (k : ℕ). slice_get (r ∷ states_from (d ∷ es) r) k ≡ None) place none
end_reason (d ∷ es) r s e v (suc n) m there found stops = go (λ t h. end_reason es t s e v n m h found stops) (step r d) there
  where
    go : ((t : RunStateView) → slice_get (t ∷ states_from es t) n ≡ Some s → slice_get (t ∷ states_from es t) (suc (n + m)) ≡ None)
        → (came : Result RunStateView Verdict) → slice_get (on_step (λ t. t ∷ states_from es t) (λ w. []) came) n ≡ Some s
        → slice_get (r ∷ on_step (λ t. t ∷ states_from es t) (λ w. []) came) (suc (suc n + m)) ≡ None
    go ih (Ok t) h =
        let place : suc (n + m) ≡ suc n + m = omega arith in
        subst (λ (k : ℕ). slice_get (t ∷ states_from es t) k ≡ None) place (ih t h)
    go ih (Err w) h = absurd cc

pub goes_on : (settings : Settings) (p : Parsed) (n passed : ℕ) (s : RunStateView) (e : Event) (v : Verdict) → Reaches settings p passed
    → slice_get (stages settings p) n ≡ Some s → slice_get p.events n ≡ Some e → n < passed → step s e ≡ Err v → true ≡ false
goes_on settings p n passed s e v reached stage found less stops = by (start_of p.header.items settings) stage reached.stage
  where
    by : (came : Result RunStateView Verdict) → slice_get (on_step (λ r. r ∷ states_from p.events r) (λ w. []) came) n ≡ Some s
        → slice_get (on_step (λ r. r ∷ states_from p.events r) (λ w. []) came) passed ≡ Some reached.run → true ≡ false
    by (Ok r) there further =
        let place : suc (n + (passed - n - 1)) ≡ passed = omega (arith, less) in
        let none : slice_get (r ∷ states_from p.events r) passed ≡ None =
        subst (λ (k : ℕ). slice_get (r ∷ states_from p.events r) k ≡ None) place (end_reason p.events r s e v n (passed - n - 1) there found stops) in
        cc
    by (Err w) there further = absurd cc

-- a run gets to where it stops
staged_from : (line n : ℕ) (es : List Event) (r : RunStateView) (stop : StopPoint) → stop_from line n es r ≡ Some stop
    → (m : ℕ) × (stop.passed ≡ n + m) × (slice_get (r ∷ states_from es r) m ≡ Some stop.before)
staged_from line n [] r stop h = absurd cc
staged_from line n (e ∷ es) r stop h = by (λ s is. staged_from line (n + 1) es s stop is) (preview_stop_reason_if_on_line line r e) (step r e) h
  where
    by : ((s : RunStateView) → stop_from line (n + 1) es s ≡ Some stop
        → (m : ℕ) × (stop.passed ≡ n + 1 + m) × (slice_get (s ∷ states_from es s) m ≡ Some stop.before))
        → (reason : Option StopReason) (came : Result RunStateView Verdict) → stop_by n r reason (on_step (stop_from line (n + 1) es) (λ v. None) came) ≡ Some stop
        → (m : ℕ) × (stop.passed ≡ n + m) × (slice_get (r ∷ on_step (λ s. s ∷ states_from es s) (λ v. []) came) m ≡ Some stop.before)
    by ih (Some w) came is =
        let same : record { passed = n; before = r; stop_reason = w } ≡ stop = cc in
        let passed : n ≡ stop.passed = ap (λ (s : StopPoint). s.passed) same in
        let before : r ≡ stop.before = ap (λ (s : StopPoint). s.before) same in
        (0, omega (arith, passed), ap (λ (q : RunStateView). Some q) before)
    by ih None (Ok s) is =
        let further = ih s is in
        (suc further.0, omega (arith, further.1), further.2)
    by ih None (Err v) is = absurd cc

pub staged_stop : (settings : Settings) (p : Parsed) (line : ℕ) (stop : StopPoint) → stop_in line settings p ≡ Some stop → stop.passed < length p.events
    → Reaches settings p stop.passed
staged_stop settings p line stop found less = record {
  run = stop.before;
  stage = by (start_of p.header.items settings) refl;
  within = omega (arith, less);
}
  where
    by : (came : Result RunStateView Verdict) → start_of p.header.items settings ≡ came → slice_get (stages settings p) stop.passed ≡ Some stop.before
    by (Ok r) is =
        let got = staged_from line 0 p.events r stop (sym (stop_begun settings p r line is) ∙ found) in
        let place : got.0 ≡ stop.passed = omega (arith, got.1) in
        let there : slice_get (r ∷ states_from p.events r) stop.passed ≡ Some stop.before =
        subst (λ (k : ℕ). slice_get (r ∷ states_from p.events r) k ≡ Some stop.before) place got.2 in
        rw is there
    by (Err v) is = absurd (let bad = rw is at found in cc)
