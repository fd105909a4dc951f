-- A run that is taken up, and traced to where it stops.
use Rattle.std.proofs.Common.{◌≡◌, ℕ, ◌+◌, ◌<◌, ◌≤◌, ◌==◌, nat_le, Bool, true, false, if◌then◌else◌, List, [], ◌∷◌, length, drop, take, slice_get, get_or, Option, Some, None, option_map, Result, Ok, Err, refl, sym, ap, ◌∙◌, arith}
use Rattle.std.proofs.lemmas.Bool.{le-leb}
use Rattle.std.proofs.lemmas.List.{drop_more}
use Rattle.std.proofs.lemmas.Option.{slice_get_read, slice_get-map, slice_get_within, get_or_from_slice_get}
use Rattle.pd_settings.specs.declared.settings.Settings.{Settings}
use Rattle.pd_script.specs.declared.parsed.Parsed.{Parsed}
use Rattle.pd_script.specs.declared.script_events.Event.{Event}
use Rattle.pd_script.specs.declared.script_header.HeaderItem.{HeaderItem}
use Rattle.pd_reparse.specs.Reading.{events_of}
use Rattle.pd_reparse.specs.declared.parsed_event.ParsedEvent.{ParsedEvent}
use Rattle.pd_run.specs.Laws.{unmatched, StartsUnderway}
use Rattle.pd_run.specs.Run.{start_of}
use Rattle.pd_run.specs.Step.{RunStateView, on_step, step}
use Rattle.pd_run.specs.StopPoints.{preview_stop_reason_if_on_line, stop_from}
use Rattle.pd_run.specs.StopReason.{stop_reason}
use Rattle.pd_run.specs.declared.verdict.Verdict.{Verdict}
use Rattle.pd_run.specs.declared.stop_reason.StopReason.{StopReason}
use Rattle.pd_cause.specs.Explained.{first_unsupported_header_item}
use Rattle.pd_cause.specs.Inner.{IsResumed, AreTriggers}
use Rattle.pd_cause.specs.Origins.{taken_by}
use Rattle.pd_cause.specs.declared.origins.Trigger.{Trigger}
use Rattle.pd_cause.proofs.ResumedRun.{stop_begun}

-- the event at a place of those that were read
pub event_at : (ds : List ParsedEvent) (n : ℕ) (d : ParsedEvent) → n < length ds → d ≡ get_or ds n d → slice_get (events_of ds) n ≡ Some d.event
event_at ds n d within is =
    slice_get-map (λ (each : ParsedEvent). each.event) ds n
    ∙ ap (λ o. option_map (λ (each : ParsedEvent). each.event) o) (slice_get_read ds (length ds) n d refl within is)

-- it is the first of those that are left
pub left_from : {A : Type 0} → (xs : List A) (n : ℕ) (x : A) → slice_get xs n ≡ Some x → drop n xs ≡ x ∷ drop (n + 1) xs
left_from {A} xs n x h =
    drop_more xs n x (slice_get_within xs n x h)
    ∙ ap (λ (y : A). y ∷ drop (n + 1) xs) (get_or_from_slice_get xs n x x h)

-- the run of a header that is run is taken up at its start
pub begun : StartsUnderway → (settings : Settings) (p : Parsed) (r : RunStateView) → start_of p.header.items settings ≡ Ok r → IsResumed settings p 0 r
begun law settings p r h = record {
  underway = law p.header.items settings r h;
  stage = rw h refl;
  stops = λ line. stop_begun settings p r line h;
}

pub begun_at : StartsUnderway → (settings : Settings) (p : Parsed) (r : RunStateView) (came : Result RunStateView Verdict) → came ≡ start_of p.header.items settings
    → came ≡ Ok r → IsResumed settings p 0 r
begun_at law settings p r came is ok = begun law settings p r (sym is ∙ ok)

-- and has put nothing out
pub fresh : (settings : Settings) (items : List HeaderItem) (r : RunStateView) → start_of items settings ≡ Ok r → unmatched r ≡ []
fresh settings items r h = go (first_unsupported_header_item items) refl
  where
    go : (o : Option HeaderItem) → first_unsupported_header_item items ≡ o → unmatched r ≡ []
    go (Some item) is = absurd (let bad = rw is at h in cc)
    go None is = let good = rw is at h in sym (ap (on_step unmatched (λ (v : Verdict). unmatched r)) good)

-- nobody is known before the first event that is run
pub none_known : (settings : Settings) (p : Parsed) (n : ℕ) (r : RunStateView)
    → AreTriggers settings p (taken_by (take n p.events) + length (unmatched r)) n (length (unmatched r)) []
none_known settings p n r = record { counted = omega arith; each = λ place trigger h. absurd cc }

-- a reason on a line is a reason
pub reason_is : (line : ℕ) (r : RunStateView) (e : Event) (w : StopReason) → preview_stop_reason_if_on_line line r e ≡ Some w → stop_reason r e ≡ Some w
reason_is line r e w h = by (e.line == line) h
  where
    by : (b : Bool) → (if b then stop_reason r e else None) ≡ Some w → stop_reason r e ≡ Some w
    by true h = h
    by false h = absurd cc

-- where the next event has a reason the run stops at it
pub stops_here : (line n : ℕ) (es rest : List Event) (r : RunStateView) (e : Event) (w : StopReason) → es ≡ e ∷ rest → preview_stop_reason_if_on_line line r e ≡ Some w
    → stop_from line n es r ≡ Some (record { passed = n; before = r; stop_reason = w })
stops_here line n es rest r e w split h = rw (split, h) refl

-- where it stops without a reason on the line, none is found
pub stops_elsewhere : (line n : ℕ) (es rest : List Event) (r : RunStateView) (e : Event) (v : Verdict) → es ≡ e ∷ rest → preview_stop_reason_if_on_line line r e ≡ None
    → step r e ≡ Err v → stop_from line n es r ≡ None
stops_elsewhere line n es rest r e v split h stops = rw (split, h, stops) refl

pub all_left : (line n : ℕ) (es : List Event) (r : RunStateView) → es ≡ [] → stop_from line n es r ≡ None
all_left line n es r none = rw none refl

-- all are known from the first event on
pub all_known : (settings : Settings) (p : Parsed) (passed packets : ℕ) (triggers : List Trigger) → AreTriggers settings p 0 passed packets triggers
    → nat_le packets (length triggers) ≡ true
all_known settings p passed packets triggers known =
    let enough : packets ≤ length triggers = omega (arith, known.counted) in
    le-leb packets (length triggers) enough
