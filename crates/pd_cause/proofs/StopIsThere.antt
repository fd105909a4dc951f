-- A run whose verdict has a line, with a header that is run, is found to stop there, at one of its events.
use Rattle.std.proofs.Common.{◌≡◌, ◌≢◌, ◌<◌, ℕ, ◌+◌, List, [], ◌∷◌, length, Option, Some, None, Result, Ok, Err, IfOk, refl, sym, subst, ◌∙◌, arith, false}
use Rattle.std.specs.declared.alloc.AllocError.{AllocError}
use Rattle.std.specs.List.{filter_map, last_or}
use Rattle.pd_settings.specs.declared.settings.Settings.{Settings}
use Rattle.pd_script.specs.Header.{HeaderView}
use Rattle.pd_script.specs.Script.{script_of}
use Rattle.pd_script.specs.declared.parsed.Parsed.{Parsed}
use Rattle.pd_script.specs.declared.script_events.Event.{Event}
use Rattle.pd_script.specs.declared.script_header.HeaderItem.{HeaderItem}
use Rattle.pd_reparse.specs.Reading.{reading_of}
use Rattle.pd_host.specs.Host.{fresh_host}
use Rattle.pd_run.specs.Run.{tolerance_in, start_of, verdict_in, verdict_from}
use Rattle.pd_run.specs.Step.{RunStateView, on_step, step}
use Rattle.pd_run.specs.StopPoints.{preview_stop_reason_if_on_line, stop_by, stop_from, stop_in, line_of, VerdictsHaveReasons}
use Rattle.pd_run.specs.StopReason.{verdict_at}
use Rattle.pd_run.specs.declared.stop_point.StopPoint.{StopPoint}
use Rattle.pd_run.specs.declared.verdict.Verdict.{Verdict}
use Rattle.pd_run.specs.declared.verdict.Verdict.TheVariants as verdict
use Rattle.pd_run.specs.declared.stop_reason.StopReason.{StopReason}
use Rattle.pd_cause.specs.Causes.{IsCauseOf}
use Rattle.pd_cause.specs.declared.causes.Cause.{Cause}
use Rattle.pd_cause.specs.Explained.{line_unless_pass, first_unsupported_header_item, StopsAt, HasHistory, IsCauseIn, IsCause}
use Rattle.pd_refusal.specs.Parts.{place_of_event_after_passed}

-- where a stop is found among so many events after n others
abbrev Within : ℕ → ℕ → Option StopPoint → Type 0
Within n more None = Unit {0}
Within n more (Some stop) = stop.passed < n + more

later : (n more : ℕ) (found : Option StopPoint) → Within (n + 1) more found → Within n (more + 1) found
later n more None h = tt
later n more (Some stop) h = omega arith

here : (n more : ℕ) (r : RunStateView) (reason : Option StopReason) (rest : Option StopPoint) → Within n (more + 1) rest
    → Within n (more + 1) (stop_by n r reason rest)
here n more r (Some w) rest h = omega arith
here n more r None rest h = h

onwards : (line n : ℕ) (es : List Event) (came : Result RunStateView Verdict)
    → ((s : RunStateView) → Within (n + 1) (length es) (stop_from line (n + 1) es s))
    → Within n (length es + 1) (on_step (stop_from line (n + 1) es) (λ v. None) came)
onwards line n es (Ok s) each = later n (length es) (stop_from line (n + 1) es s) (each s)
onwards line n es (Err v) each = tt

within : (line n : ℕ) (es : List Event) (r : RunStateView) → Within n (length es) (stop_from line n es r)
within line n [] r = tt
within line n (e ∷ es) r =
    let one_more : length es + 1 ≡ length (e ∷ es) = omega arith in
    subst (λ m. Within n m (stop_from line n (e ∷ es) r)) one_more
    (here n (length es) r (preview_stop_reason_if_on_line line r e) _ (onwards line n es (step r e) (λ s. within line (n + 1) es s)))

-- the run of a header that is run begins
pub starts : (settings : Settings) (items : List HeaderItem) → first_unsupported_header_item items ≡ None → (r : RunStateView) × (start_of items settings ≡ Ok r)
starts settings items h = (
  record {
    host = fresh_host settings;
    clock = 0;
    base = 0;
    header_tolerance = last_or None (filter_map tolerance_in items);
    used_tolerance = false;
  },
  rw h refl,
)

-- a stop among the events that were read, with the verdict of the run
abbrev pub StopsWithin : ℕ → Settings → Parsed → StopPoint → Type 0
StopsWithin line settings parsed stop = (stop.passed < length parsed.events) × (verdict_at line stop.stop_reason ≡ verdict_in settings parsed)

abbrev pub IsThere : ℕ → Settings → Parsed → Type 0
IsThere line settings parsed = (stop : StopPoint) × (stop_in line settings parsed ≡ Some stop) × StopsWithin line settings parsed stop

by_fault : VerdictsHaveReasons → (settings : Settings) (header : HeaderView) (events : List Event) (fault : Option ℕ) (line : ℕ)
    → line_of (verdict_in settings (record { header = header; events = events; fault = fault })) ≡ Some line
    → first_unsupported_header_item header.items ≡ None → IsThere line settings (record { header = header; events = events; fault = fault })
by_fault law settings header events (Some at) line h run = absurd cc
by_fault law settings header events None line h run =
    let start = starts settings header.items run in
    let from : line_of (verdict_from 0 events start.0) ≡ Some line = rw start.1 at h in
    let stop = law 0 line events start.0 from in
    let below : stop.0.passed < 0 + length events = subst (Within 0 (length events)) stop.1 (within line 0 events start.0) in
    (stop.0, rw start.1 stop.1, (omega (arith, below), rw start.1 stop.2))

pub is_there : VerdictsHaveReasons → (settings : Settings) (parsed : Parsed) (line : ℕ)
    → line_of (verdict_in settings parsed) ≡ Some line → first_unsupported_header_item parsed.header.items ≡ None → IsThere line settings parsed
is_there law settings parsed line h run = by_fault law settings parsed.header parsed.events parsed.fault line h run

-- the stop that is found is such a stop
pub stops_within : VerdictsHaveReasons → (settings : Settings) (parsed : Parsed) (line : ℕ) (stop : StopPoint)
    → line_of (verdict_in settings parsed) ≡ Some line → first_unsupported_header_item parsed.header.items ≡ None → stop_in line settings parsed ≡ Some stop
    → StopsWithin line settings parsed stop
stops_within law settings parsed line stop h run found =
    let there = is_there law settings parsed line h run in
    subst (StopsWithin line settings parsed) (some_is (sym there.1 ∙ found)) there.2
  where
    some_is : {a b : StopPoint} → Some a ≡ Some b → a ≡ b
    some_is e = cc

-- the cause of such a stop at an event is that of the run's verdict
pub causes_in : (text : List (List ℕ)) (settings : Settings) (parsed : Parsed) (line : ℕ) (v : Verdict) (stop : StopPoint) (e : Event) (reported : Result Cause AllocError)
    → first_unsupported_header_item parsed.header.items ≡ None → StopsAt line settings parsed v e stop → IfOk reported (λ cause. IsCauseOf text (place_of_event_after_passed (reading_of text) stop.passed) e stop cause × HasHistory settings parsed stop cause)
    → IfOk reported (IsCauseIn text line settings parsed v)
causes_in text settings parsed line v stop e (Ok cause) run at is = rw run (e, stop, at, is.0, is.1)
causes_in text settings parsed line v stop e (Err x) run at is = tt

some_line : {a b : ℕ} → Some a ≡ Some b → a ≡ b
some_line e = cc

-- such a cause is that of the row
of_stop : (text : List (List ℕ)) (settings : Settings) (v : Verdict) (line : ℕ) (reported : Cause)
    → line_of v ≡ Some line → IsCauseIn text line settings (script_of text) v reported → IsCause text settings v reported
of_stop text settings (verdict.Pass n) line reported e is = cc
of_stop text settings (verdict.Syntax l) line reported e is = cc
of_stop text settings (verdict.Fail l kind) line reported e is = subst (λ (n : ℕ). IsCauseIn text n settings (script_of text) (verdict.Fail l kind) reported) (sym (some_line e)) is
of_stop text settings (verdict.Unsupported l) line reported e is = subst (λ (n : ℕ). IsCauseIn text n settings (script_of text) (verdict.Unsupported l) reported) (sym (some_line e)) is
of_stop text settings (verdict.Limit l) line reported e is = subst (λ (n : ℕ). IsCauseIn text n settings (script_of text) (verdict.Limit l) reported) (sym (some_line e)) is

pub causes_of : (text : List (List ℕ)) (settings : Settings) (v : Verdict) (line : ℕ) (reported : Result Cause AllocError)
    → line_of v ≡ Some line → IfOk reported (IsCauseIn text line settings (script_of text) v) → IfOk reported (IsCause text settings v)
causes_of text settings v line (Ok cause) e is = of_stop text settings v line cause e is
causes_of text settings v line (Err x) e is = tt

-- the line of a row that isn't a pass is that of its stop, but where the text is refused
pub at_stop : (v : Verdict) (line : ℕ) → ((l : ℕ) → v ≢ verdict.Syntax l) → line_unless_pass v ≡ Some line → line_of v ≡ Some line
at_stop (verdict.Pass n) line not e = cc
at_stop (verdict.Syntax l) line not e = absurd (not l refl)
at_stop (verdict.Fail l kind) line not e = e
at_stop (verdict.Unsupported l) line not e = e
at_stop (verdict.Limit l) line not e = e
