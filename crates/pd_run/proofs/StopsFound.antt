-- A run that stops at a line is found to stop there, by a reason with its verdict.
use Rattle.std.proofs.Common.{◌≡◌, ℕ, ◌+◌, ◌==◌, Bool, true, false, if◌then◌else◌, List, [], ◌∷◌, Option, Some, None, option_map, Result, Ok, Err, refl, sym, ap, subst, ◌∙◌}
use Rattle.pd_host.specs.declared.halts.Halt.TheVariants as halt
use Rattle.pd_script.specs.declared.script_events.Event.{Event}
use Rattle.pd_run.specs.Run.{verdict_from}
use Rattle.pd_run.specs.Step.{RunStateView, on_step, step}
use Rattle.pd_run.specs.StopPoints.{preview_stop_reason_if_on_line, stop_by, stop_from, line_of, VerdictsHaveReasons}
use Rattle.pd_run.specs.StopReason.{stop_reason, verdict_at, verdict_by_step, ReasonsGiveVerdicts}
use Rattle.pd_run.specs.declared.prechecks.Precheck.TheVariants.{OverLimit, NotRun, Backwards}
use Rattle.pd_run.specs.declared.stop_point.StopPoint.{StopPoint}
use Rattle.pd_run.specs.declared.verdict.Verdict.{Verdict}
use Rattle.pd_run.specs.declared.stop_reason.StopReason.{StopReason}
use Rattle.pd_run.specs.declared.stop_reason.StopReason.TheVariants.{FailedPrecheck, Halted, Missing, Differs, Answered}
use Rattle.std.proofs.lemmas.Bool.Decides.{Decides-eqb}

-- what is found, and its verdict
abbrev Found : ℕ → Option StopPoint → Verdict → Type 0
Found line found v = (stop : StopPoint) × (found ≡ Some stop) × (verdict_at line stop.stop_reason ≡ v)

-- the verdict of a reason at a line has that line
lined : (line : ℕ) (reason : StopReason) → line_of (verdict_at line reason) ≡ Some line
lined line (FailedPrecheck OverLimit) = refl
lined line (FailedPrecheck NotRun) = refl
lined line (FailedPrecheck Backwards) = refl
lined line (Halted halt.Unsupported) = refl
lined line (Halted halt.Limit) = refl
lined line Missing = refl
lined line (Differs k sent r) = refl
lined line (Answered answer r) = refl

-- an event with no reason, or on another line, is passed over
none_on : (b : Bool) (reason : Option StopReason) → reason ≡ None → (if b then reason else None) ≡ None
none_on true reason h = h
none_on false reason h = refl

passed_over : (line n : ℕ) (r : RunStateView) (reason : Option StopReason) (rest : Option StopPoint) (v : Verdict)
    → reason ≡ None → Found line rest v → Found line (stop_by n r reason rest) v
passed_over line n r None rest v h found = found
passed_over line n r (Some w) rest v h found = absurd cc

no_reason : (line : ℕ) (reason : Option StopReason) → option_map (verdict_at line) reason ≡ None → reason ≡ None
no_reason line None h = refl
no_reason line (Some w) h = absurd cc

-- no reason stops an event that goes on, on whatever line
pub silent : ReasonsGiveVerdicts → (line : ℕ) (r s : RunStateView) (e : Event) → step r e ≡ Ok s → preview_stop_reason_if_on_line line r e ≡ None
silent law line r s e is = none_on (e.line == line) (stop_reason r e) (no_reason e.line (stop_reason r e) (law r e ∙ ap verdict_by_step is))

-- the event that stops the run on its line
stopping : (line n : ℕ) (r : RunStateView) (reason : Option StopReason) (rest : Option StopPoint) (v : Verdict)
    → option_map (verdict_at line) reason ≡ Some v → Found line (stop_by n r reason rest) v
stopping line n r None rest v h = absurd cc
stopping line n r (Some w) rest v h = (record { passed = n; before = r; stop_reason = w }, refl, some_is h)
  where
    some_is : {a b : Verdict} → Some a ≡ Some b → a ≡ b
    some_is h = cc

same_line : (line at : ℕ) (reason : Option StopReason) (v : Verdict) → option_map (verdict_at at) reason ≡ Some v → line_of v ≡ Some line → at ≡ line
same_line line at None v h l = absurd cc
same_line line at (Some w) v h l = let own : line_of (verdict_at at w) ≡ Some at = lined at w in cc

-- an event that goes on leaves the stop to those after it
pub stop_after : (line n : ℕ) (es rest : List Event) (r s : RunStateView) (e : Event)
    → es ≡ e ∷ rest → preview_stop_reason_if_on_line line r e ≡ None → step r e ≡ Ok s → stop_from line n es r ≡ stop_from line (n + 1) rest s
stop_after line n es rest r s e split none h =
    ap (λ (l : List Event). stop_from line n l r) split
    ∙ (ap (λ (o : Option StopReason). stop_by n r o (on_step (stop_from line (n + 1) rest) (λ v. None) (step r e))) none
    ∙ ap (λ (o : Result RunStateView Verdict). on_step (stop_from line (n + 1) rest) (λ v. None) o) h)

-- the claim of an event, by what its step came to
abbrev Claim : ℕ → ℕ → RunStateView → Event → List Event → Result RunStateView Verdict → Type 0
Claim line n r e es came =
    Found line (stop_by n r (preview_stop_reason_if_on_line line r e) (on_step (stop_from line (n + 1) es) (λ v. None) came))
    (on_step (verdict_from (n + 1) es) (λ v. v) came)

-- a run that goes on
onwards : ReasonsGiveVerdicts → (line n : ℕ) (r s : RunStateView) (e : Event) (es : List Event)
    → step r e ≡ Ok s → Found line (stop_from line (n + 1) es s) (verdict_from (n + 1) es s) → Claim line n r e es (step r e)
onwards law line n r s e es is later =
    subst (Claim line n r e es) (sym is)
    (passed_over line n r (preview_stop_reason_if_on_line line r e) (stop_from line (n + 1) es s) (verdict_from (n + 1) es s)
    (silent law line r s e is) later)

-- a run that stops here
here : ReasonsGiveVerdicts → (line n : ℕ) (r : RunStateView) (v : Verdict) (e : Event) (es : List Event)
    → step r e ≡ Err v → line_of v ≡ Some line → Claim line n r e es (step r e)
here law line n r v e es is lined_so =
    let reason : option_map (verdict_at e.line) (stop_reason r e) ≡ Some v = law r e ∙ ap verdict_by_step is in
    let own : e.line ≡ line = same_line line e.line (stop_reason r e) v reason lined_so in
    let test : (e.line == line) ≡ true = (Decides-eqb e.line line).1 own in
    let told : option_map (verdict_at line) (stop_reason r e) ≡ Some v = subst (λ l. option_map (verdict_at l) (stop_reason r e) ≡ Some v) own reason in
    subst (Claim line n r e es) (sym is)
    (subst (λ b. Found line (stop_by n r (if b then stop_reason r e else None) None) v) (sym test) (stopping line n r (stop_reason r e) None v told))

-- either way
either : ReasonsGiveVerdicts → (line n : ℕ) (r : RunStateView) (e : Event) (es : List Event) (came : Result RunStateView Verdict)
    → step r e ≡ came
    → ((s : RunStateView) → line_of (verdict_from (n + 1) es s) ≡ Some line → Found line (stop_from line (n + 1) es s) (verdict_from (n + 1) es s))
    → line_of (on_step (verdict_from (n + 1) es) (λ v. v) came) ≡ Some line
    → Claim line n r e es (step r e)
either law line n r e es (Ok s) is later h = onwards law line n r s e es is (later s h)
either law line n r e es (Err v) is later h = here law line n r v e es is h

pub verdicts_have_reasons : ReasonsGiveVerdicts → VerdictsHaveReasons
verdicts_have_reasons law n line [] r h = absurd cc
verdicts_have_reasons law n line (e ∷ es) r h =
    either law line n r e es (step r e) refl (λ s g. verdicts_have_reasons law (n + 1) line es s g) h
