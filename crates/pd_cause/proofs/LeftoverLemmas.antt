-- The end of a run, and the packets that are listed of it.
use Rattle.std.proofs.Common.{◌≡◌, ◌<◌, ℕ, ◌+◌, ◌-◌, List, [], ◌∷◌, ◌++◌, drop, take, map, length, slice_get, get_or, Option, Some, None, is_some, Result, Ok, Err, option_map, false, Vec, Global, refl, sym, ap, ap₂, subst, ◌∙◌, arith}
use Rattle.std.proofs.lemmas.List.{take_more, map-append, get_or-drop, length-drop}
use Rattle.std.proofs.lemmas.Option.{slice_get_within, get_or_from_slice_get}
use Rattle.pd_settings.specs.declared.settings.Settings.{Settings}
use Rattle.pd_script.specs.Header.{HeaderView}
use Rattle.pd_script.specs.declared.script_events.Event.{Event}
use Rattle.pd_script.specs.declared.script_header.HeaderItem.{HeaderItem}
use Rattle.pd_seg.specs.declared.segments.Sent.{Sent}
use Rattle.pd_run.specs.Run.{start_of, verdict_from, verdict_in}
use Rattle.pd_run.specs.Step.{RunStateView, on_step, step}
use Rattle.pd_run.specs.declared.verdict.Verdict.{Verdict}
use Rattle.pd_run.specs.declared.verdict.Verdict.TheVariants as verdict
use Rattle.pd_run.specs.StopReason.{stop_reason, verdict_at, verdict_by_step, ReasonsGiveVerdicts}
use Rattle.pd_run.specs.declared.stop_reason.StopReason.{StopReason}
use Rattle.pd_run.specs.declared.prechecks.Precheck.TheVariants.{OverLimit, NotRun, Backwards}
use Rattle.pd_run.specs.declared.stop_reason.StopReason.TheVariants.{FailedPrecheck, Halted, Missing, Differs, Answered}
use Rattle.pd_host.specs.declared.halts.Halt.TheVariants as halt
use Rattle.pd_cause.specs.AlignedPackets.{sent_text}
use Rattle.pd_cause.specs.Leftovers.{end_from, end_in, is_pass, PassesHaveEnds}
use Rattle.pd_cause.specs.Explained.{first_unsupported_header_item}
use Rattle.pd_cause.proofs.StopIsThere.{starts}

-- after a step that goes on, the end is that of the events left
pub end_after : (es rest : List Event) (r s : RunStateView) (e : Event)
    → es ≡ e ∷ rest → step r e ≡ Ok s → end_from es r ≡ end_from rest s
end_after es rest r s e split h =
    ap (λ (l : List Event). end_from l r) split ∙ ap (on_step (end_from rest) (λ v. None)) h

-- packets that were sent, as they are listed
abbrev pub texts : ℕ → List Sent → List (List ℕ)
texts base packets = map (sent_text base) packets

-- one more is listed
pub listed_more : (base skipped n : ℕ) (xs : List Sent) (sent : Sent) → slice_get xs (skipped + n) ≡ Some sent
    → texts base (take (n + 1) (drop skipped xs)) ≡ texts base (take n (drop skipped xs)) ++ (sent_text base sent ∷ [])
listed_more base skipped n xs sent got =
    let within : skipped + n < length xs = slice_get_within xs (skipped + n) sent got in
    let there : n < length (drop skipped xs) = omega (arith, within, length-drop skipped xs) in
    let is : get_or (drop skipped xs) n sent ≡ sent = get_or-drop skipped xs n sent ∙ get_or_from_slice_get xs (skipped + n) sent sent got in
    ap (texts base) (take_more (drop skipped xs) n sent there)
    ∙ (map-append (sent_text base) (take n (drop skipped xs)) (get_or (drop skipped xs) n sent ∷ [])
    ∙ ap (λ (x : Sent). texts base (take n (drop skipped xs)) ++ (sent_text base x ∷ [])) is)

-- the octets of what is listed
abbrev pub listed : List (Vec ℕ Global) → List (List ℕ)
listed packets = map (λ packet. packet.items) packets

-- after one more was put at the end of the list
pub one_more : (base skipped n : ℕ) (xs : List Sent) (sent : Sent) (ps qs : List (Vec ℕ Global)) (p : Vec ℕ Global)
    → slice_get xs (skipped + n) ≡ Some sent → listed ps ≡ texts base (take n (drop skipped xs)) → p.items ≡ sent_text base sent
    → qs ≡ ps ++ (p ∷ []) → listed qs ≡ texts base (take (n + 1) (drop skipped xs))
one_more base skipped n xs sent ps qs p got before text put =
    ap listed put
    ∙ (map-append (λ (packet : Vec ℕ Global). packet.items) ps (p ∷ [])
    ∙ (ap₂ (λ (l : List (List ℕ)) (t : List ℕ). l ++ (t ∷ [])) before text
    ∙ sym (listed_more base skipped n xs sent got)))

-- the count of packets beyond ten
pub beyond_ten : (skipped : ℕ) (xs : List Sent) → length xs - (skipped + 10) ≡ length (drop skipped xs) - 10
beyond_ten skipped xs = omega (arith, length-drop skipped xs)

-- no stop has the verdict of a pass
no_pass : (line : ℕ) (w : StopReason) → is_pass (verdict_at line w) ≡ false
no_pass line (FailedPrecheck OverLimit) = refl
no_pass line (FailedPrecheck NotRun) = refl
no_pass line (FailedPrecheck Backwards) = refl
no_pass line (Halted halt.Unsupported) = refl
no_pass line (Halted halt.Limit) = refl
no_pass line Missing = refl
no_pass line (Differs kind sent r) = refl
no_pass line (Answered answer r) = refl

some_verdict : (line : ℕ) (reason : Option StopReason) (v : Verdict) → option_map (verdict_at line) reason ≡ Some v → is_pass v ≡ false
some_verdict line None v e = absurd cc
some_verdict line (Some w) v e =
    let same : verdict_at line w ≡ v = cc in
    subst (λ (x : Verdict). is_pass x ≡ false) same (no_pass line w)

-- so a step that stops has another one
stops : ReasonsGiveVerdicts → (r : RunStateView) (e : Event) (v : Verdict) → step r e ≡ Err v → is_pass v ≡ false
stops law r e v h = some_verdict e.line (stop_reason r e) v (law r e ∙ ap verdict_by_step h)

by_step : (n : ℕ) (es : List Event) (came : Result RunStateView Verdict)
    → ((s : RunStateView) → is_some (end_from es s) ≡ is_pass (verdict_from (n + 1) es s))
    → ((v : Verdict) → came ≡ Err v → is_pass v ≡ false)
    → is_some (on_step (end_from es) (λ v. None) came) ≡ is_pass (on_step (verdict_from (n + 1) es) (λ v. v) came)
by_step n es (Ok s) go stop = go s
by_step n es (Err v) go stop = sym (stop v refl)

by_events : ReasonsGiveVerdicts → (n : ℕ) (es : List Event) (r : RunStateView) → is_some (end_from es r) ≡ is_pass (verdict_from n es r)
by_events law n [] r = refl
by_events law n (e ∷ es) r = by_step n es (step r e) (λ s. by_events law (n + 1) es s) (λ v. stops law r e v)

-- a script passes exactly where its run comes to its end
abbrev AreAlike : Settings → HeaderView → List Event → Option ℕ → Type 0
AreAlike settings header events fault =
    is_some (end_in settings (record { header = header; events = events; fault = fault }))
    ≡ is_pass (verdict_in settings (record { header = header; events = events; fault = fault }))

by_found : ReasonsGiveVerdicts → (settings : Settings) (header : HeaderView) (events : List Event) (found : Option HeaderItem)
    → first_unsupported_header_item header.items ≡ found → AreAlike settings header events None
by_found law settings header events None h =
    let start = starts settings header.items h in
    rw start.1 (by_events law 0 events start.0)
by_found law settings header events (Some item) h =
    let stopped : start_of header.items settings ≡ Err (verdict.Unsupported item.line) = rw h refl in
    rw stopped refl

by_fault : ReasonsGiveVerdicts → (settings : Settings) (header : HeaderView) (events : List Event) (fault : Option ℕ) → AreAlike settings header events fault
by_fault law settings header events (Some line) = refl
by_fault law settings header events None = by_found law settings header events (first_unsupported_header_item header.items) refl

pub passes : ReasonsGiveVerdicts → PassesHaveEnds
passes law = λ settings parsed. by_fault law settings parsed.header parsed.events parsed.fault
