-- Only consulted settings matter to a run.
use Rattle.std.proofs.Common.{◌≡◌, ℕ, zero, suc, ◌==◌, Bool, true, false, ◌||◌, if◌then◌else◌, Option, Some, None, is_none, unwrap_or, List, [], ◌∷◌, length, take, map, slice_get, find, Result, Ok, Err, refl, sym, ap, subst, ◌∙◌, ◌⊎◌, inl, inr}
use Rattle.pd_settings.specs.SettingSets.{Agree, Includes, has}
use Rattle.pd_settings.specs.declared.settings.Settings.{Settings}
use Rattle.pd_settings.specs.declared.keys.Key.{Key}
use Rattle.pd_settings.specs.declared.keys.Key.TheVariants.{ToleranceUs}
use Rattle.pd_settings.specs.declared.setting_set.SettingSet.{SettingSet}
use Rattle.pd_settings.specs.declared.values.Value.TheVariants.{Number}
use Rattle.pd_script.specs.Script.{script_of}
use Rattle.pd_script.specs.declared.calls.Call.{Call}
use Rattle.pd_script.specs.declared.packets.Packet.{Packet}
use Rattle.pd_script.specs.declared.parsed.Parsed.{Parsed}
use Rattle.pd_script.specs.declared.script_events.Action.{Action}
use Rattle.pd_script.specs.declared.script_events.Action.TheVariants.{Inbound, Outbound, Call as Calls, Command, Code}
use Rattle.pd_script.specs.declared.script_events.Event.{Event}
use Rattle.pd_script.specs.declared.script_header.HeaderItem.{HeaderItem}
use Rattle.pd_seg.specs.declared.call_results.Answer.{Answer}
use Rattle.pd_seg.specs.declared.segments.Sent.{Sent}
use Rattle.pd_host.specs.Arrivals.{arrived}
use Rattle.pd_host.specs.Calls.{called}
use Rattle.pd_host.specs.Expiries.{advanced, deadline_of}
use Rattle.pd_host.specs.InputLaws.{Notes, with_settings}
use Rattle.pd_host.specs.Host.{then_on, without_oldest}
use Rattle.pd_host.specs.declared.halts.Halt.{Halt}
use Rattle.pd_host.specs.declared.endpoint.SenderState.{SenderState}
use Rattle.pd_match.specs.Calls.{result_mismatch}
use Rattle.pd_match.specs.Packets.{mismatch}
use Rattle.pd_match.specs.declared.kinds.Kind.{Kind}
use Rattle.pd_run.specs.Consulted.{consulted_settings_of, run_with_settings, StepsNote, StepsOnlyUse, RunsOnlyUse}
use Rattle.pd_run.specs.Inner.{InputsOnlyUse}
use Rattle.pd_run.specs.InboundSegment.{segment_in}
use Rattle.pd_run.specs.Laws.{ToleranceStays}
use Rattle.pd_run.specs.Prechecks.{failed_precheck}
use Rattle.pd_run.specs.Run.{start_of, tolerance_in, states_from, states_in}
use Rattle.pd_run.specs.Step.{RunStateView, tolerance_of, comparison_noted, on_step, judged, with_state, action_time_not_before_clock, acted, arrives, on_arrival, answers, on_answer, on_expiry, expires, awaited, packet_taken, leaves, performed, unless_failed_precheck, precheck_then_perform_event_and_find_stop, at_line, step}
use Rattle.pd_run.specs.Times.{time_range_of, base_from_moment_or_later_of_base_and_sent, is_not_too_late_within_tolerance}
use Rattle.pd_run.specs.declared.verdict.Verdict.{Verdict}
use Rattle.pd_run.specs.declared.prechecks.Precheck.{Precheck}
use Rattle.pd_run.specs.declared.stop_reason.StopReason.{StopReason}
use Rattle.pd_run.specs.declared.stop_reason.StopReason.TheVariants.{Missing, Differs}
use Rattle.pd_run.proofs.Bounds.{given, agreed, both, in_reach, goes, step_performs}

-- Sets of settings

pub includes_itself : (u : SettingSet) → Includes u u
includes_itself u key e = e

pub includes_too : (u v w : SettingSet) → Includes u v → Includes v w → Includes u w
includes_too u v w a b key e = a key (b key e)

pub agree_on_fewer : (more fewer : SettingSet) (a b : Settings) → Includes more fewer → Agree more a b → Agree fewer a b
agree_on_fewer more fewer a b i h key e = h key (i key e)

or_first : (a b : Bool) → a ≡ true → (a || b) ≡ true
or_first true b h = refl
or_first false b h = absurd cc

or_last : (a b : Bool) → b ≡ true → (a || b) ≡ true
or_last true b h = refl
or_last false b h = h

or_more : (a b c d : Bool) → (a ≡ true → c ≡ true) → (b ≡ true → d ≡ true) → (a || b) ≡ true → (c || d) ≡ true
or_more true b c d first last h = or_first c d (first refl)
or_more false b c d first last h = or_last c d (last h)

-- what the sender noted is part of what the run consulted
-- a set, and the tolerance where that was consulted
abbrev with_tolerance : SettingSet → Bool → SettingSet
with_tolerance u used_tolerance = record u { tolerance_us = u.tolerance_us || used_tolerance }

with_more : (u : SettingSet) (used_tolerance : Bool) → Includes (with_tolerance u used_tolerance) u
with_more u used_tolerance ToleranceUs e = or_first u.tolerance_us used_tolerance e
with_more u used_tolerance _ e = e

-- what the sender noted is part of what the run consulted
host_uses : (r : RunStateView) → Includes (consulted_settings_of r) r.host.state.consulted_settings
host_uses r = with_more r.host.state.consulted_settings r.used_tolerance

-- with the tolerance, a set has no other setting more
elsewhere : (u : SettingSet) (used_tolerance : Bool) (key : Key) → (has (with_tolerance u used_tolerance) key ≡ has u key) ⊎ (key ≡ ToleranceUs)
elsewhere u used_tolerance ToleranceUs = inr refl
elsewhere u used_tolerance _ = inl refl

-- what both have more of, they have more of together
more_together : (u v : SettingSet) (a b : Bool) → Includes v u → (a ≡ true → b ≡ true) → Includes (with_tolerance v b) (with_tolerance u a)
more_together u v a b h more key e = go (elsewhere u a key)
  where
    go : (has (with_tolerance u a) key ≡ has u key) ⊎ (key ≡ ToleranceUs) → has (with_tolerance v b) key ≡ true
    go (inl same) = with_more v b key (h key (sym same ∙ e))
    go (inr is) =
        subst (λ (k : Key). has (with_tolerance u a) k ≡ true → has (with_tolerance v b) k ≡ true) (sym is)
        (or_more u.tolerance_us a v.tolerance_us b (h ToleranceUs) more) e

-- A step keeps these

-- settings and the header's tolerance stay, and what the sender noted stays noted
record Keeps (r s : RunStateView) : Type 0 where
  pub settings : s.host.state.settings ≡ r.host.state.settings
  pub consulted_settings : Includes s.host.state.consulted_settings r.host.state.consulted_settings
  pub header_tolerance : s.header_tolerance ≡ r.header_tolerance
  pub used_tolerance : s.used_tolerance ≡ r.used_tolerance

itself : (r : RunStateView) → Keeps r r
itself r = record { settings = refl; consulted_settings = includes_itself r.host.state.consulted_settings; header_tolerance = refl; used_tolerance = refl }

keeps_too : (r s t : RunStateView) → Keeps r s → Keeps s t → Keeps r t
keeps_too r s t a b = record {
  settings = b.settings ∙ a.settings;
  consulted_settings = includes_too t.host.state.consulted_settings s.host.state.consulted_settings r.host.state.consulted_settings b.consulted_settings a.consulted_settings;
  header_tolerance = b.header_tolerance ∙ a.header_tolerance;
  used_tolerance = b.used_tolerance ∙ a.used_tolerance;
}

notes_too : (s u t : SenderState) → Notes s u → Notes u t → Notes s t
notes_too s u t a b = record { settings = b.settings ∙ a.settings; consulted_settings = includes_too t.consulted_settings u.consulted_settings s.consulted_settings b.consulted_settings a.consulted_settings }

arrival_keeps : InputsOnlyUse → (r s : RunStateView) (e : Event) (p : Packet) (came : Result SenderState Halt) → arrives r e p ≡ came
    → on_arrival r e came ≡ Ok s → Keeps r s
arrival_keeps laws r s e p (Ok t) is h =
    let came = both (arrived (segment_in p) (action_time_not_before_clock r e)) (advanced (action_time_not_before_clock r e) r.host.state) t is in
    let notes : Notes r.host.state t =
    notes_too r.host.state came.0 t (laws.advances_note (action_time_not_before_clock r e) r.host.state came.0 came.1) (laws.arrivals_note (segment_in p) (action_time_not_before_clock r e) came.0 t came.2) in
    subst (Keeps r) (given (acted r e t) s h) (record { settings = notes.settings; consulted_settings = notes.consulted_settings; header_tolerance = refl; used_tolerance = refl })
arrival_keeps laws r s e p (Err halt) is h = absurd cc

answer_keeps : InputsOnlyUse → (r s : RunStateView) (e : Event) (call : Call) (came : Result (SenderState × Answer) Halt) → answers r e call ≡ came
    → on_answer r e call came ≡ Ok s → Keeps r s
answer_keeps laws r s e call (Ok (t, a)) is h =
    let came = both (called call (action_time_not_before_clock r e)) (advanced (action_time_not_before_clock r e) r.host.state) (t, a) is in
    let notes : Notes r.host.state t =
    notes_too r.host.state came.0 t (laws.advances_note (action_time_not_before_clock r e) r.host.state came.0 came.1) (laws.calls_note call (action_time_not_before_clock r e) came.0 t a came.2) in
    subst (Keeps r) (agreed (acted r e t) s _ (result_mismatch call.result a) h)
    (record { settings = notes.settings; consulted_settings = notes.consulted_settings; header_tolerance = refl; used_tolerance = refl })
answer_keeps laws r s e call (Err halt) is h = absurd cc

taken_keeps : (r s : RunStateView) (e : Event) (p : Packet) (first : Option Sent) → packet_taken e p r first ≡ Ok s → Keeps r s
taken_keeps r s e p None h = absurd cc
taken_keeps r s e p (Some sent) h =
    let next : RunStateView = record r { host = without_oldest r.host; base = base_from_moment_or_later_of_base_and_sent r.base e.time sent.at } in
    subst (Keeps r) (agreed next s _ (mismatch p (time_range_of r.base e.time) sent (tolerance_of r)) h)
    (record { settings = refl; consulted_settings = includes_itself r.host.state.consulted_settings; header_tolerance = refl; used_tolerance = refl })

expiry_keeps : InputsOnlyUse → (r s : RunStateView) (at : ℕ) (came : Result SenderState Halt) → advanced at r.host.state ≡ came
    → on_expiry r at came ≡ Ok s → Keeps r s
expiry_keeps laws r s at (Ok t) is h =
    let notes : Notes r.host.state t = laws.advances_note at r.host.state t is in
    subst (Keeps r) (given (record (with_state r t) { clock = at }) s h)
    (record { settings = notes.settings; consulted_settings = notes.consulted_settings; header_tolerance = refl; used_tolerance = refl })
expiry_keeps laws r s at (Err halt) is h = absurd cc

expires_keeps : InputsOnlyUse → (r s : RunStateView) (e : Event) (o : Option ℕ) → expires r e o ≡ Ok s → Keeps r s
expires_keeps laws r s e None h = absurd cc
expires_keeps laws r s e (Some at) h =
    expiry_keeps laws r s at (advanced at r.host.state) refl
    (in_reach (is_not_too_late_within_tolerance (time_range_of r.base e.time) (tolerance_of r) at) (on_expiry r at (advanced at r.host.state)) s h)

awaited_keeps : InputsOnlyUse → (r s : RunStateView) (e : Event) (empty : Bool)
    → (if empty then expires r e (deadline_of r.host.state) else Ok r) ≡ Ok s → Keeps r s
awaited_keeps laws r s e true h = expires_keeps laws r s e (deadline_of r.host.state) h
awaited_keeps laws r s e false h = subst (Keeps r) (given r s h) (itself r)

-- an expected packet is taken after it was awaited
abbrev take_first : Event → Packet → RunStateView → Result RunStateView StopReason
take_first e p q = packet_taken e p q (slice_get q.host.state.endpoint.outbox 0)

of_awaited : (e : Event) (p : Packet) (s : RunStateView) (came : Result RunStateView StopReason)
    → on_step (take_first e p) (λ reason. Err reason) came ≡ Ok s
    → (t : RunStateView) × (came ≡ Ok t) × (take_first e p t ≡ Ok s)
of_awaited e p s (Ok t) h = (t, refl, h)
of_awaited e p s (Err reason) h = absurd cc

leaves_keeps : InputsOnlyUse → (r s : RunStateView) (e : Event) (p : Packet) → leaves r e p ≡ Ok s → Keeps r s
leaves_keeps laws r s e p h =
    let came = of_awaited e p s (awaited r e) h in
    keeps_too r came.0 s (awaited_keeps laws r came.0 e (length r.host.state.endpoint.outbox == 0) came.1)
    (taken_keeps came.0 s e p (slice_get came.0.host.state.endpoint.outbox 0) came.2)

-- what a step leaves of all that
record Leaves (r s : RunStateView) : Type 0 where
  pub settings : s.host.state.settings ≡ r.host.state.settings
  pub consulted_settings : Includes (consulted_settings_of s) (consulted_settings_of r)
  pub header_tolerance : s.header_tolerance ≡ r.header_tolerance

leaves_of : (r n s : RunStateView) → n.host ≡ r.host → n.header_tolerance ≡ r.header_tolerance → (r.used_tolerance ≡ true → n.used_tolerance ≡ true) → Keeps n s → Leaves r s
leaves_of r n s host header_tolerance more k =
    let settings : s.host.state.settings ≡ r.host.state.settings = k.settings ∙ ap (λ h. h.state.settings) host in
    let consulted_settings : Includes s.host.state.consulted_settings r.host.state.consulted_settings = subst (λ h. Includes s.host.state.consulted_settings h.state.consulted_settings) host k.consulted_settings in
    let used_tolerance : s.used_tolerance ≡ n.used_tolerance = k.used_tolerance in
    record {
      settings = settings;
      header_tolerance = k.header_tolerance ∙ header_tolerance;
      consulted_settings = more_together r.host.state.consulted_settings s.host.state.consulted_settings r.used_tolerance s.used_tolerance consulted_settings (λ e. used_tolerance ∙ more e);
    }

performed_leaves : InputsOnlyUse → (r s : RunStateView) (e : Event) (action : Action) → performed r e action ≡ Ok s → Leaves r s
performed_leaves laws r s e (Inbound p) h = leaves_of r r s refl refl (λ e. e) (arrival_keeps laws r s e p (arrives r e p) refl h)
performed_leaves laws r s e (Outbound p) h =
    leaves_of r (comparison_noted r) s refl refl (λ e. or_first r.used_tolerance (is_none r.header_tolerance) e) (leaves_keeps laws (comparison_noted r) s e p h)
performed_leaves laws r s e (Calls call) h = leaves_of r r s refl refl (λ e. e) (answer_keeps laws r s e call (answers r e call) refl h)
performed_leaves laws r s e Command h = absurd cc
performed_leaves laws r s e Code h = absurd cc

step_leaves : InputsOnlyUse → (r s : RunStateView) (e : Event) → step r e ≡ Ok s → Leaves r s
step_leaves laws r s e h = performed_leaves laws r s e e.action (step_performs r s e h)

pub steps_note : InputsOnlyUse → StepsNote
steps_note laws r s e h = let left : Leaves r s = step_leaves laws r s e h in (left.settings, left.consulted_settings)

abbrev tolerance_by : Option ℕ → Settings → ℕ
tolerance_by header_tolerance settings = unwrap_or header_tolerance settings.tolerance_us

pub tolerance_stays : InputsOnlyUse → ToleranceStays
tolerance_stays laws r s e h =
    let left : Leaves r s = step_leaves laws r s e h in
    ap (λ (o : Option ℕ). tolerance_by o s.host.state.settings) left.header_tolerance ∙ ap (tolerance_by r.header_tolerance) left.settings

-- The same step under other settings

abbrev again : {S : Type 0} → Settings → RunStateView → Result RunStateView S
again b s = Ok (run_with_settings b s)

same_run : {S : Type 0} (b : Settings) (r s : RunStateView) → r ≡ s → again {S = S} b r ≡ again b s
same_run b r s h = ap (again b) h

judged_again : (r s : RunStateView) (b : Settings) (one other : Kind → StopReason) (kind : Option Kind) → judged r one kind ≡ Ok s
    → judged (run_with_settings b r) other kind ≡ again b s
judged_again r s b one other None h = same_run b r s (given r s h)
judged_again r s b one other (Some kind) h = absurd cc

-- what holds of the settings after a step holds of those before it
agree_before : (u : SettingSet) (x y b : Settings) → x ≡ y → Agree u y b → Agree u x b
agree_before u x y b same h = subst (λ (z : Settings). Agree u z b) (sym same) h

arrival_again : InputsOnlyUse → (r s : RunStateView) (e : Event) (p : Packet) (b : Settings) (came : Result SenderState Halt) → arrives r e p ≡ came
    → on_arrival r e came ≡ Ok s → Agree (consulted_settings_of s) r.host.state.settings b
    → on_arrival (run_with_settings b r) e (arrives (run_with_settings b r) e p) ≡ again b s
arrival_again laws r s e p b (Ok t) is h agree =
    let at : ℕ = action_time_not_before_clock r e in
    let came = both (arrived (segment_in p) at) (advanced at r.host.state) t is in
    let same : acted r e t ≡ s = given (acted r e t) s h in
    let after : Agree (consulted_settings_of (acted r e t)) r.host.state.settings b = subst (λ (q : RunStateView). Agree (consulted_settings_of q) r.host.state.settings b) (sym same) agree in
    let noted_here : Agree t.consulted_settings r.host.state.settings b = agree_on_fewer (consulted_settings_of (acted r e t)) t.consulted_settings r.host.state.settings b (host_uses (acted r e t)) after in
    let first : advanced at (with_settings b r.host.state) ≡ Ok (with_settings b came.0) = laws.advances at r.host.state came.0 b came.1 in
    let next : arrived (segment_in p) at (with_settings b came.0) ≡ Ok (with_settings b t) =
    laws.arrivals (segment_in p) at came.0 t b came.2
    (agree_before t.consulted_settings came.0.settings r.host.state.settings b (laws.advances_note at r.host.state came.0 came.1).settings noted_here) in
    ap (λ (x : Result SenderState Halt). on_arrival (run_with_settings b r) e (then_on (arrived (segment_in p) at) x)) first
    ∙ ap (on_arrival (run_with_settings b r) e) next
    ∙ same_run b (acted r e t) s same
arrival_again laws r s e p b (Err halt) is h agree = absurd cc

answer_again : InputsOnlyUse → (r s : RunStateView) (e : Event) (call : Call) (b : Settings) (came : Result (SenderState × Answer) Halt) → answers r e call ≡ came
    → on_answer r e call came ≡ Ok s → Agree (consulted_settings_of s) r.host.state.settings b
    → on_answer (run_with_settings b r) e call (answers (run_with_settings b r) e call) ≡ again b s
answer_again laws r s e call b (Ok (t, a)) is h agree =
    let at : ℕ = action_time_not_before_clock r e in
    let came = both (called call at) (advanced at r.host.state) (t, a) is in
    let same : acted r e t ≡ s = agreed (acted r e t) s _ (result_mismatch call.result a) h in
    let after : Agree (consulted_settings_of (acted r e t)) r.host.state.settings b = subst (λ (q : RunStateView). Agree (consulted_settings_of q) r.host.state.settings b) (sym same) agree in
    let noted_here : Agree t.consulted_settings r.host.state.settings b = agree_on_fewer (consulted_settings_of (acted r e t)) t.consulted_settings r.host.state.settings b (host_uses (acted r e t)) after in
    let first : advanced at (with_settings b r.host.state) ≡ Ok (with_settings b came.0) = laws.advances at r.host.state came.0 b came.1 in
    let next : called call at (with_settings b came.0) ≡ Ok (with_settings b t, a) =
    laws.calls call at came.0 t a b came.2
    (agree_before t.consulted_settings came.0.settings r.host.state.settings b (laws.advances_note at r.host.state came.0 came.1).settings noted_here) in
    ap (λ (x : Result SenderState Halt). on_answer (run_with_settings b r) e call (then_on (called call at) x)) first
    ∙ ap (on_answer (run_with_settings b r) e call) next
    ∙ judged_again (acted r e t) s b _ _ (result_mismatch call.result a) h
answer_again laws r s e call b (Err halt) is h agree = absurd cc

-- the tolerance is the same
abbrev SameTolerance : Settings → RunStateView → Type 0
SameTolerance b r = tolerance_of (run_with_settings b r) ≡ tolerance_of r

by_writing : (o : Option ℕ) (x y : ℕ) → (is_none o ≡ true → x ≡ y) → unwrap_or o y ≡ unwrap_or o x
by_writing None x y h = sym (h refl)
by_writing (Some t) x y h = refl

-- it stays so where settings and the header's tolerance stay
same_later : (b : Settings) (r t : RunStateView) → Keeps r t → SameTolerance b r → SameTolerance b t
same_later b r t k same =
    ap (λ (o : Option ℕ). tolerance_by o b) k.header_tolerance
    ∙ same
    ∙ sym (ap (λ (o : Option ℕ). tolerance_by o t.host.state.settings) k.header_tolerance ∙ ap (tolerance_by r.header_tolerance) k.settings)

taken_again : (r s : RunStateView) (e : Event) (p : Packet) (b : Settings) (first : Option Sent) → SameTolerance b r
    → packet_taken e p r first ≡ Ok s → packet_taken e p (run_with_settings b r) first ≡ again b s
taken_again r s e p b None same h = absurd cc
taken_again r s e p b (Some sent) same h =
    let next : RunStateView = record r { host = without_oldest r.host; base = base_from_moment_or_later_of_base_and_sent r.base e.time sent.at } in
    let time_range = time_range_of r.base e.time in
    ap (λ (x : ℕ). judged (run_with_settings b next) (λ kind. Differs kind sent (run_with_settings b r)) (mismatch p time_range sent x)) same
    ∙ judged_again next s b _ _ (mismatch p time_range sent (tolerance_of r)) h

reach_again : (c : Bool) (x y : Result RunStateView StopReason) (s u : RunStateView) → (x ≡ Ok s → y ≡ Ok u)
    → (if c then x else Err Missing) ≡ Ok s → (if c then y else Err Missing) ≡ Ok u
reach_again true x y s u more h = more h
reach_again false x y s u more h = absurd cc

expiry_again : InputsOnlyUse → (r s : RunStateView) (at : ℕ) (b : Settings) (came : Result SenderState Halt) → advanced at r.host.state ≡ came
    → on_expiry r at came ≡ Ok s → on_expiry (run_with_settings b r) at (advanced at (with_settings b r.host.state)) ≡ again b s
expiry_again laws r s at b (Ok t) is h =
    ap (on_expiry (run_with_settings b r) at) (laws.advances at r.host.state t b is)
    ∙ same_run b (record (with_state r t) { clock = at }) s (given (record (with_state r t) { clock = at }) s h)
expiry_again laws r s at b (Err halt) is h = absurd cc

expires_again : InputsOnlyUse → (r s : RunStateView) (e : Event) (b : Settings) (o : Option ℕ) → SameTolerance b r
    → expires r e o ≡ Ok s → expires (run_with_settings b r) e o ≡ again b s
expires_again laws r s e b None same h = absurd cc
expires_again laws r s e b (Some at) same h =
    let time_range = time_range_of r.base e.time in
    let here : Result RunStateView StopReason = on_expiry r at (advanced at r.host.state) in
    let there : Result RunStateView StopReason = on_expiry (run_with_settings b r) at (advanced at (with_settings b r.host.state)) in
    ap (λ (x : ℕ). if is_not_too_late_within_tolerance time_range x at then there else Err Missing) same
    ∙ reach_again (is_not_too_late_within_tolerance time_range (tolerance_of r) at) here there s (run_with_settings b s)
    (λ k. expiry_again laws r s at b (advanced at r.host.state) refl k) h

awaited_again : InputsOnlyUse → (r s : RunStateView) (e : Event) (b : Settings) (empty : Bool) → SameTolerance b r
    → (if empty then expires r e (deadline_of r.host.state) else Ok r) ≡ Ok s
    → (if empty then expires (run_with_settings b r) e (deadline_of r.host.state) else Ok (run_with_settings b r)) ≡ again b s
awaited_again laws r s e b true same h = expires_again laws r s e b (deadline_of r.host.state) same h
awaited_again laws r s e b false same h = same_run b r s (given r s h)

leaves_again : InputsOnlyUse → (r s : RunStateView) (e : Event) (p : Packet) (b : Settings) → SameTolerance b r
    → leaves r e p ≡ Ok s → leaves (run_with_settings b r) e p ≡ again b s
leaves_again laws r s e p b same h =
    let came = of_awaited e p s (awaited r e) h in
    let empty : Bool = length r.host.state.endpoint.outbox == 0 in
    ap (on_step (take_first e p) (λ reason. Err reason)) (awaited_again laws r came.0 e b empty same came.1)
    ∙ taken_again came.0 s e p b (slice_get came.0.host.state.endpoint.outbox 0)
    (same_later b r came.0 (awaited_keeps laws r came.0 e empty came.1) same) came.2

number_of : {a b : ℕ} → Number a ≡ Number b → a ≡ b
number_of e = cc

-- an expected packet consulted the tolerance, unless the header sets it
consulted : InputsOnlyUse → (r s : RunStateView) (e : Event) (p : Packet) (b : Settings) → leaves (comparison_noted r) e p ≡ Ok s
    → Agree (consulted_settings_of s) r.host.state.settings b → SameTolerance b (comparison_noted r)
consulted laws r s e p b h agree =
    let k : Keeps (comparison_noted r) s = leaves_keeps laws (comparison_noted r) s e p h in
    by_writing r.header_tolerance r.host.state.settings.tolerance_us b.tolerance_us
    (λ none. number_of (agree ToleranceUs (or_last s.host.state.consulted_settings.tolerance_us s.used_tolerance (k.used_tolerance ∙ or_last r.used_tolerance (is_none r.header_tolerance) none))))

performed_again : InputsOnlyUse → (r s : RunStateView) (e : Event) (action : Action) (b : Settings) → performed r e action ≡ Ok s
    → Agree (consulted_settings_of s) r.host.state.settings b → performed (run_with_settings b r) e action ≡ again b s
performed_again laws r s e (Inbound p) b h agree = arrival_again laws r s e p b (arrives r e p) refl h agree
performed_again laws r s e (Outbound p) b h agree = leaves_again laws (comparison_noted r) s e p b (consulted laws r s e p b h agree) h
performed_again laws r s e (Calls call) b h agree = answer_again laws r s e call b (answers r e call) refl h agree
performed_again laws r s e Command b h agree = absurd cc
performed_again laws r s e Code b h agree = absurd cc

-- what no check bars, none bars there
unbarred_too : (bar : Option Precheck) (x y : Result RunStateView StopReason) (s u : RunStateView) → (x ≡ Ok s → y ≡ Ok u)
    → unless_failed_precheck x bar ≡ Ok s → unless_failed_precheck y bar ≡ Ok u
unbarred_too None x y s u more h = more h
unbarred_too (Some bar) x y s u more h = absurd cc

pub steps_only_use : InputsOnlyUse → StepsOnlyUse
steps_only_use laws r s e b h agree =
    let u : RunStateView = run_with_settings b r in
    ap (at_line e.line)
    (unbarred_too (failed_precheck r.base e) (performed r e e.action) (performed u e e.action) s (run_with_settings b s)
    (λ k. performed_again laws r s e e.action b k agree) (goes e.line (precheck_then_perform_event_and_find_stop r e) s h))

-- Whole runs

abbrev Grows : RunStateView → RunStateView → Type 0
Grows r s = (s.host.state.settings ≡ r.host.state.settings) × Includes (consulted_settings_of s) (consulted_settings_of r)

grows_too : (r s t : RunStateView) → Grows r s → Grows s t → Grows r t
grows_too r s t a b = (b.0 ∙ a.0, includes_too (consulted_settings_of t) (consulted_settings_of s) (consulted_settings_of r) b.1 a.1)

-- the states after a step
abbrev states_after : List Event → Result RunStateView Verdict → List RunStateView
states_after es o = on_step (λ t. t ∷ states_from es t) (λ v. []) o

-- each state of a run has consulted what the first has
states_grow : InputsOnlyUse → (es : List Event) (m : ℕ) (r s : RunStateView) → slice_get (states_from es r) m ≡ Some s → Grows r s
states_grow laws [] m r s h = absurd cc
states_grow laws (e ∷ es) m r s h = go (states_grow laws es) m (step r e) refl h
  where
    go : ((m : ℕ) (r s : RunStateView) → slice_get (states_from es r) m ≡ Some s → Grows r s)
        → (m : ℕ) (o : Result RunStateView Verdict) → step r e ≡ o → slice_get (states_after es o) m ≡ Some s → Grows r s
    go ih zero (Ok t) o h = let same : t ≡ s = cc in subst (Grows r) same (steps_note laws r t e o)
    go ih (suc m) (Ok t) o h = grows_too r t s (steps_note laws r t e o) (ih m t s h)
    go ih m (Err v) o h = absurd cc

same_states : InputsOnlyUse → (es : List Event) (m : ℕ) (r s : RunStateView) (b : Settings)
    → slice_get (states_from es r) m ≡ Some s → Agree (consulted_settings_of s) r.host.state.settings b
    → take (suc m) (states_from es (run_with_settings b r)) ≡ map (run_with_settings b) (take (suc m) (states_from es r))
same_states laws [] m r s b h agree = absurd cc
same_states laws (e ∷ es) m r s b h agree = go (λ k t u. same_states laws es k t u b) m (step r e) refl h
  where
    agree_at : (t : RunStateView) → Grows t s → Agree (consulted_settings_of t) r.host.state.settings b
    agree_at t grows = agree_on_fewer (consulted_settings_of s) (consulted_settings_of t) r.host.state.settings b grows.1 agree

    stepped : (m : ℕ) (t : RunStateView) → step r e ≡ Ok t → Grows t s
        → take (suc m) (run_with_settings b t ∷ states_from es (run_with_settings b t)) ≡ map (run_with_settings b) (take (suc m) (t ∷ states_from es t))
        → take (suc m) (states_after es (step (run_with_settings b r) e)) ≡ map (run_with_settings b) (take (suc m) (t ∷ states_from es t))
    stepped m t o grows rest =
        ap (λ (x : Result RunStateView Verdict). take (suc m) (states_after es x)) (steps_only_use laws r t e b o (agree_at t grows)) ∙ rest

    go : ((k : ℕ) (t u : RunStateView) → slice_get (states_from es t) k ≡ Some u → Agree (consulted_settings_of u) t.host.state.settings b
        → take (suc k) (states_from es (run_with_settings b t)) ≡ map (run_with_settings b) (take (suc k) (states_from es t)))
        → (m : ℕ) (o : Result RunStateView Verdict) → step r e ≡ o → slice_get (states_after es o) m ≡ Some s
        → take (suc m) (states_after es (step (run_with_settings b r) e)) ≡ map (run_with_settings b) (take (suc m) (states_after es o))
    go ih zero (Ok t) o h =
        let same : t ≡ s = cc in
        stepped zero t o (subst (Grows t) same (refl, includes_itself (consulted_settings_of t))) refl
    go ih (suc m) (Ok t) o h =
        let note_tolerance_use = steps_note laws r t e o in
        stepped (suc m) t o (states_grow laws es m t s h)
        (ap (λ (w : List RunStateView). run_with_settings b t ∷ w)
        (ih m t s h (subst (λ (x : Settings). Agree (consulted_settings_of s) x b) (sym note_tolerance_use.0) agree)))
    go ih m (Err v) o h = absurd cc

-- a text's run begins the same, but for the settings held
pub start_again : (header : List HeaderItem) (a b : Settings) (r : RunStateView) → start_of header a ≡ Ok r
    → (start_of header b ≡ Ok (run_with_settings b r)) × (r.host.state.settings ≡ a)
start_again header a b r h = go (find (λ (item : HeaderItem). is_none (tolerance_in item)) header) refl
  where
    go : (o : Option HeaderItem) → find (λ (item : HeaderItem). is_none (tolerance_in item)) header ≡ o
        → (start_of header b ≡ Ok (run_with_settings b r)) × (r.host.state.settings ≡ a)
    go None is =
        let begun = given _ r (rw is at h) in
        (rw is (same_run b _ r begun), ap (λ (q : RunStateView). q.host.state.settings) (sym begun))
    go (Some item) is = absurd (let refused = rw is at h in cc)

-- a run with a state on its way has begun
pub has_begun : (settings : Settings) (p : Parsed) (n : ℕ) (s : RunStateView) → slice_get (states_in settings p) n ≡ Some s
    → (p.fault ≡ None) × (r : RunStateView) × (start_of p.header.items settings ≡ Ok r)
has_begun settings p n s h = by_fault p.fault refl
  where
    by_start : p.fault ≡ None → (o : Result RunStateView Verdict) → start_of p.header.items settings ≡ o
        → (p.fault ≡ None) × (r : RunStateView) × (start_of p.header.items settings ≡ Ok r)
    by_start none (Ok r) is = (none, r, is)
    by_start none (Err v) is = absurd (let nothing = rw (none, is) at h in cc)

    by_fault : (o : Option ℕ) → p.fault ≡ o → (p.fault ≡ None) × (r : RunStateView) × (start_of p.header.items settings ≡ Ok r)
    by_fault None is = by_start is (start_of p.header.items settings) refl
    by_fault (Some line) is = absurd (let nothing = rw is at h in cc)

pub states_begun : (settings : Settings) (p : Parsed) (r : RunStateView) → p.fault ≡ None → start_of p.header.items settings ≡ Ok r
    → states_in settings p ≡ states_from p.events r
states_begun settings p r fault start = rw (fault, start) refl

pub runs_only_use : InputsOnlyUse → RunsOnlyUse
runs_only_use laws text a b n s h agree =
    let p : Parsed = script_of text in
    let begun = has_begun a p n s h in
    let r : RunStateView = begun.1 in
    let other = start_again p.header.items a b r begun.2 in
    let here : states_in a p ≡ states_from p.events r = states_begun a p r begun.0 begun.2 in
    let there : states_in b p ≡ states_from p.events (run_with_settings b r) = states_begun b p (run_with_settings b r) begun.0 other.0 in
    let found : slice_get (states_from p.events r) n ≡ Some s = ap (λ (l : List RunStateView). slice_get l n) (sym here) ∙ h in
    ap (take (suc n)) there
    ∙ same_states laws p.events n r s b found (subst (λ (x : Settings). Agree (consulted_settings_of s) x b) (sym other.1) agree)
    ∙ sym (ap (λ (l : List RunStateView). map (run_with_settings b) (take (suc n) l)) here)
