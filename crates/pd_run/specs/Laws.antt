-- The laws of every step that goes on, whatever the checks and their order.
use Rattle.std.specs.Prelude.{◌≡◌, ◌⊎◌, ℕ, ◌+◌, ◌*◌, ◌≤◌, List, [], ◌∷◌, slice_get, Some, None, Ok}
use Rattle.std.specs.List.{AllByRecursion}
use Rattle.pd_settings.specs.declared.settings.Settings.{Settings}
use Rattle.pd_script.specs.declared.calls.Call.{Call}
use Rattle.pd_script.specs.declared.packets.Packet.{Packet}
use Rattle.pd_script.specs.declared.script_events.Action.TheVariants.{Outbound, Call as Calls}
use Rattle.pd_script.specs.declared.script_events.Event.{Event}
use Rattle.pd_script.specs.declared.script_header.HeaderItem.{HeaderItem}
use Rattle.pd_seg.specs.declared.call_results.Answer.{Answer}
use Rattle.pd_seg.specs.declared.segments.Sent.{Sent}
use Rattle.pd_host.specs.Expiries.{advanced, deadline_of}
use Rattle.pd_host.specs.Laws.{IsUpTo}
use Rattle.pd_host.specs.Host.{queued_to}
use Rattle.pd_host.specs.declared.endpoint.SenderState.{SenderState}
use Rattle.pd_match.specs.Agreement.{Agrees, IsResult}
use Rattle.pd_match.specs.Packets.{compared_fields}
use Rattle.pd_run.specs.Run.{start_of}
use Rattle.pd_run.specs.Consulted.{run_with_settings}
use Rattle.pd_run.specs.RunStates.{RunStateView, KeepsTime}
use Rattle.pd_run.specs.Step.{tolerance_of, comparison_noted, answers, awaited, step}
use Rattle.pd_run.specs.Times.{time_range_of}

-- where an expected packet passes, one had left: the oldest that nobody had taken agrees with it in every field
abbrev pub PassedPacketsAgree : Type 0
PassedPacketsAgree =
    (r s : RunStateView) (e : Event) (p : Packet) → e.action ≡ Outbound p → step r e ≡ Ok s
    → (t : RunStateView) × (sent : Sent) × (awaited (comparison_noted r) e ≡ Ok t)
    × (slice_get t.host.state.endpoint.outbox 0 ≡ Some sent)
    × AllByRecursion (Agrees p (time_range_of t.base e.time) sent (tolerance_of t)) compared_fields

-- the packets that nobody has taken
abbrev pub unmatched : RunStateView → List Sent
unmatched r = r.host.state.endpoint.outbox

-- those of which the oldest is the one that was expected: those that nobody had taken, and where there were none those that
-- the next expiry put out
abbrev pub AreAwaited : RunStateView → List Sent → Type 0
AreAwaited r packets =
    (packets ≡ unmatched r)
    ⊎ ((at : ℕ) × (s : SenderState) × (unmatched r ≡ []) × (deadline_of r.host.state ≡ Some at)
    × (advanced at r.host.state ≡ Ok s) × (packets ≡ s.endpoint.outbox))

-- where an expected packet passes, the oldest of these is taken, and all others stay
abbrev pub PassedPacketsAreTaken : Type 0
PassedPacketsAreTaken =
    (r s : RunStateView) (e : Event) (p : Packet) → e.action ≡ Outbound p → step r e ≡ Ok s
    → (t : RunStateView) × (sent : Sent) × (awaited (comparison_noted r) e ≡ Ok t)
    × AreAwaited r (unmatched t) × (unmatched t ≡ sent ∷ unmatched s)

-- where a call passes, the sender answered the written result
abbrev pub PassedCallsAnswer : Type 0
PassedCallsAnswer =
    (r s : RunStateView) (e : Event) (call : Call) → e.action ≡ Calls call → step r e ≡ Ok s
    → (t : SenderState) × (answer : Answer) × (answers r e call ≡ Ok (t, answer)) × IsResult call.result answer

-- no event changes the tolerance
abbrev pub ToleranceStays : Type 0
ToleranceStays = (r s : RunStateView) (e : Event) → step r e ≡ Ok s → tolerance_of s ≡ tolerance_of r

-- a run that goes on, after n events: its sender hasn't ended and is up to date, the clock and the base lie at most 3,600
-- seconds an event after the start, and at most 262,144 octets an event were queued
pub record IsUnderway (n : ℕ) (r : RunStateView) : Type 0 where
  pub live : r.host.end_reason ≡ None
  pub clock : r.clock ≤ 3600000000 * n
  pub base : r.base ≤ 3600000000 * n
  pub up_to : KeepsTime r.clock r.host.state
  pub queued : queued_to r.host.state.endpoint.connection ≤ 262144 * n

-- so it is before the first event,
abbrev pub StartsUnderway : Type 0
StartsUnderway = (header : List HeaderItem) (settings : Settings) (r : RunStateView) → start_of header settings ≡ Ok r → IsUnderway 0 r

-- and after each step that goes on
abbrev pub StepsGoOn : Type 0
StepsGoOn = (n : ℕ) (r s : RunStateView) (e : Event) → IsUnderway n r → step r e ≡ Ok s → IsUnderway (n + 1) s

-- it stays so under other settings
abbrev pub OtherSettingsGoOn : Type 0
OtherSettingsGoOn = (n : ℕ) (r : RunStateView) (settings : Settings) → IsUnderway n r → IsUnderway n (run_with_settings settings r)

-- a run that holds the settings that its connection was begun under: the timeout lies within the bounds that they say,
-- and the next expiry lies ahead, by at most the greatest timeout
abbrev pub IsHeldUnder : RunStateView → Type 0
IsHeldUnder r = IsUpTo r.host.state.settings r.clock r.host.state

-- so it is before the first event,
abbrev pub StartsHeld : Type 0
StartsHeld = (header : List HeaderItem) (settings : Settings) (r : RunStateView) → start_of header settings ≡ Ok r → IsHeldUnder r

-- and after each step where it was so
abbrev pub StepsStayHeld : Type 0
StepsStayHeld = (n : ℕ) (r s : RunStateView) (e : Event) → IsUnderway n r → IsHeldUnder r → step r e ≡ Ok s → IsHeldUnder s
