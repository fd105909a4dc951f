-- The origin of a packet that a run put out: an event's own input, or the timer.
use Rattle.std.specs.Prelude.{◌≡◌, Bool, true, false, ℕ, ◌+◌, ◌<◌, ◌≤◌, min, List, [], ◌∷◌, length, take, slice_get, None, Some, Result, Ok, Err, if◌then◌else◌}
use Rattle.pd_settings.specs.declared.settings.Settings.{Settings}
use Rattle.pd_script.specs.declared.parsed.Parsed.{Parsed}
use Rattle.pd_script.specs.declared.script_events.Action.{Action}
use Rattle.pd_script.specs.declared.script_events.Action.TheVariants.{Inbound, Outbound, Call as Calls}
use Rattle.pd_script.specs.declared.script_events.Event.{Event}
use Rattle.pd_seg.specs.declared.call_results.Answer.{Answer}
use Rattle.pd_seg.specs.declared.segments.Sent.{Sent}
use Rattle.pd_host.specs.Expiries.{advanced}
use Rattle.pd_host.specs.declared.endpoint.SenderState.{SenderState}
use Rattle.pd_host.specs.declared.halts.Halt.{Halt}
use Rattle.pd_run.specs.Prechecks.{failed_precheck}
use Rattle.pd_run.specs.Laws.{unmatched}
use Rattle.pd_run.specs.Run.{start_of, states_from}
use Rattle.pd_run.specs.Step.{RunStateView, on_step, comparison_noted, action_time_not_before_clock, arrives, answers, awaited}
use Rattle.pd_cause.specs.declared.origins.Origin.{Origin}
use Rattle.pd_cause.specs.declared.origins.Trigger.{Trigger}
use Rattle.pd_cause.specs.declared.origins.Trigger.TheVariants.{Line, Timer}

-- the runs of a script before its first, second, .. event, up to the stop
abbrev pub stages : Settings → Parsed → List RunStateView
stages settings parsed = on_step (λ r. r ∷ states_from parsed.events r) (λ v. []) (start_of parsed.header.items settings)

-- an action awaits a packet
abbrev pub awaits_packet : Action → Bool
awaits_packet (Outbound p) = true
awaits_packet _ = false

-- how many packets an event takes that passes: one where it awaits one
abbrev pub count_packets_matched_by : Event → ℕ
count_packets_matched_by e = if awaits_packet e.action then 1 else 0

-- how many packets so many events take that pass
abbrev pub taken_by : List Event → ℕ
taken_by [] = 0
taken_by (e ∷ es) = count_packets_matched_by e + taken_by es

-- the packets that nobody has taken in the state that came, where one did, else those of before
abbrev pub packets_in : List Sent → Result SenderState Halt → List Sent
packets_in before (Ok s) = s.endpoint.outbox
packets_in before (Err halt) = before

-- the same after a call
abbrev pub packets_after : List Sent → Result (SenderState × Answer) Halt → List Sent
packets_after before (Ok (s, answer)) = s.endpoint.outbox
packets_after before (Err halt) = before

-- those where all expiries up to an event's moment are over, or the one that it awaits
abbrev pub put_out_by_timer : RunStateView → Event → Action → List Sent
put_out_by_timer r e (Outbound p) = on_step unmatched (λ w. unmatched r) (awaited (comparison_noted r) e)
put_out_by_timer r e _ = packets_in (unmatched r) (advanced (action_time_not_before_clock r e) r.host.state)

-- those where what the event's own input leads to is over too, and none is taken yet
abbrev pub put_out_by_input : RunStateView → Event → Action → List Sent
put_out_by_input r e (Inbound p) = packets_in (put_out_by_timer r e (Inbound p)) (arrives r e p)
put_out_by_input r e (Calls call) = packets_after (put_out_by_timer r e (Calls call)) (answers r e call)
put_out_by_input r e action = put_out_by_timer r e action

-- both of an event
abbrev pub after_timer : RunStateView → Event → List Sent
after_timer r e = put_out_by_timer r e e.action

abbrev pub after_input : RunStateView → Event → List Sent
after_input r e = put_out_by_input r e e.action

-- Packets have numbers in the order of putting out, from 0: those that were taken before, and then those that nobody has taken.

-- a number that is reached, after so many were taken, with these packets, and not with those before
abbrev pub IsReached : ℕ → List Sent → List Sent → ℕ → Type 0
IsReached taken before after number = (taken + length before ≤ number) × (number < taken + length after)

-- the trigger of the packet with a number in an event, before which so many were taken: the timer where it was put out by then,
-- else the event's line
abbrev pub IsLetGo : ℕ → RunStateView → Event → ℕ → Trigger → Type 0
IsLetGo taken r e number Timer = IsReached taken (unmatched r) (after_timer r e) number
IsLetGo taken r e number (Line line) = IsReached taken (after_timer r e) (after_input r e) number × (line ≡ e.line)

-- this let the packet of a script's run go that has a number: in one of its events, which no check bars
pub record IsSentBy (settings : Settings) (parsed : Parsed) (number : ℕ) (trigger : Trigger) : Type 0 where
  pub passed : ℕ
  pub run : RunStateView
  pub event : Event
  pub stage : slice_get (stages settings parsed) passed ≡ Some run
  pub found : slice_get parsed.events passed ≡ Some event
  pub unbarred : failed_precheck run.base event ≡ None
  pub let_go : IsLetGo (taken_by (take passed parsed.events)) run event number trigger

-- a law: nothing else let it go
abbrev pub OriginsAreUnique : Type 0
OriginsAreUnique =
    (settings : Settings) (parsed : Parsed) (number : ℕ) (a b : Trigger)
    → IsSentBy settings parsed number a → IsSentBy settings parsed number b → a ≡ b

-- so many packets are reported at most: the one compared, and ten others
abbrev pub listed_packets : ℕ
listed_packets = 11

-- the origin of a packet of a script's run with a number: what let it go, and its own moment and rule
abbrev pub IsOriginOf : Settings → Parsed → ℕ → Sent → Origin → Type 0
IsOriginOf settings parsed number sent origin =
    IsSentBy settings parsed number origin.trigger × (origin.at ≡ sent.at) × (origin.rule ≡ sent.rule)

-- the origins of the oldest unmatched packets after so many events
pub record AreOrigins (settings : Settings) (parsed : Parsed) (passed : ℕ) (packets : List Sent) (origins : List Origin) : Type 0 where
  pub all : length origins ≡ min listed_packets (length packets)
  pub each :
      (place : ℕ) (sent : Sent) (origin : Origin) → slice_get packets place ≡ Some sent → slice_get origins place ≡ Some origin
      → IsOriginOf settings parsed (taken_by (take passed parsed.events) + place) sent origin
