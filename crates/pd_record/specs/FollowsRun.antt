-- How the recording of a text that passes follows its run.
use Rattle.std.specs.Prelude.{◌≡◌, ℕ, List, [], ◌∷◌, ◌++◌, map, take, Option, Some, None, Ok}
use Rattle.pd_settings.specs.declared.settings.Settings.{Settings}
use Rattle.pd_script.specs.Script.{script_of}
use Rattle.pd_script.specs.declared.calls.Argument.{Argument}
use Rattle.pd_script.specs.declared.calls.Function.{Function}
use Rattle.pd_script.specs.declared.packets.Packet.{Packet}
use Rattle.pd_script.specs.declared.script_events.Action.{Action}
use Rattle.pd_script.specs.declared.script_events.Action.TheVariants.{Inbound, Outbound, Call as Calls}
use Rattle.pd_script.specs.declared.script_events.Event.{Event}
use Rattle.pd_seg.specs.declared.segments.Sent.{Sent}
use Rattle.pd_print.specs.Sent.{packet_of}
use Rattle.pd_run.specs.Run.{on_script, verdict_of}
use Rattle.pd_run.specs.Step.{RunStateView, comparison_noted, action_time_not_before_clock, awaited, on_step, step}
use Rattle.pd_run.specs.declared.verdict.Verdict.TheVariants.{Pass}
use Rattle.pd_record.specs.Recording.{RecordedScriptView, recording_of, events_in, events_of}
use Rattle.pd_record.specs.Recorder.{EventRecordingView}
use Rattle.pd_record.specs.declared.recorded.OwnEvent.{OwnEvent}
use Rattle.pd_record.specs.declared.recorded.RecordedEvent.{RecordedEvent}

-- an input of a sender: a packet, or a call of a function with arguments
pub data Input : Type 0 where
  arrives : Packet → Input
  calls : Function → List Argument → Input

-- an action at a moment, if it is an input
abbrev pub input_at : ℕ → Action → List (ℕ × Input)
input_at at (Inbound packet) = (at, arrives packet) ∷ []
input_at at (Calls call) = (at, calls call.function call.arguments) ∷ []
input_at at _ = []

-- the inputs of a run, in their order, each with the moment at which it acts
abbrev pub inputs_from : List Event → RunStateView → List (ℕ × Input)
inputs_from [] r = []
inputs_from (e ∷ es) r = input_at (action_time_not_before_clock r e) e.action ++ on_step (inputs_from es) (λ v. []) (step r e)

-- the packet that a run takes at an action, if it expects one: the oldest unmatched one, else the one that the next expiry sends
abbrev pub matched_at : RunStateView → Event → Action → List Sent
matched_at r e (Outbound packet) = on_step (λ s. take 1 s.host.state.endpoint.outbox) (λ v. []) (awaited (comparison_noted r) e)
matched_at r e _ = []

-- the packets that a run takes, in their order
abbrev pub matched_from : List Event → RunStateView → List Sent
matched_from [] r = []
matched_from (e ∷ es) r = matched_at r e e.action ++ on_step (matched_from es) (λ v. []) (step r e)

-- the inputs of the run of a text under settings
abbrev pub inputs_of : List (List ℕ) → Settings → List (ℕ × Input)
inputs_of text settings = let parsed = script_of text in on_script (λ line. []) (λ v. []) (inputs_from parsed.events) settings parsed

-- the packets that it takes
abbrev pub matched_of_run : List (List ℕ) → Settings → List Sent
matched_of_run text settings = let parsed = script_of text in on_script (λ line. []) (λ v. []) (matched_from parsed.events) settings parsed

-- the event in the place of one of the script
abbrev pub own_event_in : Option OwnEvent → List RecordedEvent
own_event_in None = []
own_event_in (Some own) = own.recorded ∷ []

-- all that was recorded of events of the script, in its order
abbrev pub all_own_events : List EventRecordingView → List RecordedEvent
all_own_events [] = []
all_own_events (took ∷ others) = (took.before ++ own_event_in took.own) ++ all_own_events others

-- all that was recorded
abbrev pub all_of : RecordedScriptView → List RecordedEvent
all_of recorded_script = all_own_events recorded_script.per_event ++ recorded_script.rest

-- the inputs among what was recorded, each with its moment
abbrev pub inputs_in : List RecordedEvent → List (ℕ × Input)
inputs_in [] = []
inputs_in (x ∷ xs) = input_at x.at x.event.action ++ inputs_in xs

-- an action at a moment, if a packet leaves
abbrev pub departure_at : ℕ → Action → List (ℕ × Packet)
departure_at at (Outbound packet) = (at, packet) ∷ []
departure_at at _ = []

-- the packets among what was recorded, each with its moment
abbrev pub departures_in : List RecordedEvent → List (ℕ × Packet)
departures_in [] = []
departures_in (x ∷ xs) = departure_at x.at x.event.action ++ departures_in xs

-- a packet that was sent, as one of a script, with its moment
abbrev pub departed : Sent → ℕ × Packet
departed sent = (sent.at, packet_of sent.segment)

-- a recording follows the run of its text: its inputs are those of the run, each at its moment there, and the packets that the
-- run took come first among its packets, in their order and at their moments
pub record FollowsRun (text : List (List ℕ)) (settings : Settings) (recorded_script : RecordedScriptView) : Type 0 where
  pub all : events_of recorded_script ≡ events_in (all_of recorded_script)
  pub inputs : inputs_in (all_of recorded_script) ≡ inputs_of text settings
  pub packets : (more : List (ℕ × Packet)) × (departures_in (all_of recorded_script) ≡ map departed (matched_of_run text settings) ++ more)

-- a law: so does each recording of a text that passes
abbrev pub RecordingsFollowRuns : Type 0
RecordingsFollowRuns =
    (text : List (List ℕ)) (settings : Settings) (n : ℕ) (recorded_script : RecordedScriptView)
    → verdict_of text settings ≡ Pass n → recording_of text settings ≡ Ok recorded_script → FollowsRun text settings recorded_script
