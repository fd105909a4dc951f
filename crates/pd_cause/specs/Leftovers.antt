-- The packets that a script that passes leaves at its end.
use Rattle.std.specs.Prelude.{◌≡◌, ℕ, ◌-◌, ◌==◌, Bool, true, false, ◌&&◌, is_some, List, [], ◌∷◌, map, take, length, slice_get, option_map, unwrap_or, Option, Some, None}
use Rattle.std.specs.List.{list_any}
use Rattle.pd_settings.specs.declared.settings.Settings.{Settings}
use Rattle.pd_script.specs.Script.{script_of}
use Rattle.pd_script.specs.declared.parsed.Parsed.{Parsed}
use Rattle.pd_script.specs.declared.script_events.Event.{Event}
use Rattle.pd_seg.specs.declared.segments.Sent.{Sent}
use Rattle.pd_run.specs.Laws.{unmatched}
use Rattle.pd_run.specs.Run.{on_script, verdict_in}
use Rattle.pd_run.specs.Step.{RunStateView, on_step, step}
use Rattle.pd_run.specs.declared.verdict.Verdict.{Verdict}
use Rattle.pd_run.specs.declared.verdict.Verdict.TheVariants.{Pass}
use Rattle.pd_cause.specs.AlignedPackets.{sent_text}
pub use Rattle.pd_cause.specs.Origins.{awaits_packet}
use Rattle.pd_cause.specs.Origins.{AreOrigins}
use Rattle.pd_cause.specs.SenderSnapshots.{snapshot_of}
use Rattle.pd_cause.specs.declared.causes.failure.Unmatched.{Unmatched}
use Rattle.pd_cause.specs.declared.leftovers.Leftovers.{Leftovers}

-- the run after the last of some events, where each passes
abbrev pub end_from : List Event → RunStateView → Option RunStateView
end_from [] r = Some r
end_from (e ∷ es) r = on_step (end_from es) (λ v. None) (step r e)

-- the run at the end of a script that was read, on a fresh host; nothing where it stops before
abbrev pub end_in : Settings → Parsed → Option RunStateView
end_in settings parsed = on_script (λ line. None) (λ v. None) (end_from parsed.events) settings parsed

-- all events passed
abbrev pub is_pass : Verdict → Bool
is_pass (Pass n) = true
is_pass _ = false

-- a law: a script passes exactly where its run comes to its end
abbrev pub PassesHaveEnds : Type 0
PassesHaveEnds = (settings : Settings) (parsed : Parsed) → is_some (end_in settings parsed) ≡ is_pass (verdict_in settings parsed)

-- some event awaits a packet
abbrev pub awaits_any_packet : List Event → Bool
awaits_any_packet events = list_any (λ (e : Event). awaits_packet e.action) events

-- the line of the last event; 1 where there is none
abbrev pub last_event_line : List Event → ℕ
last_event_line events = unwrap_or (option_map (λ (e : Event). e.line) (slice_get events (length events - 1))) 1

-- the oldest ten packets are listed, and the others counted
abbrev pub Lists : ℕ → List Sent → Unmatched → Type 0
Lists base packets reported = (map (λ packet. packet.items) reported.packets.items ≡ map (sent_text base) (take 10 packets)) × (reported.more ≡ length packets - 10)

-- the leftovers of a run at its end: nothing where a packet was awaited and none is left
abbrev pub IsLeftoversOf : Settings → Parsed → RunStateView → Option Leftovers → Type 0
IsLeftoversOf settings parsed r None = (awaits_any_packet parsed.events ≡ true) × (unmatched r ≡ [])
IsLeftoversOf settings parsed r (Some reported) =
    ((awaits_any_packet parsed.events && length (unmatched r) == 0) ≡ false)
    × (reported.line ≡ last_event_line parsed.events)
    × (reported.awaits ≡ awaits_any_packet parsed.events)
    × Lists r.base (unmatched r) reported.unmatched
    × AreOrigins settings parsed (length parsed.events) (unmatched r) reported.origins.items
    × (reported.sender ≡ snapshot_of r.host)

-- the leftovers of a text's run: nothing where the run stops before
abbrev pub IsLeftovers : List (List ℕ) → Settings → Option Leftovers → Type 0
IsLeftovers text settings reported = by (end_in settings (script_of text))
  where
    by : Option RunStateView → Type 0
    by None = reported ≡ None
    by (Some r) = IsLeftoversOf settings (script_of text) r reported
