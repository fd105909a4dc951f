-- At which moments packets left and the next expiry lies, whatever came in.
use Rattle.std.specs.Prelude.{◌≡◌, ℕ, ◌+◌, ◌<◌, ◌≤◌, ⊤, List, [], ◌∷◌, Option, Some, None, Ok, IfSome}
use Rattle.std.specs.List.{AllByRecursion}
use Rattle.pd_settings.specs.declared.settings.Settings.{Settings}
use Rattle.pd_script.specs.declared.calls.Call.{Call}
use Rattle.pd_seg.specs.declared.call_results.Answer.{Answer}
use Rattle.pd_seg.specs.declared.segments.Segment.{Segment}
use Rattle.pd_seg.specs.declared.segments.Sent.{Sent}
use Rattle.pd_timer.specs.Laws.{IsBoundedBy}
use Rattle.pd_host.specs.Arrivals.{arrived}
use Rattle.pd_host.specs.Calls.{called}
use Rattle.pd_host.specs.Connection.{ConnectionView}
use Rattle.pd_host.specs.Expiries.{advanced, deadline_of}
use Rattle.pd_host.specs.Host.{HostView, fresh_host, without_oldest}
use Rattle.pd_host.specs.declared.endpoint.SenderState.{SenderState}

-- packets are in the order of their moments, none of which is later than this one
abbrev pub AreInOrder : ℕ → List Sent → Type 0
AreInOrder now [] = ⊤
AreInOrder now (p ∷ packets) = (p.at ≤ now) × (AllByRecursion (λ q. p.at ≤ q.at) packets × AreInOrder now packets)

-- the state of a sender at a moment, with all expiries up to it performed, whose connection was begun under these settings:
-- the packets are in order, the connection's RTO lies within the bounds that the settings say, and the next expiry lies
-- ahead, by at most the greatest RTO
pub record IsUpTo (b : Settings) (now : ℕ) (s : SenderState) : Type 0 where
  pub packets : AreInOrder now s.endpoint.outbox
  pub timer : IfSome s.endpoint.connection (λ c. IsBoundedBy b c.timer)
  pub deadline : IfSome (deadline_of s) (λ at. (now < at) × (at ≤ now + b.max_rto_us))

-- the settings that the connection goes by which one more input leaves: those held where the input begins it, else its own
abbrev pub begun_under : (held b : Settings) → Option ConnectionView → Settings
begun_under held b None = held
begun_under held b (Some c) = b

-- so it is at the start, where no connection was begun,
abbrev pub StartsUpToDate : Type 0
StartsUpToDate = (settings : Settings) → IsUpTo settings 0 (fresh_host settings).state

-- at a later moment after all expiries up to it,
abbrev pub AdvancesKeepUp : Type 0
AdvancesKeepUp =
    (b : Settings) (now until : ℕ) (s t : SenderState) → now ≤ until → IsUpTo b now s → advanced until s ≡ Ok t → IsUpTo b until t

-- after an arrival at that moment: a connection that the arrival begins goes by the settings held then, and one that was
-- begun before goes on by its own,
abbrev pub ArrivalsKeepUp : Type 0
ArrivalsKeepUp =
    (b : Settings) (segment : Segment) (now : ℕ) (s t : SenderState) → IsUpTo b now s → arrived segment now s ≡ Ok t
    → IsUpTo (begun_under s.settings b s.endpoint.connection) now t

-- after a call at that moment,
abbrev pub CallsKeepUp : Type 0
CallsKeepUp =
    (b : Settings) (call : Call) (now : ℕ) (s t : SenderState) (answer : Answer) → IsUpTo b now s → called call now s ≡ Ok (t, answer)
    → IsUpTo b now t

-- and without its oldest packet
abbrev pub TakingKeepsUp : Type 0
TakingKeepsUp = (b : Settings) (now : ℕ) (sender : HostView) → IsUpTo b now sender.state → IsUpTo b now (without_oldest sender).state
