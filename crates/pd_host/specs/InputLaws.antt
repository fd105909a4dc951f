-- The laws of every arrival, call and expiry, whatever the checks and their order.
use Rattle.std.specs.Prelude.{◌≡◌, ℕ, true, false, List, ◌++◌, Some, Ok}
use Rattle.std.specs.List.{AllByRecursion}
use Rattle.pd_settings.specs.SettingSets.{Agree, Includes}
use Rattle.pd_settings.specs.declared.settings.Settings.{Settings}
use Rattle.pd_script.specs.declared.calls.Call.{Call}
use Rattle.pd_seg.specs.declared.call_results.Answer.{Answer}
use Rattle.pd_seg.specs.declared.segments.Segment.{Segment}
use Rattle.pd_seg.specs.declared.segments.Sent.{Sent}
use Rattle.pd_host.specs.Arrivals.{is_in_window, arrived}
use Rattle.pd_host.specs.Calls.{called}
use Rattle.pd_host.specs.Connection.{ConnectionView, rcv_nxt}
use Rattle.pd_host.specs.Expiries.{advanced}
use Rattle.pd_host.specs.Laws.{AreInOrder, IsUpTo}
use Rattle.pd_host.specs.Host.{HostView}
use Rattle.pd_host.specs.declared.endpoint.SenderState.{SenderState}

-- a segment with a number outside the receive window leaves the connection as it is (RFC 9293, section 3.10.7.4;
-- RFC 5961, section 3.2)
abbrev pub OutsideIsHarmless : Type 0
OutsideIsHarmless =
    (segment : Segment) (now : ℕ) (s t : SenderState) (c : ConnectionView) → s.endpoint.connection ≡ Some c
    → is_in_window c segment ≡ false → arrived segment now s ≡ Ok t → t.endpoint.connection ≡ Some c

-- nothing but an RST at RCV.NXT resets a connection (RFC 5961, section 3)
abbrev pub OnlyAnExactRstResets : Type 0
OnlyAnExactRstResets =
    (segment : Segment) (now : ℕ) (s t : SenderState) (c d : ConnectionView) → s.endpoint.connection ≡ Some c
    → t.endpoint.connection ≡ Some d → c.is_reset ≡ false → d.is_reset ≡ true → arrived segment now s ≡ Ok t
    → (segment.flags.rst ≡ true) × (segment.start ≡ rcv_nxt c)

-- a packet that was put out at a moment follows those that nobody has taken, and carries that moment
abbrev pub IsAfter : ℕ → SenderState → SenderState → Type 0
IsAfter now s t =
    (packets : List Sent) × AllByRecursion (λ p. p.at ≡ now) packets × (t.endpoint.outbox ≡ s.endpoint.outbox ++ packets)

-- so does what an arrival puts out
abbrev pub PutsOutAfter : Type 0
PutsOutAfter = (segment : Segment) (now : ℕ) (s t : SenderState) → arrived segment now s ≡ Ok t → IsAfter now s t

-- and what a call puts out
abbrev pub CallsPutOutAfter : Type 0
CallsPutOutAfter = (call : Call) (now : ℕ) (s t : SenderState) (answer : Answer) → called call now s ≡ Ok (t, answer) → IsAfter now s t

-- the packets that the expiries up to a moment put out follow the others, in the order of their moments, none of them later
abbrev pub AdvancesPutOutAfter : Type 0
AdvancesPutOutAfter =
    (until : ℕ) (s t : SenderState) → advanced until s ≡ Ok t
    → (packets : List Sent) × AreInOrder until packets × (t.endpoint.outbox ≡ s.endpoint.outbox ++ packets)

-- the same state with other settings held
abbrev pub with_settings : Settings → SenderState → SenderState
with_settings settings s = record s { settings = settings }

-- the same host with other settings held
abbrev pub host_with_settings : Settings → HostView → HostView
host_with_settings settings host = record host { state = with_settings settings host.state }

-- other settings that are held leave a connection's timer and the packets as they are
abbrev pub OtherSettingsKeepUp : Type 0
OtherSettingsKeepUp = (b settings : Settings) (now : ℕ) (s : SenderState) → IsUpTo b now s → IsUpTo b now (with_settings settings s)

-- other settings that agree on all that was consulted up to after an arrival give that arrival
abbrev pub OnlyUsesMatter : Type 0
OnlyUsesMatter =
    (segment : Segment) (now : ℕ) (s t : SenderState) (settings : Settings) → arrived segment now s ≡ Ok t
    → Agree t.consulted_settings s.settings settings → arrived segment now (with_settings settings s) ≡ Ok (with_settings settings t)

-- and that call, with its answer
abbrev pub CallsOnlyUse : Type 0
CallsOnlyUse =
    (call : Call) (now : ℕ) (s t : SenderState) (answer : Answer) (settings : Settings) → called call now s ≡ Ok (t, answer)
    → Agree t.consulted_settings s.settings settings → called call now (with_settings settings s) ≡ Ok (with_settings settings t, answer)

-- expiries consult none
abbrev pub AdvancesUseNone : Type 0
AdvancesUseNone =
    (until : ℕ) (s t : SenderState) (settings : Settings) → advanced until s ≡ Ok t
    → advanced until (with_settings settings s) ≡ Ok (with_settings settings t)

-- settings stay as they are, and what was consulted stays noted
pub record Notes (s t : SenderState) : Type 0 where
  pub settings : t.settings ≡ s.settings
  pub consulted_settings : Includes t.consulted_settings s.consulted_settings

-- so it is in an arrival
abbrev pub ArrivalsNote : Type 0
ArrivalsNote = (segment : Segment) (now : ℕ) (s t : SenderState) → arrived segment now s ≡ Ok t → Notes s t

-- in a call
abbrev pub CallsNote : Type 0
CallsNote = (call : Call) (now : ℕ) (s t : SenderState) (answer : Answer) → called call now s ≡ Ok (t, answer) → Notes s t

-- and in expiries
abbrev pub AdvancesNote : Type 0
AdvancesNote = (until : ℕ) (s t : SenderState) → advanced until s ≡ Ok t → Notes s t
