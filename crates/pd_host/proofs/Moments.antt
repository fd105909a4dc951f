-- At which moments packets left, and where the next expiry lies.
use Rattle.std.proofs.Common.{◌≡◌, ℕ, ◌≤◌, nat_le, List, [], ◌∷◌, ◌++◌, drop, Bool, true, false, if◌then◌else◌, Option, Some, None, Ok, refl, sym, subst, arith}
use Rattle.std.specs.Prelude.{IfSome}
use Rattle.std.specs.List.{AllByRecursion}
use Rattle.std.proofs.lemmas.Bool.Decides.{nat_tests}
use Rattle.pd_settings.specs.declared.settings.Settings.{Settings}
use Rattle.pd_seg.specs.declared.segments.Segment.{Segment}
use Rattle.pd_seg.specs.declared.segments.Sent.{Sent}
use Rattle.pd_timer.specs.Laws.{IsBoundedBy, StaysWithin}
use Rattle.pd_host.specs.Arrivals.{arrived}
use Rattle.pd_host.specs.Connection.{ConnectionView}
use Rattle.pd_host.specs.Expiries.{due_by}
use Rattle.pd_host.specs.InputLaws.{OtherSettingsKeepUp}
use Rattle.pd_host.specs.Laws.{AreInOrder, IsUpTo, begun_under, StartsUpToDate, AdvancesKeepUp, ArrivalsKeepUp, CallsKeepUp, TakingKeepsUp}
use Rattle.pd_host.specs.declared.endpoint.SenderState.{SenderState}
use Rattle.pd_host.proofs.ArrivalsKept.{arrived_holds, arrived_later}
use Rattle.pd_host.proofs.CallsKept.{called_holds}
use Rattle.pd_host.proofs.ExpiriesKept.{advanced_holds}
use Rattle.pd_host.proofs.Noted.{arrivals_note}
use Rattle.pd_host.proofs.Rules.{deadline_on, Holds, KeptByExpiries}
use Rattle.pd_host.proofs.Timely.{IsAhead, IsTimely, backed_off_timely, first_timely, arrivals_timely, calls_timely}

pub later : (now until : ℕ) (packets : List Sent) → now ≤ until → AreInOrder now packets → AreInOrder until packets
later now until [] le h = tt
later now until (p ∷ packets) le h = (omega (arith, h.0, le), (h.1.0, later now until packets le h.1.1))

none_before : (n : ℕ) (packets : List Sent) (p : Sent) → n ≤ p.at → AllByRecursion (λ q. n ≤ q.at) packets → AllByRecursion (λ q. n ≤ q.at) (packets ++ p ∷ [])
none_before n [] p le h = (le, tt)
none_before n (q ∷ packets) p le h = (h.0, none_before n packets p le h.1)

pub one_more : (now : ℕ) (packets : List Sent) (p : Sent) → p.at ≡ now → AreInOrder now packets → AreInOrder now (packets ++ p ∷ [])
one_more now [] p at h = (omega (arith, at), (tt, tt))
one_more now (q ∷ packets) p at h = (h.0, (none_before q.at packets p (omega (arith, at, h.0)) h.1.0, one_more now packets p at h.1.1))

one_less : (now : ℕ) (packets : List Sent) → AreInOrder now packets → AreInOrder now (drop 1 packets)
one_less now [] h = tt
one_less now (p ∷ packets) h = h.1.1

-- the timer's part of it, by whether there is a connection

joined : (b : Settings) (now : ℕ) (o : Option ConnectionView) → IfSome o (λ c. IsBoundedBy b c.timer) → IfSome (deadline_on o) (IsAhead b now)
    → IfSome o (λ c. IsTimely b now c.timer)
joined b now None g d = tt
joined b now (Some c) g d = record { bounds = g; deadline = d }

bounds_of : (b : Settings) (now : ℕ) (o : Option ConnectionView) → IfSome o (λ c. IsTimely b now c.timer) → IfSome o (λ c. IsBoundedBy b c.timer)
bounds_of b now None h = tt
bounds_of b now (Some c) h = h.bounds

deadline_in : (b : Settings) (now : ℕ) (o : Option ConnectionView) → IfSome o (λ c. IsTimely b now c.timer) → IfSome (deadline_on o) (IsAhead b now)
deadline_in b now None h = tt
deadline_in b now (Some c) h = h.deadline

abbrev pub Good : Settings → ℕ → SenderState → Type 0
Good b now s = Holds (AreInOrder now) (λ _ c. IsTimely b now c.timer) s

pub good : (b : Settings) (now : ℕ) (s : SenderState) → IsUpTo b now s → Good b now s
good b now s h = record { packets = h.packets; connection = joined b now s.endpoint.connection h.timer h.deadline }

pub up_to : (b : Settings) (now : ℕ) (s : SenderState) → Good b now s → IsUpTo b now s
up_to b now s h = record {
  packets = h.packets;
  timer = bounds_of b now s.endpoint.connection h.connection;
  deadline = deadline_in b now s.endpoint.connection h.connection;
}

-- expiries

ahead_of : (b : Settings) (now at : ℕ) (o : Option ℕ) → IfSome o (IsAhead b now) → o ≡ Some at → now ≤ at
ahead_of b now at None h e = absurd cc
ahead_of b now at (Some d) h e = let same : d ≡ at = cc in omega (arith, h.0, same)

not_due : (b : Settings) (now until d : ℕ) (x : Bool) → nat_le d until ≡ x → (if x then Some d else None) ≡ None → now ≤ until → IsAhead b now d
    → IsAhead b until d
not_due b now until d true t e le h = absurd cc
not_due b now until d false t e le h = (grind (arith, nat_tests), omega (arith, h.1, le))

still_ahead : (b : Settings) (now until : ℕ) (o : Option ℕ) → now ≤ until → IfSome o (IsAhead b now) → due_by until o ≡ None → IfSome o (IsAhead b until)
still_ahead b now until None le h e = tt
still_ahead b now until (Some d) le h e = not_due b now until d (nat_le d until) refl e le h

-- by the settings held, or by others
pub expiries : StaysWithin → (which : Settings → Settings) → KeptByExpiries AreInOrder (λ held now c. IsTimely (which held) now c.timer)
expiries within which = record {
  packets = λ now at packets p le e h. one_more at packets p e (later now at packets le h);
  rest = λ now until packets le h. later now until packets le h;
  ahead = λ held now at c h e. ahead_of (which held) now at c.timer.deadline h.deadline e;
  handshake = λ held now at c h e is. backed_off_timely within (which held) at c.timer h.bounds;
  expired = λ held now at c e h d is. backed_off_timely within (which held) at c.timer h.bounds;
  idle = λ held now until c le h e.
      record { bounds = h.bounds; deadline = still_ahead (which held) now until c.timer.deadline le h.deadline e };
}

pub starts_up_to_date : StartsUpToDate
starts_up_to_date settings = record { packets = tt; timer = tt; deadline = tt }

pub advances_keep_up : StaysWithin → AdvancesKeepUp
advances_keep_up within b now until s t le h came =
    up_to b until t
    (advanced_holds AreInOrder (λ _ now c. IsTimely b now c.timer) (expiries within (λ _. b)) until now s t le (good b now s h) came)

-- a connection that begins goes by the settings held,
first_arrival : StaysWithin → (segment : Segment) (now : ℕ) (s t : SenderState) → s.endpoint.connection ≡ None → AreInOrder now s.endpoint.outbox
    → arrived segment now s ≡ Ok t → IsUpTo s.settings now t
first_arrival within segment now s t none packets came =
    let after : Holds (AreInOrder now) (λ b c. IsTimely b now c.timer) t =
    arrived_holds now (AreInOrder now) (λ b c. IsTimely b now c.timer) (λ b c. IsTimely b now c.timer) (one_more now) (λ b. arrivals_timely within now b b)
    (first_timely within now) segment s t (record { packets = packets; connection = subst (λ o. IfSome o (λ c. IsTimely s.settings now c.timer)) (sym none) tt }) came in
    subst (λ b. IsUpTo b now t) (arrivals_note segment now s t came).settings (up_to t.settings now t (record { packets = after.packets; connection = after.connection }))

-- and one that was begun goes on by its own
later_arrival : StaysWithin → (b : Settings) (segment : Segment) (now : ℕ) (c : ConnectionView) (s t : SenderState) → s.endpoint.connection ≡ Some c
    → IsUpTo b now s → arrived segment now s ≡ Ok t → IsUpTo b now t
later_arrival within b segment now c s t on h came =
    up_to b now t (arrived_later now (AreInOrder now) (λ _ c. IsTimely b now c.timer) (λ _ c. IsTimely b now c.timer) (one_more now)
    (arrivals_timely within now b) segment c s t on (good b now s h) came)

pub arrivals_keep_up : StaysWithin → ArrivalsKeepUp
arrivals_keep_up within b segment now s t h came = go s.endpoint.connection refl
  where
    go : (o : Option ConnectionView) → s.endpoint.connection ≡ o → IsUpTo (begun_under s.settings b o) now t
    go None on = first_arrival within segment now s t on h.packets came
    go (Some c) on = later_arrival within b segment now c s t on h came

pub anything : (o : Option ConnectionView) → IfSome o (λ _. Unit {0})
anything None = tt
anything (Some c) = tt

pub calls_keep_up : StaysWithin → CallsKeepUp
calls_keep_up within b call now s t answer h came =
    up_to b now t (called_holds now (AreInOrder now) (λ _ c. IsTimely b now c.timer) (λ _ c. IsTimely b now c.timer) (λ _. Unit {0}) (one_more now)
    (calls_timely within now b) call s t answer (anything s.endpoint.connection) (good b now s h) came)

pub taking_keeps_up : TakingKeepsUp
taking_keeps_up b now sender h =
    record { packets = one_less now sender.state.endpoint.outbox h.packets; timer = h.timer; deadline = h.deadline }

pub rebinding_keeps_up : OtherSettingsKeepUp
rebinding_keeps_up b settings now s h = record { packets = h.packets; timer = h.timer; deadline = h.deadline }
