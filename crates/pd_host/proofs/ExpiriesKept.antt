-- All expiries up to a moment keep each property that each expiry keeps.
use Rattle.std.proofs.Common.{◌≡◌, ℕ, ◌≤◌, nat_le, Bool, true, false, if◌then◌else◌, List, Option, Some, None, Ok, refl, arith}
use Rattle.std.specs.Prelude.{IfSome}
use Rattle.std.proofs.lemmas.Bool.Decides.{nat_tests}
use Rattle.pd_settings.specs.declared.settings.Settings.{Settings}
use Rattle.pd_seg.specs.declared.segments.Sent.{Sent}
use Rattle.pd_host.specs.Connection.{ConnectionView}
use Rattle.pd_host.specs.Expiries.{due_by, deadline_of, expired_on, expired, advanced}
use Rattle.pd_host.specs.Sending.{places_left}
use Rattle.pd_host.specs.declared.established.Established.{Established}
use Rattle.pd_host.specs.declared.endpoint.SenderState.{SenderState}
use Rattle.pd_host.proofs.Kept.{AtEnd, came, repeated_keeps}
use Rattle.pd_host.proofs.Rules.{deadline_on, Holds, KeptByExpiries}

-- a moment that is due is the one that was given, and no later

due_so : (at d : ℕ) (b : Bool) → (if b then Some d else None) ≡ Some at → Some d ≡ Some at
due_so at d true e = e
due_so at d false e = absurd cc

due : (until at : ℕ) (o : Option ℕ) → due_by until o ≡ Some at → o ≡ Some at
due until at None e = absurd cc
due until at (Some d) e = due_so at d (nat_le d until) e

no_later : (until d at : ℕ) → nat_le d until ≡ true → Some d ≡ Some at → at ≤ until
no_later until d at t e = let same : d ≡ at = cc in grind (arith, nat_tests)

due_time_so : (until at d : ℕ) (b : Bool) → nat_le d until ≡ b → (if b then Some d else None) ≡ Some at → at ≤ until
due_time_so until at d true t e = no_later until d at t e
due_time_so until at d false t e = absurd cc

due_time : (until at : ℕ) (o : Option ℕ) → due_by until o ≡ Some at → at ≤ until
due_time until at None e = absurd cc
due_time until at (Some d) e = due_time_so until at d (nat_le d until) refl e

module _ (O : ℕ → List Sent → Type 0) (C : Settings → ℕ → ConnectionView → Type 0) (rules : KeptByExpiries O C) (until : ℕ) where
  abbrev HoldsAt : ℕ → SenderState → Type 0
  HoldsAt now s = Holds (O now) (λ b c. C b now c) s

  -- it holds at some moment up to the last
  record HoldsBy (s : SenderState) : Type 0 where
    moment : ℕ
    in_time : moment ≤ until
    holds : HoldsAt moment s

  on_established : (now at : ℕ) (c : ConnectionView) (o : Option Established) (s : SenderState) → HoldsAt now s → C s.settings now c
      → at ≤ until → c.timer.deadline ≡ Some at → c.established ≡ o → HoldsBy (expired_on at c o s)
  on_established now at c None s h d in_time runs is = record {
    moment = at;
    in_time = in_time;
    holds = record {
      packets = rules.packets now at s.endpoint.outbox _ (rules.ahead s.settings now at c d runs) refl h.packets;
      connection = rules.handshake s.settings now at c d runs is;
    };
  }
  on_established now at c (Some e) s h d in_time runs is = record {
    moment = at;
    in_time = in_time;
    holds = record {
      packets = rules.packets now at s.endpoint.outbox _ (rules.ahead s.settings now at c d runs) refl h.packets;
      connection = rules.expired s.settings now at c e d runs is;
    };
  }

  on_connection : (at : ℕ) (o : Option ConnectionView) (s : SenderState) (h : HoldsBy s) → IfSome o (C s.settings h.moment)
      → due_by until (deadline_on o) ≡ Some at → HoldsBy (expired at o s)
  on_connection at None s h d e = h
  on_connection at (Some c) s h d e =
      on_established h.moment at c c.established s h.holds d (due_time until at c.timer.deadline e) (due until at c.timer.deadline e) refl

  at_last : (b : Settings) (now : ℕ) (o : Option ConnectionView) → now ≤ until → IfSome o (C b now) → due_by until (deadline_on o) ≡ None
      → IfSome o (C b until)
  at_last b now None in_time d e = tt
  at_last b now (Some c) in_time d e = rules.idle b now until c in_time d e

  end_reason : (t : SenderState) → AtEnd HoldsBy (λ t. due_by until (deadline_of t)) t → HoldsAt until t
  end_reason t h = record {
    packets = rules.rest h.0.moment until t.endpoint.outbox h.0.in_time h.0.holds.packets;
    connection = at_last t.settings h.0.moment t.endpoint.connection h.0.in_time h.0.holds.connection h.1;
  }

  pub advanced_holds : (now : ℕ) (s t : SenderState) → now ≤ until → HoldsAt now s → advanced until s ≡ Ok t → HoldsAt until t
  advanced_holds now s t in_time h is =
      end_reason t (came (AtEnd HoldsBy (λ u. due_by until (deadline_of u))) (advanced until s) t
      (repeated_keeps HoldsBy (λ u. due_by until (deadline_of u)) (λ at u. expired at u.endpoint.connection u)
      (λ u at k e. on_connection at u.endpoint.connection u k k.holds.connection e)
      (places_left s) s (record { moment = now; in_time = in_time; holds = h })) is)
