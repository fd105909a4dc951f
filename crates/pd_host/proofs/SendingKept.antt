-- Ordinary sending keeps each property that it keeps segment by segment.
use Rattle.std.proofs.Common.{◌≡◌, ℕ, List, [], ◌∷◌, ◌++◌, Option, Some, None, refl}
use Rattle.std.specs.Prelude.{IfSome}
use Rattle.pd_settings.specs.declared.settings.Settings.{Settings}
use Rattle.pd_seg.specs.declared.sack_spans.Span.{Span}
use Rattle.pd_seg.specs.declared.segments.Segment.{Segment}
use Rattle.pd_seg.specs.declared.segments.Sent.{Sent}
use Rattle.pd_seg.specs.declared.send_rule.SendRule.{SendRule}
use Rattle.pd_host.specs.Connection.{ConnectionView}
use Rattle.pd_host.specs.Sending.{with_begun_connection, with_packet_sent, places_left, found, sent_ordinarily, ready, ordinary}
use Rattle.pd_host.specs.declared.endpoint.SenderState.{SenderState}
use Rattle.pd_host.proofs.Kept.{Comes, repeated_holds}
use Rattle.pd_host.proofs.Rules.{Holds, KeptBySending}

-- one packet more is kept
abbrev pub TakesOne : ℕ → (List Sent → Type 0) → Type 0
TakesOne now O = (packets : List Sent) (p : Sent) → p.at ≡ now → O packets → O (packets ++ p ∷ [])

module _ (now : ℕ) (O : List Sent → Type 0) (C : Settings → ConnectionView → Type 0) (more : (b : Settings) (c : ConnectionView) → C b c → TakesOne now O) where
  -- a segment is put out, and leaves this connection
  pub placed_where : (rule : SendRule) (segment : Segment) (c : ConnectionView) (s : SenderState) → Holds O C s → C s.settings c
      → Holds O C (with_packet_sent now rule segment (with_begun_connection c s))
  placed_where rule segment c s h d = record { packets = more s.settings c d s.endpoint.outbox _ refl h.packets; connection = d }

  module _ (rules : (b : Settings) → KeptBySending now (C b)) where
    ordinarily : (o : Option ConnectionView) (segment : Span) (s : SenderState) → Holds O C s → IfSome o (C s.settings) → found o ≡ Some segment
        → Holds O C (sent_ordinarily now segment o s)
    ordinarily None segment s h d e = h
    ordinarily (Some c) segment s h d e = placed_where _ _ _ s h ((rules s.settings).sent c segment d e)

    made_ready : (o : Option ConnectionView) (s : SenderState) → Holds O C s → IfSome o (C s.settings) → Holds O C (ready now o s)
    made_ready None s h d = h
    made_ready (Some c) s h d = record { packets = h.packets; connection = (rules s.settings).ready c d }

    pub ordinary_where : (s : SenderState) → Holds O C s → Comes (Holds O C) (ordinary now s)
    ordinary_where s h =
        repeated_holds (Holds O C) (λ t. found t.endpoint.connection) (λ segment t. sent_ordinarily now segment t.endpoint.connection t)
        (λ t segment k e. ordinarily t.endpoint.connection segment t k k.connection e)
        (places_left (ready now s.endpoint.connection s)) (ready now s.endpoint.connection s)
        (made_ready s.endpoint.connection s h h.connection)

-- the same where any packet may be put out

pub placed : (now : ℕ) (O : List Sent → Type 0) (C : Settings → ConnectionView → Type 0) → TakesOne now O
    → (rule : SendRule) (segment : Segment) (c : ConnectionView) (s : SenderState) → Holds O C s → C s.settings c → Holds O C (with_packet_sent now rule segment (with_begun_connection c s))
placed now O C more = placed_where now O C (λ b c d. more)

pub ordinary_holds : (now : ℕ) (O : List Sent → Type 0) (C : Settings → ConnectionView → Type 0) → TakesOne now O
    → ((b : Settings) → KeptBySending now (C b)) → (s : SenderState) → Holds O C s → Comes (Holds O C) (ordinary now s)
ordinary_holds now O C more = ordinary_where now O C (λ b c d. more)
