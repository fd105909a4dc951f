-- Each rule owes this to a property of connections, for every input to keep it.
use Rattle.std.proofs.Common.{◌≡◌, ℕ, ◌≤◌, ◌&&◌, min, nat_lt, Bool, true, false, List, [], ◌∷◌, ◌++◌, Option, Some, None}
use Rattle.std.specs.Prelude.{is_some, IfSome, option_and_then}
use Rattle.pd_settings.specs.declared.settings.Settings.{Settings}
use Rattle.pd_seg.specs.declared.sack_spans.Span.{Span}
use Rattle.pd_seg.specs.declared.segments.Segment.{Segment}
use Rattle.pd_seg.specs.declared.segments.Sent.{Sent}
use Rattle.pd_board.specs.Retransmit.{run_at}
use Rattle.pd_recover.specs.declared.ack_action.AckAction.TheVariants.{NewSegment, FastRetransmit}
use Rattle.pd_recover.specs.declared.next_segment.NextSegment.{NextSegment}
use Rattle.pd_host.specs.AckEffects.{taking, next_by, sent_as, fill_noted_on, entered_on}
use Rattle.pd_host.specs.Arrivals.{failed_check_of, reset_of, with_peer_fin}
use Rattle.pd_host.specs.Calls.{stream_of, is_open, is_unaccepted, with_stream, with_nagle, with_queued, free_of, closed_stream}
use Rattle.pd_host.specs.Connection.{ConnectionView}
use Rattle.pd_host.specs.Expiries.{due_by, resent_by, expired_by}
use Rattle.pd_host.specs.Handshake.{is_supported_syn_while_listening, connection_begun, established_by}
use Rattle.pd_host.specs.Sending.{value_on, ordinary_segment, restarted_if_idle, with_next_past_sacked, sent_on}
use Rattle.pd_host.specs.RttSegment.{timing_started}
use Rattle.pd_host.specs.declared.established.Established.{Established}
use Rattle.pd_host.specs.declared.connection.ack_effects.WindowFill.{WindowFill}
use Rattle.pd_host.specs.declared.descriptors.ListenState.{ListenState}
use Rattle.pd_host.specs.declared.connection.segment_check.SegmentCheck.TheVariants.{FirstAck}
use Rattle.pd_host.specs.declared.endpoint.SenderState.{SenderState}
use Rattle.pd_host.specs.declared.descriptors.StreamState.TheVariants as stream_state

-- a property of the packets that nobody has taken, and of the connection under the settings
pub record Holds (O : List Sent → Type 0) (C : Settings → ConnectionView → Type 0) (s : SenderState) : Type 0 where
  pub packets : O s.endpoint.outbox
  pub connection : IfSome s.endpoint.connection (C s.settings)

-- the moment of the next expiry, where the timer runs
abbrev pub deadline_on : Option ConnectionView → Option ℕ
deadline_on o = option_and_then (λ c. c.timer.deadline) o

-- what is found on a connection
abbrev pub found_on : ConnectionView → Option Established → Option Span
found_on c o = value_on None ordinary_segment c o

abbrev pub next_on : WindowFill → ℕ → ConnectionView → Option Established → Option NextSegment
next_on filling pipe c o = value_on None (next_by filling pipe) c o

-- ordinary sending
pub record KeptBySending (now : ℕ) (C : ConnectionView → Type 0) : Type 0 where
  pub ready : (c : ConnectionView) → C c → C (with_next_past_sacked (restarted_if_idle now c))
  pub sent : (c : ConnectionView) (segment : Span) → C c → found_on c c.established ≡ Some segment → C (with_next_past_sacked (sent_on now segment c))

-- the segment at una
abbrev pub first_run : ConnectionView → Span
first_run c = run_at c.board.una c.board

-- an ACK, and what it leads to: while it is answered, D holds
pub record KeptByAcks (now : ℕ) (C D : ConnectionView → Type 0) : Type 0 where
  pub filled :
      (filling : WindowFill) (pipe : ℕ) (c : ConnectionView) (sent : NextSegment) → D c → next_on filling pipe c c.established ≡ Some sent
      → D (fill_noted_on filling sent (sent_as now sent c) c.established)
  pub entry :
      (c : ConnectionView) → D c → nat_lt (first_run c).start (first_run c).end ≡ true
      → D (entered_on (first_run c) (timing_started now (first_run c) c) c.established)
  pub entry_alone : (c : ConnectionView) → D c → D (entered_on (first_run c) c c.established)
  pub ack :
      (segment : Segment) (c : ConnectionView) → C c → failed_check_of c segment ≡ None → D (taking now segment c c.established).0
  pub new_segment :
      (segment : Segment) (c : ConnectionView) (new : Span) → C c → failed_check_of c segment ≡ None
      → (taking now segment c c.established).1 ≡ NewSegment new → D (sent_on now new (taking now segment c c.established).0)
  pub again :
      (segment : Segment) (c : ConnectionView) (first : Span) → C c → failed_check_of c segment ≡ None
      → (taking now segment c c.established).1 ≡ FastRetransmit first → D (timing_started now first (taking now segment c c.established).0)

-- a connection begins
abbrev pub HoldsFirst : ℕ → (Settings → ConnectionView → Type 0) → Type 0
HoldsFirst now C = (b : Settings) (listener : ListenState) (segment : Segment) → is_supported_syn_while_listening listener segment ≡ true → C b (connection_begun now b segment)

-- arrivals on a connection: C holds between inputs, and D while one is answered by data
pub record KeptByArrivals (now : ℕ) (b : Settings) (C D : ConnectionView → Type 0) : Type 0 where
  pub sending : KeptBySending now D
  pub sent : (c : ConnectionView) → D c → C c
  pub acks : KeptByAcks now C D
  pub established : (segment : Segment) (c : ConnectionView) → C c → failed_check_of c segment ≡ Some FirstAck → C (established_by now b segment c)
  pub is_reset : (c : ConnectionView) → C c → C (reset_of c)
  pub finished : (c : ConnectionView) → C c → C (with_peer_fin c)

-- calls, where the connection meets their condition
pub record KeptByCalls (now : ℕ) (b : Settings) (Q C D : ConnectionView → Type 0) : Type 0 where
  pub sending : KeptBySending now D
  pub sent : (c : ConnectionView) → D c → C c
  pub accepted : (c : ConnectionView) → C c → (is_some c.established && is_unaccepted (stream_of c)) ≡ true → C (with_stream stream_state.Open c)
  pub nagle : (on : Bool) (c : ConnectionView) → C c → C (with_nagle on c)
  pub queued : (n : ℕ) (c : ConnectionView) → Q c → C c → is_open (stream_of c) ≡ true → c.is_reset ≡ false → D (with_queued (min n (free_of b.sndbuf c)) c)
  pub finished : (c : ConnectionView) → Q c → C c → is_open (stream_of c) ≡ true → c.is_reset ≡ false → D (closed_stream c)
  pub abandoned : (c : ConnectionView) → C c → is_open (stream_of c) ≡ true → c.is_reset ≡ true → C (closed_stream c)

-- expiries, each at its moment
pub record KeptByExpiries (O : ℕ → List Sent → Type 0) (C : Settings → ℕ → ConnectionView → Type 0) : Type 0 where
  pub packets : (now at : ℕ) (packets : List Sent) (p : Sent) → now ≤ at → p.at ≡ at → O now packets → O at (packets ++ p ∷ [])
  pub rest : (now until : ℕ) (packets : List Sent) → now ≤ until → O now packets → O until packets
  pub ahead : (b : Settings) (now at : ℕ) (c : ConnectionView) → C b now c → c.timer.deadline ≡ Some at → now ≤ at
  pub handshake :
      (b : Settings) (now at : ℕ) (c : ConnectionView) → C b now c → c.timer.deadline ≡ Some at → c.established ≡ None
      → C b at (resent_by at c)
  pub expired :
      (b : Settings) (now at : ℕ) (c : ConnectionView) (e : Established) → C b now c → c.timer.deadline ≡ Some at → c.established ≡ Some e
      → C b at (expired_by at e c)
  pub idle :
      (b : Settings) (now until : ℕ) (c : ConnectionView) → now ≤ until → C b now c → due_by until c.timer.deadline ≡ None
      → C b until c
