-- The evidence that may lead to sending next: the evidence of a loss so far, and how much is needed; the SACKed octets; and the
-- measurements of the timer.
use Rattle.std.specs.Prelude.{◌≡◌, ℕ, ◌+◌, ◌-◌, ◌*◌, ◌<◌, ◌≤◌, ◌==◌, nat_lt, nat_le, Bool, true, false, ◌||◌, List, [], Option, Some, None, if◌then◌else◌}
use Rattle.pd_seg.specs.declared.sack_spans.Span.{Span}
use Rattle.pd_board.specs.Board.{BoardView}
use Rattle.pd_board.specs.Loss.{dup_thresh, sacked_above, runs_above, is_lost}
use Rattle.pd_board.specs.Runs.{AreRuns}
use Rattle.pd_timer.specs.Rto.{timeout_in}
use Rattle.pd_timer.specs.declared.estimate.Timeout.{Timeout}
use Rattle.pd_recover.specs.Acks.{acked, is_rfc5681_duplicate}
use Rattle.pd_recover.specs.Cong.{CongView}
use Rattle.pd_recover.specs.declared.ack.Ack.{Ack}
use Rattle.pd_recover.specs.declared.ack.SackNews.{SackNews}
use Rattle.pd_host.specs.Connection.{ConnectionView}
use Rattle.pd_host.specs.declared.connection.loss_evidence.DupAckEffect.{DupAckEffect}
use Rattle.pd_host.specs.declared.connection.loss_evidence.DupAckEffect.TheVariants.{Below, Counted}
use Rattle.pd_host.specs.declared.connection.loss_evidence.LossEvidence.{LossEvidence}
use Rattle.pd_host.specs.declared.connection.loss_evidence.SackEvidence.{SackEvidence}
use Rattle.pd_host.specs.declared.endpoint.SenderState.{SenderState}
use Rattle.pd_host.specs.declared.established.Established.{Established}

-- the octets SACKed above una, and how many show una to be lost (RFC 6675, section 4, IsLost)
abbrev pub sack_evidence_of : BoardView → SackEvidence
sack_evidence_of s = record {
  octets = sacked_above s.una s;
  most = (dup_thresh - 1) * s.smss;
  runs = runs_above s.una s;
  needed = dup_thresh;
}

-- the evidence of a loss so far, and how much begins recovery (RFC 6675, section 5; RFC 5681, section 3.2)
abbrev pub loss_evidence_of : ConnectionView → CongView → LossEvidence
loss_evidence_of c w = record {
  dup_acks = w.dup_acks;
  needed = dup_thresh;
  sacked = if c.sack then Some (sack_evidence_of c.board) else None;
}

-- a duplicate is looked at where octets are outstanding and no recovery goes on, unless an RST has ended the connection; below
-- RecoveryPoint none begins recovery (RFC 6675, sections 5 and 5.1)
abbrev pub established_loss_evidence_or_barring_point : ConnectionView → Established → Option DupAckEffect
established_loss_evidence_or_barring_point c e =
    if c.is_reset || (e.congestion.recovering || c.board.una == c.board.top) then None
    else (if nat_lt c.board.una e.congestion.recovery_point then Some (Below e.congestion.recovery_point)
    else Some (Counted (loss_evidence_of c e.congestion)))

abbrev pub dup_ack_status_of : ConnectionView → Option DupAckEffect
dup_ack_status_of c = by c.established
  where
    by : Option Established → Option DupAckEffect
    by None = None
    by (Some e) = established_loss_evidence_or_barring_point c e

-- the effect of a duplicate at the sender
abbrev pub dup_ack_status_in : SenderState → Option DupAckEffect
dup_ack_status_in s = by s.endpoint.connection
  where
    by : Option ConnectionView → Option DupAckEffect
    by None = None
    by (Some c) = dup_ack_status_of c

-- how the timeout comes from what was measured, by the granularity that the connection has
abbrev pub timeout_of : ConnectionView → Option Timeout
timeout_of c = by c.established
  where
    by : Option Established → Option Timeout
    by None = None
    by (Some e) = timeout_in e.granularity_us c.timer

-- the same at the sender
abbrev pub measured_in : SenderState → Option Timeout
measured_in s = by s.endpoint.connection
  where
    by : Option ConnectionView → Option Timeout
    by None = None
    by (Some c) = timeout_of c

-- ranges are those that are SACKed: the maximal runs in ascending order, none before a SYN has begun a connection
abbrev pub AreSacked : SenderState → List Span → Type 0
AreSacked s ranges = by s.endpoint.connection
  where
    by : Option ConnectionView → Type 0
    by None = ranges ≡ []
    by (Some c) = AreRuns c.board ranges

-- an ACK that acknowledges nothing new, while no recovery goes on
pub record Repeats (ack : Ack) (w : CongView) : Type 0 where
  pub nothing : ack.acked ≡ 0
  pub idle : w.recovering ≡ false

-- a law: exactly the evidence that is shown is needed. A duplicate begins recovery where as many have come with it, or where una
-- is lost; and una is lost where as many runs, or more octets, are SACKed above it. Below RecoveryPoint none begins it.
pub record LossEvidenceIsNeeded : Type 0 where
  pub with_sack :
      (c : ConnectionView) (w : CongView) (ack : Ack) (sack_news : SackNews) → Repeats ack w → w.recovery_point ≤ ack.una
      → ack.sack ≡ Some sack_news → sack_news.fresh ≡ true
      → (acked ack w).0.recovering ≡ (nat_le (loss_evidence_of c w).needed ((loss_evidence_of c w).dup_acks + 1) || sack_news.lost)
  pub without_sack :
      (c : ConnectionView) (w : CongView) (ack : Ack) → Repeats ack w → w.recovery_point ≤ ack.una
      → ack.sack ≡ None → is_rfc5681_duplicate ack ≡ true → (loss_evidence_of c w).dup_acks < (loss_evidence_of c w).needed
      → (acked ack w).0.recovering ≡ nat_le (loss_evidence_of c w).needed ((loss_evidence_of c w).dup_acks + 1)
  pub sacked :
      (s : BoardView)
      → is_lost s.una s ≡ (nat_le (sack_evidence_of s).needed (sack_evidence_of s).runs || nat_lt (sack_evidence_of s).most (sack_evidence_of s).octets)
  pub below : (w : CongView) (ack : Ack) → Repeats ack w → ack.una < w.recovery_point → (acked ack w).0.recovering ≡ false
