-- The report of the events that may lead to sending next, where a script awaits a packet that wasn't sent.
use Rattle.std.specs.Prelude.{◌≡◌, ℕ, ◌-◌, List, length, take}
use Rattle.pd_seg.specs.declared.sack_spans.Span.{Span}
use Rattle.pd_host.specs.LossEvidence.{dup_ack_status_in, measured_in, AreSacked}
use Rattle.pd_host.specs.declared.endpoint.SenderState.{SenderState}
use Rattle.pd_cause.specs.declared.causes.outlook.Outlook.{Outlook}
use Rattle.pd_cause.specs.declared.causes.outlook.SackedRanges.{SackedRanges}

-- so many ranges of SACKed octets are listed at most
abbrev pub sacked_limit : ℕ
sacked_limit = 4

-- the lowest ranges of octets that are SACKed are listed, and the others counted
abbrev pub ListsSacked : SenderState → SackedRanges → Type 0
ListsSacked s reported =
    (ranges : List Span) × AreSacked s ranges
    × (reported.ranges.items ≡ take sacked_limit ranges) × (reported.more ≡ length ranges - sacked_limit)

-- the sender's numbers: what a duplicate leads to, how the timeout comes from the measured times, and which octets are SACKed
pub record IsOutlook (s : SenderState) (reported : Outlook) : Type 0 where
  pub dup_ack_effect : reported.dup_ack_effect ≡ dup_ack_status_in s
  pub timeout : reported.timeout ≡ measured_in s
  pub sacked : ListsSacked s reported.sacked
