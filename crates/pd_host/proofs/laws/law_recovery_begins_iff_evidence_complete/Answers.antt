-- The law holds.
use Rattle.pd_host.proofs.Needed.{needed_is_needed}
use Rattle.pd_host.proofs.laws.law_recovery_begins_iff_evidence_complete.Goals as goal

pub returns : goal.returns
returns c = needed_is_needed
