-- The runs that the sender hands out are those that are listed.
use Rattle.pd_cause.proofs.causes.outlook.lowest_sacked_ranges_of_sender.Goals as goal

pub returns : goal.returns
returns c = (c.sacked_runs.result.now, c.sacked_runs.ensures, c.in_ok-sacked.ensures.listed, c.in_ok-sacked.ensures.more)
