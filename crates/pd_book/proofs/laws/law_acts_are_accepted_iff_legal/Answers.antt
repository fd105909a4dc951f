-- Exactly accepted calls keep a history legal.
use Rattle.pd_book.proofs.Legality.{adds_legal, edits_legal, removes_legal, sets_legal, adds_accepted, edits_accepted, removes_accepted, sets_accepted, starts_legal, finishes_legal, abandons_legal}
use Rattle.pd_book.proofs.laws.law_acts_are_accepted_iff_legal.Goals as goal

pub returns-clause-adds : goal.returns-clause-adds
returns-clause-adds c = adds_legal

pub returns-clause-edits : goal.returns-clause-edits
returns-clause-edits c = edits_legal

pub returns-clause-removes : goal.returns-clause-removes
returns-clause-removes c = removes_legal

pub returns-clause-sets : goal.returns-clause-sets
returns-clause-sets c = sets_legal

pub returns-clause-starts : goal.returns-clause-starts
returns-clause-starts c = starts_legal

pub returns-clause-finishes : goal.returns-clause-finishes
returns-clause-finishes c = finishes_legal

pub returns-clause-abandons : goal.returns-clause-abandons
returns-clause-abandons c = abandons_legal

pub returns-clause-added : goal.returns-clause-added
returns-clause-added c = adds_accepted

pub returns-clause-edited : goal.returns-clause-edited
returns-clause-edited c = edits_accepted

pub returns-clause-removed : goal.returns-clause-removed
returns-clause-removed c = removes_accepted

pub returns-clause-assigned : goal.returns-clause-assigned
returns-clause-assigned c = sets_accepted
