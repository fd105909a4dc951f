use Rattle.pd_layout.proofs.Pairs.{equals_outside, notes_outside}
use Rattle.pd_layout.proofs.laws.law_equals_and_note_end_are_first_outside.Goals as goal

pub returns-clause-equals : goal.returns-clause-equals
returns-clause-equals c = equals_outside

pub returns-clause-notes : goal.returns-clause-notes
returns-clause-notes c = notes_outside
