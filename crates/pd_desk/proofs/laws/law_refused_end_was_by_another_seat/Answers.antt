-- Another seat ended the job.
use Rattle.pd_desk.proofs.Others.{finished_by_another, abandoned_by_another}
use Rattle.pd_desk.proofs.laws.law_refused_end_was_by_another_seat.Goals as goal

pub returns-clause-finished : goal.returns-clause-finished
returns-clause-finished c = finished_by_another

pub returns-clause-abandoned : goal.returns-clause-abandoned
returns-clause-abandoned c = abandoned_by_another
