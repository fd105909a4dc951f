use Rattle.pd_mend.proofs.Staying.{stay}
use Rattle.pd_mend.proofs.laws.law_other_lines_stay.Goals as goal

pub returns : goal.returns
returns c = stay
