use Rattle.pd_protocol.proofs.Digits.{no_count}
use Rattle.pd_protocol.proofs.numbers.parse_count_of_at_most_six_digits.Goals as goal

pub returns-in-None : goal.returns-in-None
returns-in-None c = no_count c.args.word.now c.in-None.ensures
