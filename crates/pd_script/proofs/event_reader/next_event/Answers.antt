-- The next event is the grammar's.
use Rattle.pd_script.proofs.NextLaws.{next_is_so, next_goes_on}
use Rattle.pd_script.proofs.event_reader.next_event.Goals as goal

pub returns-clause-spelled : goal.returns-clause-spelled
returns-clause-spelled c = next_is_so c.args.lines.now c.law_invariant.ensures c.law_lexing_resumes_at_token_end.ensures c.args.place c.in_ok-next.next (rw c.at.ensures at c.in_ok-next.ensures.next)

pub returns-clause-goes_on : goal.returns-clause-goes_on
returns-clause-goes_on c = next_goes_on c.args.lines.now c.law_invariant.ensures c.law_lexing_resumes_at_token_end.ensures c.args.place c.in_ok-next.next (rw c.at.ensures at c.in_ok-next.ensures.next)
