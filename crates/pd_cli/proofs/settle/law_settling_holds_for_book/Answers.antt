use Rattle.pd_cli.proofs.settle.law_settling_holds_for_book.Goals as goal

pub returns-clause-turns : goal.returns-clause-turns
returns-clause-turns c = c.law_settling_ends_with_none_pending.ensures.turns c.args.book.now.history.opening c.args.book.now.history.past c.law_invariant.ensures

pub returns-clause-starts : goal.returns-clause-starts
returns-clause-starts c = c.law_settling_ends_with_none_pending.ensures.starts c.args.book.now.history c.law_invariant.ensures
