-- Settling by turns comes to an end.
use Rattle.pd_book.proofs.Legality.{starts_outstanding, turns_legal}
use Rattle.pd_book.proofs.Settlement.{turns_suffice, settles_all}
use Rattle.pd_book.proofs.Turns.{turns_settle, none_owed}
use Rattle.pd_book.proofs.laws.law_settling_ends_with_none_pending.Goals as goal

pub returns-clause-starts : goal.returns-clause-starts
returns-clause-starts c = starts_outstanding

pub returns-clause-turns : goal.returns-clause-turns
returns-clause-turns c = turns_settle

pub returns-clause-end : goal.returns-clause-end
returns-clause-end c = none_owed

pub returns-clause-legal : goal.returns-clause-legal
returns-clause-legal c = turns_legal

pub returns-clause-enough : goal.returns-clause-enough
returns-clause-enough c = turns_suffice

pub returns-clause-settles : goal.returns-clause-settles
returns-clause-settles c = settles_all
