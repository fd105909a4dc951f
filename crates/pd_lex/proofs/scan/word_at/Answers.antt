-- A run that begins with no digit is no number.
use Rattle.pd_lex.proofs.Words.{name_is}
use Rattle.pd_lex.proofs.scan.word_at.Goals as goal

pub returns-clause-piece : goal.returns-clause-piece
returns-clause-piece c = rw c.word_len.ensures.len (name_is c.args.s.now c.requires)
