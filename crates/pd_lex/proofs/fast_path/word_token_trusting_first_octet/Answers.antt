-- A run that begins with no digit is a word.
use Rattle.pd_lex.proofs.FastTokens.{name_piece}
use Rattle.pd_lex.proofs.fast_path.word_token_trusting_first_octet.Goals as goal

pub returns-clause-piece : goal.returns-clause-piece
returns-clause-piece c = rw c.word_len_trusting_first_octet.ensures.len (name_piece c.args.s.now c.requires)
