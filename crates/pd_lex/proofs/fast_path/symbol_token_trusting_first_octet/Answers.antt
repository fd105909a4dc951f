-- A symbol of this class begins no other piece.
use Rattle.pd_lex.proofs.FastTokens.{symbol_front}
use Rattle.pd_lex.proofs.fast_path.symbol_token_trusting_first_octet.Goals as goal

pub returns-clause-piece : goal.returns-clause-piece
returns-clause-piece c = rw c.symbol_token_of.ensures (symbol_front c.args.s.now c.requires.some c.requires.class)
