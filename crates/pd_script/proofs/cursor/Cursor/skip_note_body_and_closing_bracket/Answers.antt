use Rattle.std.proofs.Common.{◌≡◌, ◌∙◌, sym, ℕ, [], true, false}
use Rattle.std.proofs.lemmas.Result.{err_from_is_err_and}
use Rattle.pd_script.specs.Reader.{machine_at}
use Rattle.pd_script.specs.ArgumentReading.{note_move, note_part_at, is_last}
use Rattle.pd_script.proofs.NoteLaws.{note_goes, note_stuck, note_ends}
use Rattle.pd_script.proofs.Taking.{err_skips}
use Rattle.pd_script.proofs.cursor.Cursor.skip_note_body_and_closing_bracket.Goals as goal

pub returns-then-is_at_note_end : goal.returns-then-is_at_note_end
returns-then-is_at_note_end c =
    let last : is_last c.tokens.pairs c.tokens.self ≡ true = cc (c.is_at_note_end.ensures, c.if-is_at_note_end.true) in
    rw c.advance.ensures (sym c.tokens.invariant ∙ note_ends c.tokens.pairs c.tokens.self last)

pub returns-in_err-pairs : goal.returns-in_err-pairs
returns-in_err-pairs c =
    let p = err_from_is_err_and c.from_residual.result c.from_residual.ensures.1 in
    let more : is_last c.tokens.pairs c.tokens.self ≡ false = cc (c.is_at_note_end.ensures, c.if-is_at_note_end.false) in
    rw (p.1, p.2) (err_skips ℕ c.in_err-pairs.field-0.0 c.take_note_token_giving_open_pairs.new.self (note_part_at c.tokens.pairs c.tokens.self) (machine_at note_move [] c.args.self.now) (rw c.in_err-pairs.was at c.take_note_token_giving_open_pairs.ensures) (λ e. sym c.tokens.invariant ∙ note_stuck c.tokens.pairs c.tokens.self c.take_note_token_giving_open_pairs.new.self more e))

pub tokens-preserved : goal.tokens-preserved
tokens-preserved c =
    let more : is_last c.tokens.pairs c.tokens.self ≡ false = cc (c.is_at_note_end.ensures, c.if-is_at_note_end.false) in
    let got = rw c.in_ok-pairs.was at c.take_note_token_giving_open_pairs.ensures in
    let G = note_goes c.tokens.pairs c.in_ok-pairs.pairs c.tokens.self c.take_note_token_giving_open_pairs.new.self more got in
    sym G.0 ∙ c.tokens.invariant
