-- The digits, and what goes on after them.
use Rattle.std.proofs.Common.{◌≡◌, ◌∙◌, true, false, nat_lt, drop, arith}
use Rattle.std.specs.List.{prefix_len}
use Rattle.pd_lex.specs.Octets.{is_digit, is_word}
use Rattle.pd_lex.specs.Pieces.{fraction_len}
use Rattle.pd_lex.proofs.Fronts.{positive}
use Rattle.pd_lex.proofs.Words.{decimal_is, int_is, run_is, none_goes_on}
use Rattle.pd_lex.proofs.scan.number_or_word_at.Goals as goal

pub returns-then-f-gt0-clause-piece : goal.returns-then-f-gt0-clause-piece
returns-then-f-gt0-clause-piece c =
    let f : c.fraction_len-f.result ≡ fraction_len (drop (prefix_len is_digit c.args.s.now) c.args.s.now) = cc in
    rw (c.digits_len-digits.ensures.len, f) (decimal_is c.args.s.now (omega (arith, f, c.if-f-gt0.true)))

pub returns-then-starts_with_word_octet-clause-piece : goal.returns-then-starts_with_word_octet-clause-piece
returns-then-starts_with_word_octet-clause-piece c =
    let w : nat_lt 0 (prefix_len is_word (drop (prefix_len is_digit c.args.s.now) c.args.s.now)) ≡ true = cc in
    c.hex_or_word_at.ensures.piece ∙ run_is c.args.s.now (positive (prefix_len is_word (drop (prefix_len is_digit c.args.s.now) c.args.s.now)) w)

pub returns-else-starts_with_word_octet-clause-piece : goal.returns-else-starts_with_word_octet-clause-piece
returns-else-starts_with_word_octet-clause-piece c =
    let f : c.fraction_len-f.result ≡ fraction_len (drop (prefix_len is_digit c.args.s.now) c.args.s.now) = cc in
    let w : nat_lt 0 (prefix_len is_word (drop (prefix_len is_digit c.args.s.now) c.args.s.now)) ≡ false = cc in
    rw c.digits_len-digits.ensures.len (int_is c.args.s.now (omega (arith, f, c.if-f-gt0.false)) (none_goes_on (prefix_len is_word (drop (prefix_len is_digit c.args.s.now) c.args.s.now)) w))
