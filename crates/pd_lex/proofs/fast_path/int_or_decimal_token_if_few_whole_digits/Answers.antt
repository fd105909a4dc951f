-- The digits are an Int where nothing goes on after them, and a Decimal with what a point adds.
use Rattle.std.proofs.Common.{◌≡◌, ◌≤◌, false, nat_lt, length, take, drop, arith}
use Rattle.std.specs.List.{prefix_len}
use Rattle.std.proofs.lemmas.List.{length-take}
use Rattle.pd_lex.specs.Octets.{is_digit, is_word}
use Rattle.pd_lex.specs.Pieces.{fraction_len}
use Rattle.pd_lex.proofs.Words.{none_goes_on}
use Rattle.pd_lex.proofs.Capped.{few_is}
use Rattle.pd_lex.proofs.FastTokens.{int_piece, decimal_piece}
use Rattle.pd_lex.proofs.fast_path.int_or_decimal_token_if_few_whole_digits.Goals as goal

pub returns-then-more-gt0-clause-piece : goal.returns-then-more-gt0-clause-piece
returns-then-more-gt0-clause-piece c =
    let s = c.args.s.now in
    let f : c.fraction_len-more.result ≡ fraction_len (drop (prefix_len is_digit s) s) = cc in
    rw (c.digit_count_and_wrapping_value-len.ensures.len, f) (decimal_piece s (omega (arith, c.digit_count_and_wrapping_value-len.ensures.len, c.if-len-eq0.false)) (omega (arith, f, c.if-more-gt0.true)))

pub returns-clause-piece : goal.returns-clause-piece
returns-clause-piece c =
    let s = c.args.s.now in
    let f : c.fraction_len-more.result ≡ fraction_len (drop (prefix_len is_digit s) s) = cc in
    let w : nat_lt 0 (prefix_len is_word (drop (prefix_len is_digit s) s)) ≡ false = cc in
    rw c.digit_count_and_wrapping_value-len.ensures.len (int_piece s (omega (arith, c.digit_count_and_wrapping_value-len.ensures.len, c.if-len-eq0.false)) (omega (arith, f, c.if-more-gt0.false)) (none_goes_on (prefix_len is_word (drop (prefix_len is_digit s) s)) w))

pub returns-clause-number : goal.returns-clause-number
returns-clause-number c =
    let s = c.args.s.now in
    let n = prefix_len is_digit s in
    let few : length (take n s) ≤ 9 = omega (arith, length-take n s, c.digit_count_and_wrapping_value-len.ensures.len, c.if-len-gt-FEW.false) in
    λ is. rw (c.digit_count_and_wrapping_value-len.ensures.len, c.digit_count_and_wrapping_value-len.ensures.number) (few_is (take n s) few)
