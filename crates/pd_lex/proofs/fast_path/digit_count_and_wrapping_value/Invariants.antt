-- The digits so far and those of what is left are all; the number goes on from theirs.
use Rattle.std.proofs.Common.{◌≡◌, ◌+◌, ◌-◌, ◌≤◌, length, take}
use Rattle.std.specs.Prelude.{fold}
use Rattle.std.specs.List.{prefix_len}
use Rattle.pd_lex.specs.Octets.{is_digit}
use Rattle.pd_lex.specs.Scanned.{wrapped_digit}
use Rattle.pd_lex.proofs.fast_path.digit_count_and_wrapping_value.Given as goal

abbrev pub invariant-loop-rest : goal.invariant-loop-rest
invariant-loop-rest l = record {
  within : length l.rest ≤ length l.s;
  len : prefix_len is_digit l.s ≡ (length l.s - length l.rest) + prefix_len is_digit l.rest;
  number : fold wrapped_digit 0 (take (prefix_len is_digit l.s) l.s) ≡ fold wrapped_digit l.number (take (prefix_len is_digit l.rest) l.rest);
}

abbrev pub decreases-loop-rest : goal.decreases-loop-rest
decreases-loop-rest l = length l.rest
