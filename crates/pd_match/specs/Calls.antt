-- When the answer of a call is the one that a script expects.
use Rattle.std.specs.Prelude.{ℤ, pos, negsuc, neg_ℤ, Bool, true, false, ◌&&◌, if◌then◌else◌, Option, Some, None}
use Rattle.std.specs.Ordering.{int_eq}
use Rattle.pd_script.specs.declared.calls.ErrorName.{ErrorName}
use Rattle.pd_script.specs.declared.calls.ErrorName.TheVariants as named
use Rattle.pd_script.specs.declared.calls.ExpectedResult.{ExpectedResult}
use Rattle.pd_script.specs.declared.calls.ExpectedResult.TheVariants.{Int, Hex, Negative}
use Rattle.pd_seg.specs.declared.call_results.Answer.{Answer}
use Rattle.pd_seg.specs.declared.call_results.Answer.TheVariants.{Number, Error}
use Rattle.pd_seg.specs.declared.call_results.Errno.TheVariants as answered
use Rattle.pd_match.specs.declared.kinds.Kind.{Kind}
use Rattle.pd_match.specs.declared.kinds.Kind.TheVariants.{Result}

-- the number of a written result
abbrev pub value_written : ExpectedResult → ℤ
value_written (Int n) = pos n
value_written (Hex n) = pos n
value_written (Negative n _) = neg_ℤ (pos n)

-- the number that a script sees of an answer: an error is -1
abbrev pub value_answered : Answer → ℤ
value_answered (Number n) = pos n
value_answered (Error _) = negsuc 0

-- the answer is the error of this name
abbrev pub is_answered : ErrorName → Answer → Bool
is_answered named.Ebadf (Error answered.Ebadf) = true
is_answered named.Einval (Error answered.Einval) = true
is_answered named.Eagain (Error answered.Eagain) = true
is_answered named.Epipe (Error answered.Epipe) = true
is_answered _ _ = false

-- where an error is named, it is the answer
abbrev pub same_error : ExpectedResult → Answer → Bool
same_error (Negative _ (Some name)) answer = is_answered name answer
same_error _ _ = true

-- the result differs in its number or in its error
abbrev pub result_mismatch : ExpectedResult → Answer → Option Kind
result_mismatch expected_result answer =
    if int_eq (value_written expected_result) (value_answered answer) && same_error expected_result answer then None else Some Result
