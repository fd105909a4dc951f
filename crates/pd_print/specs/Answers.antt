-- How the answers of calls are written.
use Rattle.std.specs.Prelude.{codes, ℕ, List, ◌++◌, Some}
use Rattle.std.specs.Fmt.{decimal}
use Rattle.pd_script.specs.Values.{error_name}
use Rattle.pd_script.specs.declared.calls.ErrorName.{ErrorName}
use Rattle.pd_script.specs.declared.calls.ErrorName.TheVariants as named
use Rattle.pd_script.specs.declared.calls.ExpectedResult.{ExpectedResult}
use Rattle.pd_script.specs.declared.calls.ExpectedResult.TheVariants.{Int, Negative}
use Rattle.pd_seg.specs.declared.call_results.Answer.{Answer}
use Rattle.pd_seg.specs.declared.call_results.Answer.TheVariants.{Number, Error}
use Rattle.pd_seg.specs.declared.call_results.Errno.{Errno}
use Rattle.pd_seg.specs.declared.call_results.Errno.TheVariants as answered

-- the name of an error
abbrev pub name_of : Errno → ErrorName
name_of answered.Ebadf = named.Ebadf
name_of answered.Einval = named.Einval
name_of answered.Eagain = named.Eagain
name_of answered.Epipe = named.Epipe

-- the answer as a script writes it: digits, or -1 and the name of the error
abbrev pub answer_text : Answer → List ℕ
answer_text (Number n) = decimal n
answer_text (Error e) = codes "-1 " ++ error_name (name_of e)

-- the result of a script that is this answer
abbrev pub expected_result_of : Answer → ExpectedResult
expected_result_of (Number n) = Int n
expected_result_of (Error e) = Negative 1 (Some (name_of e))
