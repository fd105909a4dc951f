-- The octets of a verdict.
use Rattle.std.specs.Prelude.{ℕ, List, ◌++◌, codes}
use Rattle.std.specs.Fmt.{decimal}
use Rattle.pd_match.specs.Kinds.{kind_word}
use Rattle.pd_run.specs.declared.verdict.Verdict.{Verdict}
use Rattle.pd_run.specs.declared.verdict.Verdict.TheVariants.{Pass, Fail, Syntax, Unsupported, Limit}

-- a verdict with its number of events or its line
abbrev pub verdict_text : Verdict → List ℕ
verdict_text (Pass events) = codes "pass " ++ decimal events
verdict_text (Fail line kind) = codes "fail " ++ decimal line ++ codes " " ++ kind_word kind
verdict_text (Syntax line) = codes "syntax " ++ decimal line
verdict_text (Unsupported line) = codes "unsupported " ++ decimal line
verdict_text (Limit line) = codes "limit " ++ decimal line
