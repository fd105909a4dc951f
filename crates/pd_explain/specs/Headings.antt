-- The first line of a block.
use Rattle.std.specs.Prelude.{◌≡◌, ℕ, ◌==◌, List, ◌++◌, codes, if◌then◌else◌}
use Rattle.std.specs.Fmt.{decimal}
use Rattle.pd_match.specs.Kinds.{kind_word}
use Rattle.pd_match.specs.declared.kinds.Kind.{Kind}
use Rattle.pd_match.specs.declared.kinds.Kind.TheVariants as kind
use Rattle.pd_run.specs.declared.verdict.Verdict.{Verdict}
use Rattle.pd_run.specs.declared.verdict.Verdict.TheVariants.{Pass, Fail, Syntax, Unsupported, Limit}
use Rattle.pd_refusal.specs.Escape.{escaped}
use Rattle.pd_cause.specs.declared.causes.Cause.{Cause}
use Rattle.pd_cause.specs.declared.causes.Cause.TheVariants as cause
use Rattle.pd_cause.specs.declared.causes.failure.Failed.{Failed}
use Rattle.pd_cause.specs.declared.causes.failure.Failed.TheVariants as failed
use Rattle.pd_cause.specs.declared.explain_verdict.Explanation.{Explanation}

-- the name of a verdict, as in a report
abbrev pub verdict_name : Verdict → List ℕ
verdict_name (Pass n) = codes "pass"
verdict_name (Fail line kind) = codes "fail"
verdict_name (Syntax line) = codes "syntax"
verdict_name (Unsupported line) = codes "unsupported"
verdict_name (Limit line) = codes "limit"

-- the same, of a failure with its kind
abbrev pub verdict_name_with_kind : Verdict → List ℕ
verdict_name_with_kind (Fail line kind) = verdict_name (Fail line kind) ++ codes " " ++ kind_word kind
verdict_name_with_kind verdict = verdict_name verdict

-- the words for a kind of failure
abbrev pub kind_words : Kind → List ℕ
kind_words kind.Time = codes "the packet was sent at another time"
kind_words kind.Flags = codes "the packet has other flags"
kind_words kind.Seq = codes "the packet has other octets"
kind_words kind.Ack = codes "the packet has another acknowledgment number"
kind_words kind.Win = codes "the packet has another window"
kind_words kind.Options = codes "the packet has other options"
kind_words kind.Result = codes "the call has another result"
kind_words kind.Missing = codes "no packet was sent in time"
kind_words kind.Backwards = codes "the event's time lies before that of the event before it"

-- the words for a verdict
abbrev pub verdict_words : Verdict → List ℕ
verdict_words (Pass n) = codes "all events passed"
verdict_words (Fail line kind) = kind_words kind
verdict_words (Syntax line) = codes "the text is no script"
verdict_words (Unsupported line) = codes "the sender doesn't run this"
verdict_words (Limit line) = codes "a number is over its limit"

-- how many packets before the awaited one no line asks for
abbrev pub unexpected_count : Cause → ℕ
unexpected_count (cause.Failed f) = before_compared f.failed
  where
    before_compared : Failed → ℕ
    before_compared (failed.Packet packets) = packets.unexpected
    before_compared _ = 0
unexpected_count _ = 0

-- the words for packets that no line asks for, after their count
abbrev pub words_after_unexpected_count : ℕ → List ℕ
words_after_unexpected_count count = if count == 1 then codes " packet before it is" else codes " packets before it are"

-- the words for an explanation: those for its verdict, or how many packets before the awaited one no line asks for
abbrev pub explanation_words : Explanation → List ℕ
explanation_words e =
    let count = unexpected_count e.cause in
    if count == 0 then verdict_words e.verdict else (decimal count ++ words_after_unexpected_count count ++ codes " asked for by no line")

-- the first line of a block: the name of a script, a line of it, a verdict, and words
abbrev pub heading : List ℕ → ℕ → List ℕ → List ℕ → List ℕ
heading name line verdict words = escaped (name ++ codes ":" ++ decimal line ++ codes ": " ++ verdict ++ codes ": " ++ words)

-- octets are the first line of a block on a script that passes, with some words
abbrev pub IsPassHeading : List ℕ → ℕ → List ℕ → Type 0
IsPassHeading name line octets = (words : List ℕ) × (octets ≡ heading name line (codes "pass") words)
