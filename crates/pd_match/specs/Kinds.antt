-- The words of a report for the kinds of failures.
use Rattle.std.specs.Prelude.{ℕ, List, codes}
use Rattle.pd_match.specs.declared.kinds.Kind.{Kind}
use Rattle.pd_match.specs.declared.kinds.Kind.TheVariants.{Time, Flags, Seq, Ack, Win, Options, Result, Missing, Backwards}

-- the word for a kind of failure
abbrev pub kind_word : Kind → List ℕ
kind_word Time = codes "time"
kind_word Flags = codes "flags"
kind_word Seq = codes "seq"
kind_word Ack = codes "ack"
kind_word Win = codes "win"
kind_word Options = codes "options"
kind_word Result = codes "result"
kind_word Missing = codes "missing"
kind_word Backwards = codes "backwards"
