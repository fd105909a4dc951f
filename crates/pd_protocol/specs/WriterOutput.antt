-- The octets that are written to a writer, and how a run ends whose arguments are refused.
use Rattle.std.specs.Prelude.{◌≡◌, ℕ, Bool, true, false, List, [], take, Option}
use Rattle.std.specs.Io.KnownBytes.{Appends}
use Rattle.pd_protocol.specs.declared.exit.Exit.{Exit}

-- the octets that were written of a line: all, or some of its first ones where the writer failed
abbrev pub IsWrittenOf : Bool → List ℕ → List ℕ → Type 0
IsWrittenOf true written line = written ≡ line
IsWrittenOf false written line = (n : ℕ) × (written ≡ take n line)

-- a line was written to a writer
abbrev pub WritesTo : Bool → Option (List ℕ) → Option (List ℕ) → List ℕ → Type 0
WritesTo stderr_ok before after line = (written : List ℕ) × Appends before after written × IsWrittenOf stderr_ok written line

-- arguments that are refused: status 2, and nothing is written but on standard error
abbrev pub ExitsRefused : Exit → Option (List ℕ) → Option (List ℕ) → Type 0
ExitsRefused exit before after = (exit.status ≡ 2) × Appends before after []
