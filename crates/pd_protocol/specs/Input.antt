-- The octets that are still to come.
use Rattle.std.specs.Prelude.{◌≡◌, ◌⊎◌, ℕ, ◌+◌, ◌-◌, ◌*◌, ◌≤◌, List, length, Option, Some, None, Result, Err, IfSome}
use Rattle.pd_protocol.specs.declared.faults.ServeFault.{ServeFault}
use Rattle.pd_protocol.specs.declared.faults.ServeFault.TheVariants.{Read}
use Rattle.std.specs.Io.KnownBytes.{prepend_known}

-- a relation of the octets to come before and after a call, for a reader of which they are known
abbrev pub IfKnown : (List ℕ → List ℕ → Type 0) → Option (List ℕ) → Option (List ℕ) → Type 0
IfKnown P None new = Unit {0}
IfKnown P (Some old) None = ⊥
IfKnown P (Some old) (Some new) = P old new

-- the octets to come: those read and not yet used, then what is left in the reader
abbrev pub to_come : List ℕ × ℕ → Option (List ℕ) → Option (List ℕ)
to_come line_reader remaining = prepend_known line_reader.0 remaining

-- the work that is left falls with each line and each read
abbrev pub work_left : List ℕ × ℕ → ℕ
work_left line_reader = length line_reader.0 + line_reader.1 * 4097

-- the reads that are left, and one more where nothing is to come: that which has found the end
abbrev pub reads_left : List ℕ × ℕ → List ℕ → ℕ
reads_left line_reader remaining = line_reader.1 + (1 - (length line_reader.0 + length remaining))

-- each read gave an octet of those that remained, but for the one that found the end
abbrev pub Spends : List ℕ × ℕ → List ℕ × ℕ → List ℕ → List ℕ → Type 0
Spends old new before after = reads_left old before + length after ≤ reads_left new after + length before

-- reading stops with cause: the last read failed; or none is left, and before there were at most as many as octets, and
-- the one that finds the end
abbrev pub IsCaused : Type 0 → List ℕ × ℕ → List ℕ × ℕ → Option (List ℕ) → ServeFault → Type 0
IsCaused failed old new remaining Read = failed ⊎ ((new.1 ≡ 0) × IfSome remaining (λ octets. reads_left old octets ≤ length octets + 1))
IsCaused failed old new remaining fault = Unit {0}

-- an input isn't read on: a read failed; or all 1,048,576 reads were made, each of which gave an octet but for the one that
-- finds the end
abbrev pub EndsReading : Type 0 → Option (List ℕ) → Type 0
EndsReading failed input = failed ⊎ IfSome input (λ octets. 1048575 ≤ length octets)

-- an input on which serving ends with 17 isn't read on
abbrev pub HasCause : {V : Type 0} → Result V ServeFault → Type 0 → Option (List ℕ) → Type 0
HasCause (Err Read) failed input = EndsReading failed input
HasCause result failed input = Unit {0}
