-- Pieces of a line as they come.
use Rattle.std.specs.Prelude.{◌≡◌, ◌⊎◌, ℕ, ◌+◌, ◌≤◌, ◌==◌, Bool, true, false, List, [], ◌∷◌, ◌++◌, length, take, All, Option}
use Rattle.pd_protocol.specs.Input.{IfKnown}
use Rattle.pd_protocol.specs.declared.faults.ServeFault.{ServeFault}
use Rattle.pd_protocol.specs.declared.faults.ServeFault.TheVariants.{Read}

-- no octet is a newline
abbrev pub NoNewline : List ℕ → Type 0
NoNewline line = All (λ octet. (octet == 10) ≡ false) line

-- a piece comes off the front, up to a newline, which goes, or all
abbrev pub Cuts : List ℕ → Bool → List ℕ → List ℕ → Type 0
Cuts piece true old new = old ≡ piece ++ 10 ∷ new
Cuts piece false old new = (old ≡ piece) × (new ≡ [])

-- a piece without a newline comes off the front
abbrev pub CutsPiece : List ℕ → Bool → List ℕ → List ℕ → Type 0
CutsPiece piece found old new = NoNewline piece × Cuts piece found old new

-- a line comes off the front, of which the first octets are kept
abbrev pub KeepsLine : ℕ → List ℕ → Bool → Option (List ℕ) → Option (List ℕ) → Type 0
KeepsLine cap kept found old new = (line : List ℕ) × NoNewline line × (kept ≡ take cap line) × IfKnown (Cuts line found) old new

-- each read up to a newline gave an octet; where there was none, all but the last did
abbrev pub Gave : Bool → ℕ → ℕ → List ℕ → List ℕ → Type 0
Gave true old new before after = old + length after ≤ new + length before
Gave false old new before after = old + length after ≤ new + length before + 1

-- a read failed, or there was none left
abbrev pub Stops : Type 0 → ℕ → ℕ → ServeFault → Type 0
Stops failed old new Read = failed ⊎ ((old ≡ 0) × (new ≡ 0))
Stops failed old new fault = Unit {0}
