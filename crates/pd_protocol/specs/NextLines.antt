-- Lines that are taken off the input.
use Rattle.std.specs.Prelude.{◌≡◌, ℕ, ◌≤◌, ◌<◌, List, [], ◌∷◌, length}
use Rattle.std.specs.Str.Lines.{lines}
use Rattle.pd_protocol.specs.LinePieces.{NoNewline}
use Rattle.pd_protocol.specs.declared.faults.ServeFault.{ServeFault}
use Rattle.pd_protocol.specs.declared.faults.ServeFault.TheVariants.{Read, OutOfMemory}
use Rattle.pd_protocol.specs.declared.line_reader.NextLine.{NextLine}
use Rattle.pd_protocol.specs.declared.line_reader.NextLine.TheVariants.{Whole, Long, End}

-- the first line of what is to come is taken
abbrev pub TakesLine : ℕ → NextLine → List ℕ → List ℕ → Type 0
TakesLine limit (Whole line) old new = (lines old ≡ line.items ∷ lines new) × (length line.items ≤ limit)
TakesLine limit Long old new = (line : List ℕ) × (lines old ≡ line ∷ lines new) × (limit < length line)
TakesLine limit End old new = (lines old ≡ []) × (lines new ≡ [])

-- a line that was taken whole holds no newline
abbrev pub IsOfLine : NextLine → Type 0
IsOfLine (Whole line) = NoNewline line.items
IsOfLine Long = Unit {0}
IsOfLine End = Unit {0}

-- a read failed or no read is left, or there is no memory
abbrev pub IsIo : ServeFault → Type 0
IsIo Read = Unit {0}
IsIo OutOfMemory = Unit {0}
IsIo fault = ⊥

-- there was a line
abbrev pub IsLine : NextLine → Type 0
IsLine (Whole line) = Unit {0}
IsLine Long = Unit {0}
IsLine End = ⊥
