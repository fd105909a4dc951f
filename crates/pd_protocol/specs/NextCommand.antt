-- How commands come off the front of an input.
use Rattle.std.specs.Prelude.{◌≡◌, ℕ, ◌≤◌, ◌<◌, false, List, [], ◌∷◌, ◌++◌, length, take, drop, Option, Some, None, Bool, true, option_and_then}
use Rattle.std.specs.Str.Lines.{lines, strip_carriage_return}
use Rattle.pd_protocol.specs.LinePieces.{CutsPiece}
use Rattle.pd_protocol.specs.Commands.{InputItem, does, stops, fitted, items, items_at, commands}
use Rattle.pd_protocol.specs.declared.command_line.CommandLine.{CommandLine}
use Rattle.pd_protocol.specs.declared.command.Command.{Command}
use Rattle.pd_protocol.specs.declared.command.Command.TheVariants.{Settle}
use Rattle.pd_protocol.specs.declared.faults.ServeFault.{ServeFault}
use Rattle.pd_protocol.specs.declared.faults.ServeFault.TheVariants.{BadCommand, Truncated, Read, OutOfMemory}
use Rattle.pd_protocol.specs.declared.command_line.CommandLine.TheVariants.{Empty, Bad, Add, Edit, Remove, Set, Show, Settle}

-- a line without words is passed by
abbrev pub is_empty_line : CommandLine → Bool
is_empty_line Empty = true
is_empty_line Bad = false
is_empty_line (Add name count) = false
is_empty_line (Edit name from remove count) = false
is_empty_line (Remove name) = false
is_empty_line (Set key value) = false
is_empty_line Show = false
is_empty_line Settle = false

-- the first line of what was read is added to those gathered
pub record AddsLine (old new : List ℕ) (before after : Option (List (List ℕ))) : Type 0 where
  pub line : List ℕ
  pub cut : CutsPiece line true old new
  pub added : after ≡ option_and_then (λ lines. fitted (lines ++ strip_carriage_return line ∷ [])) before

-- the lines of a command are taken
abbrev pub TakesLines : ℕ → Option (List (List ℕ)) → List ℕ → List ℕ → Type 0
TakesLines count taken old new = (count ≤ length (lines old)) × (taken ≡ fitted (take count (lines old))) × (lines new ≡ drop count (lines old))

-- why the lines of a command could not be taken
abbrev pub LinesFault : ServeFault → ℕ → List ℕ → Type 0
LinesFault Truncated count old = length (lines old) < count
LinesFault Read count old = Unit {0}
LinesFault OutOfMemory count old = Unit {0}
LinesFault fault count old = ⊥

-- the first line was taken, or there is none
abbrev pub ParsesLine : Option CommandLine → List ℕ → List ℕ → Type 0
ParsesLine None old new = lines old ≡ []
ParsesLine (Some command_line) old new = commands old ≡ items_at command_line (lines new) (λ n. items n (lines new))

-- the first line that asks for something was taken, or there is none
abbrev pub HasCommandLine : Option CommandLine → List ℕ → List ℕ → Type 0
HasCommandLine None old new = commands old ≡ does Settle ∷ []
HasCommandLine (Some command_line) old new = (commands old ≡ items_at command_line (lines new) (λ n. items n (lines new))) × (is_empty_line command_line ≡ false)

-- the next command was taken, or there is none
abbrev pub Gives : Option Command → List ℕ → List ℕ → Type 0
Gives None old new = commands old ≡ does Settle ∷ []
Gives (Some command) old new = commands old ≡ does command ∷ commands new

-- a fault that an input holds comes first in it
abbrev pub FaultIn : ServeFault → List InputItem → Type 0
FaultIn BadCommand items = items ≡ stops BadCommand ∷ []
FaultIn Truncated items = items ≡ stops Truncated ∷ []
FaultIn Read items = Unit {0}
FaultIn OutOfMemory items = Unit {0}
FaultIn fault items = ⊥
