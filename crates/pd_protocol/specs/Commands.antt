-- The commands of an input.
use Rattle.std.specs.Prelude.{ℕ, nat_le, List, [], ◌∷◌, length, take, if◌then◌else◌, Option, Some, None, option_map, suc, zero}
use Rattle.std.specs.Str.Lines.{lines}
use Rattle.pd_text.specs.Text.{fits_text}
use Rattle.pd_text.specs.declared.line_edit.LineEdit.{LineEdit}
use Rattle.pd_protocol.specs.CommandLines.{command_line_of}
use Rattle.pd_protocol.specs.declared.command_line.CommandLine.{CommandLine}
use Rattle.pd_protocol.specs.declared.command_line.CommandLine.TheVariants as asks
use Rattle.pd_protocol.specs.declared.command.Command.{Command}
use Rattle.pd_protocol.specs.declared.command.Command.TheVariants.{Add, Edit, Remove, Set, Show, Settle}
use Rattle.pd_protocol.specs.declared.faults.ServeFault.{ServeFault}
use Rattle.pd_protocol.specs.declared.faults.ServeFault.TheVariants.{BadCommand, Truncated}

-- lines, where they are within the limits of a text
abbrev pub fitted : List (List ℕ) → Option (List (List ℕ))
fitted lines = if fits_text lines then Some lines else None

-- an edit that inserts lines, where these are within the limits of a text
abbrev pub line_edit_if_lines_are_some : ℕ → ℕ → Option (List (List ℕ)) → Option LineEdit
line_edit_if_lines_are_some from remove insert = option_map (λ lines. record { from = from; remove = remove; insert = lines }) insert

-- an item of an input: a command, or a fault in its place
pub data InputItem : Type 0 where
  does : Command → InputItem
  stops : ServeFault → InputItem

-- a command whose lines follow; an input that ends inside them is cut short
abbrev pub with_lines : ℕ → List (List ℕ) → (Option (List (List ℕ)) → Command) → (ℕ → List InputItem) → List InputItem
with_lines count after command rest =
    if nat_le count (length after) then does (command (fitted (take count after))) ∷ rest count else stops Truncated ∷ []

-- the item of a line that asks for this, before the lines after it
abbrev pub items_at : CommandLine → List (List ℕ) → (ℕ → List InputItem) → List InputItem
items_at asks.Empty after rest = rest 0
items_at asks.Bad after rest = stops BadCommand ∷ []
items_at (asks.Add name count) after rest = with_lines count after (λ text. Add name text) rest
items_at (asks.Edit name from remove count) after rest = with_lines count after (λ insert. Edit name (line_edit_if_lines_are_some from remove insert)) rest
items_at (asks.Remove name) after rest = does (Remove name) ∷ rest 0
items_at (asks.Set key value) after rest = does (Set key value) ∷ rest 0
items_at asks.Show after rest = does Show ∷ rest 0
items_at asks.Settle after rest = does Settle ∷ rest 0

-- the items of lines, of which the first so many belong to the command before; their end acts as a settle
abbrev pub items : ℕ → List (List ℕ) → List InputItem
items n [] = does Settle ∷ []
items zero (line ∷ after) = items_at (command_line_of line) after (λ n. items n after)
items (suc n) (line ∷ after) = items n after

-- the items of the octets of an input, cut at newlines, with a carriage return before one dropped
abbrev pub commands : List ℕ → List InputItem
commands input = items 0 (lines input)
