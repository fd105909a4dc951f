-- Edits of texts.
use Rattle.std.specs.Prelude.{ℕ, ◌+◌, ◌-◌, Bool, ◌&&◌, nat_le, List, ◌++◌, length, take, drop, Option, Some, None, if◌then◌else◌}
use Rattle.pd_text.specs.Text.{fits_text}
use Rattle.pd_text.specs.declared.faults.TextFault.{TextFault}
use Rattle.pd_text.specs.declared.faults.TextFault.TheVariants.{BadRange, TooLarge}
use Rattle.pd_text.specs.declared.line_edit.LineEdit.{LineEdit}

-- an edit lies within a text: it begins at a line or just past the last, and removes lines that are there
abbrev pub is_edit_in_range : List (List ℕ) → LineEdit → Bool
is_edit_in_range lines edit = nat_le 1 edit.from && nat_le (edit.from + edit.remove) (length lines + 1)

-- the text after an edit: the lines before its first, the inserted ones, and what follows the removed ones
abbrev pub edited : List (List ℕ) → LineEdit → List (List ℕ)
edited lines edit = take (edit.from - 1) lines ++ edit.insert ++ drop (edit.from - 1 + edit.remove) lines

-- why an edit is refused: it must lie within the text, and leave a text within the limits
abbrev pub edit_refusal : List (List ℕ) → LineEdit → Option TextFault
edit_refusal lines edit =
    if is_edit_in_range lines edit then (if fits_text (edited lines edit) then None else Some TooLarge) else Some BadRange
