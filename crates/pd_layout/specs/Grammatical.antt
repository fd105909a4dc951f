-- Where the grammar has the equals sign of a call and the end of a note.
use Rattle.std.specs.Prelude.{◌≡◌, ℕ, true, List, ◌∷◌, ◌++◌, Some}
use Rattle.pd_lex.specs.Tokens.{Item}
use Rattle.pd_script.specs.Arguments.{IsArguments, IsNote}
use Rattle.pd_script.specs.Items.{is_symbol, is_word}
use Rattle.pd_script.specs.Next.{place_of}
use Rattle.pd_script.specs.Values.{sign}
use Rattle.pd_script.specs.declared.calls.Argument.{Argument}
use Rattle.pd_layout.specs.Canonical.{first_outside}

-- the equals sign of a call, as the grammar spells it, is the first of its tokens that is one and leaves no bracket open
abbrev pub EqualsSignsAreOutside : Type 0
EqualsSignsAreOutside =
    (name opening equals : Item) (arguments : List Argument) (ts rest : List Item)
    → is_word name ≡ true → is_symbol (sign "(") opening ≡ true → IsArguments arguments ts (equals ∷ rest) → is_symbol (sign "=") equals ≡ true
    → first_outside (is_symbol (sign "=")) 0 (name ∷ opening ∷ ts) ≡ Some (place_of equals)

-- the last token of a note, as the grammar spells it, is the first that closes a bracket and leaves none open
abbrev pub NotesEndOutside : Type 0
NotesEndOutside =
    (ts rest : List Item) → IsNote tt ts rest
    → (closing : Item) × (front : List Item) × (ts ≡ front ++ closing ∷ rest) × (first_outside (is_symbol (sign ")")) 0 ts ≡ Some (place_of closing))
