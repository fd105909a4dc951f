-- Scripts are what the grammar gives.
use Rattle.std.specs.Prelude.{◌≡◌, ℕ, true, List, ◌∷◌, ◌++◌}
use Rattle.pd_text.specs.Text.{AreLines}
use Rattle.pd_lex.specs.declared.token.Place.{Place}
use Rattle.pd_lex.specs.Lexing.{items}
use Rattle.pd_lex.specs.Tokens.{Item}
use Rattle.pd_script.specs.Items.{starts_event_or_end}
use Rattle.pd_script.specs.Next.{place_of}
use Rattle.pd_script.specs.Faults.{IsRead, IsScriptOf}
use Rattle.pd_script.specs.Script.{script_of}
use Rattle.pd_script.specs.declared.parsed.Parsed.{Parsed}

-- the script of every text is one that the grammar gives for it
abbrev pub ScriptsAreGrammatical : Type 0
ScriptsAreGrammatical = (lines : List (List ℕ)) → IsScriptOf lines (script_of lines)

-- and the grammar gives nothing else
abbrev pub NoOthersAreGrammatical : Type 0
NoOthersAreGrammatical = (lines : List (List ℕ)) (other : Parsed) → IsScriptOf lines other → other ≡ script_of lines

-- no items are read in two ways: header, events and fault are one
abbrev pub ItemsAreReadInOneWay : Type 0
ItemsAreReadInOneWay = (ts : List Item) (one other : Parsed) → IsRead ts one one.fault → IsRead ts other other.fault → one ≡ other

-- among the items of a text from any place on, one with which an event or the end begins: from its own place on the
-- items are that one and those after it
abbrev pub ItemsStandThere : Type 0
ItemsStandThere = (lines : List (List ℕ)) (p : Place) (front : List Item) (t : Item) (rest : List Item) → AreLines lines → items lines p ≡ front ++ t ∷ rest → starts_event_or_end t ≡ true → items lines (place_of t) ≡ t ∷ rest
