-- Lines of a text.
use Rattle.std.specs.Prelude.{ℕ, ◌≤◌, List, length, max, All, IfSome}
use Rattle.pd_script.specs.declared.script_events.Event.{Event}
use Rattle.pd_script.specs.declared.parsed.Parsed.{Parsed}

-- a line from the first to the last; a text without lines counts as one
abbrev pub IsLineOf : List (List ℕ) → ℕ → Type 0
IsLineOf lines line = (1 ≤ line) × (line ≤ max 1 (length lines))

-- each event, and the fault if there is one, has a line of the text
pub record HasLines (lines : List (List ℕ)) (parsed : Parsed) : Type 0 where
  pub events : All (λ (e : Event). IsLineOf lines e.line) parsed.events
  pub fault : IfSome parsed.fault (IsLineOf lines)
