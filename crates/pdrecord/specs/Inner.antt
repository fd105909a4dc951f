-- Definitions that contracts of private functions cite and no public one does.
use Rattle.std.specs.Prelude.{◌≡◌, ℕ, Bool, true, false, List, [], ◌∷◌, ◌++◌, Option, option_and_then, if◌then◌else◌, ◌⊎◌}
use Rattle.std.specs.Str.Lines.{lines}
use Rattle.pd_protocol.specs.Commands.{fitted}
use Rattle.pdrecord.specs.ScriptInput.{is_trace_line}

-- the lines gathered so far with one more, unless that is dropped
abbrev pub with_line : List ℕ → Option (List (List ℕ)) → Option (List (List ℕ))
with_line line text_builder = if is_trace_line line then text_builder else option_and_then (λ texts. fitted (texts ++ line ∷ [])) text_builder

-- the first line of what is to come was gathered, or there is none
abbrev pub Gathers : Bool → Option (List (List ℕ)) → Option (List (List ℕ)) → List ℕ → List ℕ → Type 0
Gathers true text_builder more old new = (line : List ℕ) × (lines old ≡ line ∷ lines new) × (more ≡ with_line line text_builder)
Gathers false text_builder more old new = (lines old ≡ []) × (more ≡ text_builder)

-- octets stay as they are, or with a trace get a line of one more
abbrev pub GoesOn : Bool → List ℕ → List ℕ → Type 0
GoesOn trace old new = (new ≡ old) ⊎ ((trace ≡ true) × ((line : List ℕ) × (is_trace_line line ≡ true) × (new ≡ old ++ (line ++ 10 ∷ []))))
