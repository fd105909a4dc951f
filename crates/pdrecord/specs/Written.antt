-- The octets of a recording.
use Rattle.std.specs.Prelude.{◌≡◌, ℕ, Bool, false, List, [], ◌∷◌, ◌++◌, flat_map}
use Rattle.pdrecord.specs.ScriptInput.{without_trace}

-- lines, each ended by a newline
abbrev pub joined : List (List ℕ) → List ℕ
joined lines = flat_map (λ (line : List ℕ). line ++ 10 ∷ []) lines

-- these octets are the lines of a recording, with a trace some of a trace between them
abbrev pub IsWritten : Bool → List (List ℕ) → List ℕ → Type 0
IsWritten trace recording octets =
    (lines : List (List ℕ)) × (octets ≡ joined lines) × (without_trace lines ≡ recording) × (trace ≡ false → lines ≡ recording)
