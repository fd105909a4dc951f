-- Runs of octets as ranges in ascending order.
use Rattle.std.specs.Prelude.{◌≡◌, ℕ, ◌+◌, ◌<◌, ◌≤◌, Bool, List, [], ◌∷◌}
use Rattle.std.specs.List.{list_any}
use Rattle.pd_seg.specs.declared.sack_spans.Span.{Span}
use Rattle.pd_board.specs.Octets.{contains}
use Rattle.pd_board.specs.Board.{BoardView, covers}

-- x is an octet of one of the ranges
abbrev pub among : List Span → ℕ → Bool
among rs x = list_any (λ r. covers r x) rs

-- the ranges ascend from a on, none is empty, any two are apart by at least one octet, and the last ends below b
abbrev pub Between : ℕ → List Span → ℕ → Type 0
Between a [] b = a ≤ b
Between a (r ∷ rs) b = (a ≤ r.start) × (r.start < r.end) × Between (r.end + 1) rs b

-- the ranges are the maximal runs of SACKed octets, in ascending order
pub record AreRuns (s : BoardView) (rs : List Span) : Type 0 where
  pub apart : Between s.una rs (s.top + 1)
  pub octets : (x : ℕ) → contains s.sacked x ≡ among rs x
