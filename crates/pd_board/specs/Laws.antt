-- The laws of all scoreboards, whatever their octets.
use Rattle.std.specs.Prelude.{◌≡◌, ◌↔◌, ℕ, ◌+◌, ◌-◌, ◌*◌, ◌<◌, ◌≤◌, true}
use Rattle.pd_board.specs.Octets.{contains, size_where}
use Rattle.pd_board.specs.Loss.{is_lost, is_unsacked, undelivered_octets, lost_edge, pipe}
use Rattle.pd_board.specs.Board.{BoardView}

-- an octet below a lost one is lost
abbrev pub LostIsDownwardClosed : Type 0
LostIsDownwardClosed = (s : BoardView) (x y : ℕ) → x ≤ y → is_lost y s ≡ true → is_lost x s ≡ true

-- the pipe counts each octet that isn't SACKed twice at most
abbrev pub PipeCountsTwiceAtMost : Type 0
PipeCountsTwiceAtMost =
    (s : BoardView) (high_rxt : ℕ) → pipe high_rxt s ≤ 2 * size_where (λ x. is_unsacked x s) s.una s.top

-- t is the scoreboard s after an ACK: una hasn't fallen, top has stayed, and what was SACKed and isn't acknowledged still is
pub record Follows (s t : BoardView) : Type 0 where
  pub una : s.una ≤ t.una
  pub within : t.una ≤ t.top
  pub top : t.top ≡ s.top
  pub kept : (x : ℕ) → t.una ≤ x → contains s.sacked x ≡ true → contains t.sacked x ≡ true

-- the last lost octet lies no higher after an ACK exactly where no octet is lost that wasn't before
abbrev pub EdgeShowsLosses : Type 0
EdgeShowsLosses =
    (s t : BoardView) → Follows s t
    → (lost_edge t ≤ lost_edge s)
    ↔ ((x : ℕ) → t.una ≤ x → x < t.top → is_unsacked x t ≡ true → is_lost x t ≡ true → is_lost x s ≡ true)

-- the octets not delivered before an ACK: those outstanding after it, less those SACKed before it that still are, and those
-- that it acknowledges, none of which was SACKed before
abbrev pub CountsUndelivered : Type 0
CountsUndelivered =
    (s t : BoardView) → Follows s t
    → undelivered_octets s ≡ t.top - t.una - size_where (contains s.sacked) t.una t.top + size_where (λ x. is_unsacked x s) s.una t.una
