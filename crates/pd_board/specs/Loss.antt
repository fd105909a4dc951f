-- Which octets count as lost, and how many are on the way (RFC 6675, section 4).
use Rattle.std.specs.Prelude.{ℕ, ◌+◌, ◌-◌, ◌*◌, Bool, ◌&&◌, ◌||◌, not, nat_lt, nat_le}
use Rattle.pd_board.specs.Octets.{contains, size_where, greatest_where, after, begins_run}
use Rattle.pd_board.specs.Board.{BoardView}

-- DupThresh: how many duplicates, or runs of SACKed octets, show a loss (RFC 6675, section 2)
abbrev pub dup_thresh : ℕ
dup_thresh = 3

-- DupThresh runs above an octet show it to be lost, and so do more than (DupThresh - 1) * SMSS octets
abbrev pub shows_loss : ℕ → ℕ → ℕ → Bool
shows_loss smss runs octets = nat_le dup_thresh runs || nat_lt ((dup_thresh - 1) * smss) octets

-- how many SACKed octets lie above x
abbrev pub sacked_above : ℕ → BoardView → ℕ
sacked_above x s = size_where (contains s.sacked) (x + 1) s.top

-- how many maximal runs of SACKed octets lie wholly above x
abbrev pub runs_above : ℕ → BoardView → ℕ
runs_above x s = size_where (begins_run s.sacked) (x + 1) s.top

-- how many octets are SACKed
abbrev pub sacked_octets : BoardView → ℕ
sacked_octets s = size_where (contains s.sacked) s.una s.top

-- IsLost: the runs and the octets above x show it to be lost
abbrev pub is_lost : ℕ → BoardView → Bool
is_lost x s = shows_loss s.smss (runs_above x s) (sacked_above x s)

-- x isn't SACKed
abbrev pub is_unsacked : ℕ → BoardView → Bool
is_unsacked x s = not (contains s.sacked x)

-- how many octets that were sent are neither acknowledged nor SACKed
abbrev pub undelivered_octets : BoardView → ℕ
undelivered_octets s = s.top - s.una - sacked_octets s

-- the number after the highest octet that isn't SACKed and is lost, 0 where there is none
abbrev pub lost_edge : BoardView → ℕ
lost_edge s = after (greatest_where (λ x. is_unsacked x s && is_lost x s) s.una s.top)

-- Pipe: of the octets that aren't SACKed, one for each that isn't lost and one for each below HighRxt
abbrev pub pipe : ℕ → BoardView → ℕ
pipe high_rxt s =
    size_where (λ x. is_unsacked x s && not (is_lost x s)) s.una s.top
    + size_where (λ x. is_unsacked x s && nat_lt x high_rxt) s.una s.top
