-- The same over a test of octet numbers in place of a set: what private contracts say of ranges.
use Rattle.std.specs.Prelude.{ℕ, ◌+◌, ◌-◌, Bool, ◌==◌, ◌&&◌, ◌||◌, not, nat_lt}
use Rattle.pd_board.specs.Loss.{shows_loss}
use Rattle.pd_board.specs.Octets.{size_where, greatest_where, after}

-- x is the first of a run of those from a on that pass
abbrev pub first_of : (ℕ → Bool) → ℕ → ℕ → Bool
first_of p a x = p x && (x == a || not (p (x - 1)))

-- the octets that make lost, counted from the octet first on
abbrev pub lost_from : (ℕ → Bool) → ℕ → ℕ → ℕ → ℕ → Bool
lost_from p una top smss first = shows_loss smss (size_where (first_of p una) first top) (size_where p first top)

-- the octets on the way, from first on
abbrev pub pipe_from : (ℕ → Bool) → ℕ → ℕ → ℕ → ℕ → ℕ → ℕ
pipe_from p una top smss high first =
    size_where (λ x. not (p x) && not (lost_from p una top smss (x + 1))) first top
    + size_where (λ x. not (p x) && nat_lt x high) first top

-- the number after the last octet that doesn't pass and is lost, 0 where there is none
abbrev pub edge_from : (ℕ → Bool) → ℕ → ℕ → ℕ → ℕ
edge_from p una top smss = after (greatest_where (λ x. not (p x) && lost_from p una top smss (x + 1)) una top)
