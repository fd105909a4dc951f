-- The ranges that a board keeps, and the terms of private contracts about them.
use Rattle.std.specs.Prelude.{◌≡◌, ℕ, ◌+◌, ◌-◌, ◌^◌, ◌<◌, ◌≤◌, min, max, cond, Bool, ◌&&◌, ◌||◌, nat_le, nat_lt, true, List, [], ◌∷◌, length}
use Rattle.std.specs.List.{sum_by}
use Rattle.pd_seg.specs.declared.sack_spans.Span.{Span}
use Rattle.pd_board.specs.declared.ranges.Ranges.{Ranges}
use Rattle.pd_board.specs.Loss.{shows_loss}
use Rattle.pd_board.specs.Runs.{among, Between}

-- x is an octet of the ranges
abbrev pub in_ranges : Ranges → ℕ → Bool
in_ranges r x = among r.spans.items x

-- how many octets ranges have
abbrev pub octets_in : List Span → ℕ
octets_in rs = sum_by (λ r. r.end - r.start) rs

-- the ranges lie from a on and end below b, and their octets are counted
pub record AreRanges (a b : ℕ) (r : Ranges) : Type 0 where
  pub apart : Between a r.spans.items b
  pub total : r.octets ≡ octets_in r.spans.items

-- the invariant of a board's fields: that of every scoreboard, and where its ranges lie
pub record IsBoard (segment una next top end : ℕ) (r : Ranges) : Type 0 where
  pub smss_low : 64 ≤ segment
  pub smss_high : segment ≤ 65495
  pub una_next : una ≤ next
  pub next_top : next ≤ top
  pub top_end : top ≤ end
  pub end_low : end < 2 ^ 31
  pub ranges : AreRanges una (top + 1) r

-- while ranges are merged: out is done, start to end is in hand, rest is to come
pub record Merging (una top from to : ℕ) (all out rest : List Span) (start end : ℕ) : Type 0 where
  pub edge : ℕ
  pub done : Between una out edge
  pub below : edge ≤ start
  pub above : Between edge rest top
  pub order : start < end
  pub high : end < top
  pub octets : (x : ℕ) → (among out x || ((nat_le start x && nat_lt x end) || among rest x)) ≡ (among all x || (nat_le from x && nat_lt x to))

-- while ranges are searched from a place on: those left out end below it, and an octet before edge isn't in the rest
pub record Searching (place b : ℕ) (all rest : List Span) : Type 0 where
  pub edge : ℕ
  pub near : edge ≤ place
  pub apart : Between edge rest b
  pub same : (x : ℕ) → edge ≤ x + 1 → among all x ≡ among rest x

-- while the last octet is searched: end is after the last one so far
pub record SearchingLast (from to end : ℕ) (all rest : List Span) : Type 0 where
  pub low : from ≤ end
  pub high : end ≤ to
  pub after : (x : ℕ) → end ≤ x → x < to → among all x ≡ among rest x
  pub found : from < end → among all (end - 1) ≡ true

-- the octets that a gap from i to s adds to the pipe, below so many runs and octets
abbrev pub gap : ℕ → ℕ → ℕ → ℕ → ℕ → ℕ → ℕ
gap smss high runs octets i s = cond (shows_loss smss runs octets) 0 (s - i) + (min high s - i)

-- the octets on the way from i on, over the ranges there
abbrev pub pipe_over : ℕ → ℕ → ℕ → ℕ → List Span → ℕ
pipe_over smss high top i [] = gap smss high 0 0 i top
pipe_over smss high top i (r ∷ rs) = gap smss high (length rs + 1) (r.end - r.start + octets_in rs) i r.start + pipe_over smss high top r.end rs

-- the number after the last lost octet of the gaps between i and the ranges there, and e where there is none
abbrev pub edge_over : ℕ → ℕ → ℕ → List Span → ℕ
edge_over smss e i [] = e
edge_over smss e i (r ∷ rs) =
    cond (shows_loss smss (length rs + 1) (r.end - r.start + octets_in rs)) (edge_over smss (cond (nat_lt i r.start) r.start e) r.end rs) e

-- the ranges without those that end at start or below it
abbrev pub ranges_after : ℕ → List Span → List Span
ranges_after start [] = []
ranges_after start (r ∷ rs) = cond (nat_lt start r.end) (r ∷ rs) (ranges_after start rs)

-- the first range begins at start at least
abbrev pub raised : ℕ → List Span → List Span
raised start [] = []
raised start (r ∷ rs) = record { start = max r.start start; end = r.end } ∷ rs
