-- The parts of a scoreboard, and how its calls change it.
use Rattle.std.specs.Prelude.{◌≡◌, ℕ, ◌+◌, ◌^◌, ◌≤◌, ◌<◌, max, Bool, true, false, ◌&&◌, ◌||◌, not, nat_le, nat_lt, [], unwrap_or}
use Rattle.std.specs.List.{list_any}
use Rattle.pd_seg.specs.declared.sack_spans.Span.{Span}
use Rattle.pd_board.specs.Octets.{Octets, contains, interval, octets_where, least_where}

-- the numbers that a sender sends by, and what of it the peer has (RFC 9293, section 3.3.1; RFC 6675, section 3)
pub record BoardView : Type 0 where
  -- the octets of a full segment
  pub smss : ℕ
  -- the oldest octet that isn't acknowledged
  pub una : ℕ
  -- where sending goes on
  pub next : ℕ
  -- the number after the highest octet sent
  pub top : ℕ
  -- the number after the last octet queued
  pub end : ℕ
  -- the octets from una on and below top that SACK blocks reported
  pub sacked : Octets
  -- whether a call has found no memory
  pub out_of_memory : Bool

-- the invariant of scoreboards: the order of their numbers, their ranges, and where SACKed octets lie
pub record IsBoardView (s : BoardView) : Type 0 where
  pub smss_low : 64 ≤ s.smss
  pub smss_high : s.smss ≤ 65495
  pub una_next : s.una ≤ s.next
  pub next_top : s.next ≤ s.top
  pub top_end : s.top ≤ s.end
  pub end_low : s.end < 2 ^ 31
  pub sacked_ascending : s.sacked ≡ octets_where (contains s.sacked) s.una s.top
  pub sacked_sent : (x : ℕ) → contains s.sacked x ≡ true → (s.una ≤ x) × (x < s.top)

-- once the SYN/ACK is sent, which has number 0: nothing else is queued
abbrev pub opened : ℕ → BoardView
opened smss = record { smss = smss; una = 0; next = 1; top = 1; end = 1; sacked = []; out_of_memory = false }

-- n octets more are queued
abbrev pub written : ℕ → BoardView → BoardView
written n s = record s { end = s.end + n }

-- a segment was sent that ends at x
abbrev pub sent_to : ℕ → BoardView → BoardView
sent_to x s = record s { next = x; top = max s.top x }

-- all octets below x are acknowledged
abbrev pub acknowledged : ℕ → BoardView → BoardView
acknowledged x s = record s { una = x; next = max s.next x; sacked = octets_where (contains s.sacked) x s.top }

-- x is an octet of a block
abbrev pub covers : Span → ℕ → Bool
covers block x = nat_le block.start x && nat_lt x block.end

-- the octets of a block from una on are SACKed too (RFC 2018, section 5)
abbrev pub with_sacked_block : Span → BoardView → BoardView
with_sacked_block block s = record s { sacked = octets_where (λ x. contains s.sacked x || covers block x) s.una s.top }

-- a block has an octet from una on that wasn't SACKed
abbrev pub has_new : Span → BoardView → Bool
has_new block s = list_any (λ x. covers block x && not (contains s.sacked x)) (interval s.una s.top)

-- no octet is SACKed (RFC 2018, section 5: after a timeout)
abbrev pub with_none_sacked : BoardView → BoardView
with_none_sacked s = record s { sacked = [] }

-- sending goes on after the SACKed octets that it is at, at top at most
abbrev pub past_sacked_octets : BoardView → BoardView
past_sacked_octets s = record s { next = unwrap_or (least_where (λ x. not (contains s.sacked x)) s.next s.top) s.top }

-- a call has found no memory
abbrev pub without_memory : BoardView → BoardView
without_memory s = record s { out_of_memory = true }
