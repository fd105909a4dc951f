-- The ranges of SACKed octets that are listed are the first of them.
use Rattle.std.proofs.Common.{◌≡◌, ℕ, min, List, length, take}
use Rattle.std.proofs.lemmas.List.{take_min}
use Rattle.pd_seg.specs.declared.sack_spans.Span.{Span}

-- so many of a list, and no more than there are
pub first_listed : (n : ℕ) (ranges : List Span) → take (min n (length ranges)) ranges ≡ take n ranges
first_listed n ranges = take_min n ranges
