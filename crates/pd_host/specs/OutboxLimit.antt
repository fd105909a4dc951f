-- How many packets are in the outbox.
use Rattle.std.specs.Prelude.{ℕ, nat_lt, Bool, List, length}
use Rattle.pd_seg.specs.declared.segments.Sent.{Sent}

-- the most packets that nobody has taken (own profile)
abbrev pub most_packets : ℕ
most_packets = 1024

-- beside these there is a place for one more
abbrev pub has_place : List Sent → Bool
has_place packets = nat_lt (length packets) most_packets
