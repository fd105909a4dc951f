-- Finite sets of octet numbers, their sizes, and their least and greatest members.
use Rattle.std.specs.Prelude.{ℕ, ◌+◌, ◌-◌, Bool, Option, Some, None, ◌==◌, ◌&&◌, ◌||◌, not, List, reverse}
use Rattle.std.specs.List.{range_with_len, count_by, filter, find, list_any}

-- a finite set of octet numbers: its members in ascending order
abbrev pub Octets : Type 0
Octets = List ℕ

-- x is a member
abbrev pub contains : Octets → ℕ → Bool
contains k x = list_any (λ y. y == x) k

-- the set {x : a ≤ x < b}
abbrev pub interval : ℕ → ℕ → Octets
interval a b = range_with_len a (b - a)

-- the set {x : a ≤ x < b, p x}
unfoldable pub octets_where : (ℕ → Bool) → ℕ → ℕ → Octets
octets_where p a b = filter p (interval a b)

-- the size of {x : a ≤ x < b, p x}
unfoldable pub size_where : (ℕ → Bool) → ℕ → ℕ → ℕ
size_where p a b = count_by p (interval a b)

-- the least member of {x : a ≤ x < b, p x}, if there is one
abbrev pub least_where : (ℕ → Bool) → ℕ → ℕ → Option ℕ
least_where p a b = find p (interval a b)

-- the greatest member of {x : a ≤ x < b, p x}, if there is one
abbrev pub greatest_where : (ℕ → Bool) → ℕ → ℕ → Option ℕ
greatest_where p a b = find p (reverse (interval a b))

-- the number after an octet, 0 where there is none
abbrev pub after : Option ℕ → ℕ
after None = 0
after (Some x) = x + 1

-- x is the first octet of a maximal run of consecutive members
abbrev pub begins_run : Octets → ℕ → Bool
begins_run k x = contains k x && (x == 0 || not (contains k (x - 1)))
