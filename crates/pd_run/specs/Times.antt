-- The times of events, as moments of a run.
use Rattle.std.specs.Prelude.{ℕ, ◌+◌, max, Bool, true, false, nat_lt, nat_le, Option, Some, None, if◌then◌else◌}
use Rattle.pd_script.specs.declared.timing.Time.{Time}
use Rattle.pd_script.specs.declared.timing.Time.TheVariants.{Any, Absolute, Relative, AbsoluteRange, RelativeRange}

-- a time that is one moment
abbrev pub is_single_moment : Time → Bool
is_single_moment (Absolute t) = true
is_single_moment (Relative t) = true
is_single_moment _ = false

-- the moment of a single time
abbrev pub single_moment_or_base : ℕ → Time → ℕ
single_moment_or_base base (Absolute t) = t
single_moment_or_base base (Relative t) = base + t
single_moment_or_base base _ = base

-- the first and the last moment of a time; both ends of a relative range count from the base
abbrev pub time_range_of : ℕ → Time → Option (ℕ × ℕ)
time_range_of base Any = None
time_range_of base (Absolute t) = Some (t, t)
time_range_of base (Relative t) = Some (base + t, base + t)
time_range_of base (AbsoluteRange first last) = Some (first, last)
time_range_of base (RelativeRange first last) = Some (base + first, base + last)

-- an absolute time, or the first bound of an absolute range, lies below the base
abbrev pub is_before_base_beyond_tolerance : ℕ → Time → Bool
is_before_base_beyond_tolerance base (Absolute t) = nat_lt t base
is_before_base_beyond_tolerance base (AbsoluteRange first last) = nat_lt first base
is_before_base_beyond_tolerance base _ = false

-- a moment at or before the last one and the tolerance; for `*` any moment
abbrev pub is_not_too_late_within_tolerance : Option (ℕ × ℕ) → ℕ → ℕ → Bool
is_not_too_late_within_tolerance None tolerance at = true
is_not_too_late_within_tolerance (Some time_range) tolerance at = nat_le at (time_range.1 + tolerance)

-- the base after a packet that left at a moment: the event's time; after a range or `*` the later of the old base and
-- that moment
abbrev pub base_from_moment_or_later_of_base_and_sent : ℕ → Time → ℕ → ℕ
base_from_moment_or_later_of_base_and_sent base time at = if is_single_moment time then single_moment_or_base base time else max base at
