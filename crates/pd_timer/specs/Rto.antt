-- The retransmission timer (RFC 6298). All times are in microseconds.
use Rattle.std.specs.Prelude.{ℕ, ◌+◌, ◌-◌, ◌*◌, ◌/◌, ◌^◌, ◌<◌, ◌≤◌, min, max, nat_lt, Option, Some, None, is_some, option_map, if◌then◌else◌}
use Rattle.std.specs.Option.{ForSome}
use Rattle.pd_timer.specs.declared.estimate.Estimate.{Estimate}
use Rattle.pd_timer.specs.declared.estimate.Timeout.{Timeout}

-- the retransmission timer with what was measured, RTO and its bounds (section 2)
pub record RtoView : Type 0 where
  -- SRTT and RTTVAR, once a round trip was measured
  pub estimate : Option Estimate
  -- the retransmission timeout, and the least and the greatest one
  pub rto : ℕ
  pub min_rto_us : ℕ
  pub max_rto_us : ℕ
  -- the moment of the next expiry, while the timer runs
  pub deadline : Option ℕ

-- measured times stay below 2^62
abbrev pub IsEstimate : Estimate → Type 0
IsEstimate e = (e.srtt < 2 ^ 62) × (e.rttvar < 2 ^ 62)

-- the timeout lies within its bounds, and these in the ranges of their settings
pub record IsBounded (estimate : Option Estimate) (rto least greatest : ℕ) : Type 0 where
  pub measured : ForSome estimate IsEstimate
  pub not_below : least ≤ rto
  pub not_above : rto ≤ greatest
  pub least_from : 1000 ≤ least
  pub least_to : least ≤ 60000000
  pub greatest_from : 60000000 ≤ greatest
  pub greatest_to : greatest ≤ 3600000000

-- the facts of a timer
abbrev pub IsRtoView : RtoView → Type 0
IsRtoView t = IsBounded t.estimate t.rto t.min_rto_us t.max_rto_us

-- a timeout raised to the least and lowered to the greatest one (sections 2.4 and 2.5)
abbrev pub clamped : ℕ → ℕ → ℕ → ℕ
clamped least greatest timeout = min (max timeout least) greatest

-- before any measurement RTO is 1 second (section 2.1)
abbrev pub initial : ℕ → ℕ → RtoView
initial least greatest = record {
  estimate = None;
  rto = clamped least greatest 1000000;
  min_rto_us = least;
  max_rto_us = greatest;
  deadline = None;
}

-- the first measurement R: SRTT = R, RTTVAR = R/2 (section 2.2)
abbrev pub first_estimate : ℕ → Estimate
first_estimate r = record { srtt = r; rttvar = r / 2 }

-- RTTVAR = 3/4 RTTVAR + 1/4 |SRTT - R|, by the SRTT before the measurement (section 2.3)
abbrev pub next_rttvar : ℕ → Estimate → ℕ
next_rttvar r e = (3 * e.rttvar + ((e.srtt - r) + (r - e.srtt))) / 4

-- SRTT = 7/8 SRTT + 1/8 R (section 2.3)
abbrev pub next_srtt : ℕ → Estimate → ℕ
next_srtt r e = (7 * e.srtt + r) / 8

-- a later measurement (section 2.3)
abbrev pub next_estimate : ℕ → Estimate → Estimate
next_estimate r e = record { srtt = next_srtt r e; rttvar = next_rttvar r e }

-- the estimate after a measurement (sections 2.2 and 2.3)
abbrev pub estimate_after : ℕ → Option Estimate → Estimate
estimate_after r None = first_estimate r
estimate_after r (Some e) = next_estimate r e

-- RTO = SRTT + max(G, 4 RTTVAR) (sections 2.2 and 2.3)
abbrev pub timeout_of : ℕ → Estimate → ℕ
timeout_of granularity e = e.srtt + max granularity (4 * e.rttvar)

-- G, where it stands in the place of a smaller 4 RTTVAR (sections 2.2 and 2.3)
abbrev pub replacing_granularity : ℕ → Estimate → Option ℕ
replacing_granularity granularity e = if nat_lt (4 * e.rttvar) granularity then Some granularity else None

-- how RTO comes from what was measured: before its bounds and within them (sections 2.2 to 2.5)
abbrev pub timeout_by : ℕ → ℕ → ℕ → Estimate → Timeout
timeout_by least greatest granularity e = record {
  estimate = e;
  granularity_us = replacing_granularity granularity e;
  computed_us = timeout_of granularity e;
  bounded_us = clamped least greatest (timeout_of granularity e);
}

-- the same of a timer, once a round trip was measured
abbrev pub timeout_in : ℕ → RtoView → Option Timeout
timeout_in granularity t = option_map {T = Estimate} (timeout_by t.min_rto_us t.max_rto_us granularity) t.estimate

-- a round trip is measured (sections 2.2 to 2.5)
abbrev pub sampled : ℕ → ℕ → RtoView → RtoView
sampled r granularity t =
    let e = estimate_after r t.estimate in
    record t { estimate = Some e; rto = clamped t.min_rto_us t.max_rto_us (timeout_of granularity e) }

-- the timer starts anew, to expire after RTO (section 5.3)
abbrev pub restarted : ℕ → RtoView → RtoView
restarted now t = record t { deadline = Some (now + t.rto) }

-- octets are sent: the timer starts where it doesn't run (section 5.1)
abbrev pub started : ℕ → RtoView → RtoView
started now t = if is_some t.deadline then t else restarted now t

-- all that was sent is acknowledged: the timer stops (section 5.2)
abbrev pub stopped : RtoView → RtoView
stopped t = record t { deadline = None }

-- the timer expires: RTO is doubled, up to the greatest one, and the timer starts anew (sections 5.5 and 5.6)
abbrev pub expired_rto : ℕ → RtoView → RtoView
expired_rto now t = restarted now (record t { rto = min (2 * t.rto) t.max_rto_us })

-- at establishment, where the timer expired in the handshake, RTO is 3 seconds (section 5.7), also where it was more (own)
abbrev pub reinitialized : RtoView → RtoView
reinitialized t = record t { rto = clamped t.min_rto_us t.max_rto_us 3000000 }
