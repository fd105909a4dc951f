-- The rules of the timer and of expiries that an event comes to, by the sender's numbers before it and after it.
use Rattle.std.specs.Prelude.{ℕ, ◌*◌, ◌==◌, nat_lt, Bool, true, false, not, ◌&&◌, ◌||◌, List, [], ◌∷◌, ◌++◌, codes, Option, Some, None, if◌then◌else◌}
use Rattle.pd_host.specs.declared.connection_snapshot.ConnectionSnapshot.{ConnectionSnapshot}
use Rattle.pd_host.specs.declared.connection_snapshot.Recovery.{Recovery}
use Rattle.pd_host.specs.declared.connection_snapshot.Recovery.TheVariants.{Idle, WithSack, WithoutSack}
use Rattle.pd_host.specs.declared.connection_snapshot.WindowSnapshot.{WindowSnapshot}
use Rattle.pd_timer.specs.declared.estimate.Estimate.{Estimate}
use Rattle.pd_timer.specs.declared.estimate.Timeout.{Timeout}
use Rattle.pd_explain.specs.RuleAcks.{ssthresh_name}
use Rattle.pd_explain.specs.RuleNames.{present}

-- The timer

-- an input starts it, stops it, starts it anew or leaves it, by the times of the next expiry (RFC 6298, sections 5.1 to 5.3)
abbrev pub timer_name : Option ℕ → Option ℕ → Option (List ℕ)
timer_name None None = None
timer_name None (Some a) = Some (codes "rfc6298.timer.starts")
timer_name (Some b) None = Some (codes "rfc6298.timer.stops")
timer_name (Some b) (Some a) = if b == a then Some (codes "rfc6298.timer.kept") else Some (codes "rfc6298.timer.restarts")

-- Samples

-- SRTT and RTTVAR are the same
abbrev pub is_same_estimate : Estimate → Estimate → Bool
is_same_estimate e f = e.srtt == f.srtt && e.rttvar == f.rttvar

-- an ACK changed what is measured
abbrev pub is_sampled : Option Timeout → Option Timeout → Bool
is_sampled b None = false
is_sampled None (Some a) = true
is_sampled (Some b) (Some a) = not (is_same_estimate b.estimate a.estimate)

-- the first sample, or a later one (RFC 6298, sections 2.2 and 2.3)
abbrev pub taken_sample_name : Option Timeout → List ℕ
taken_sample_name None = codes "rfc6298.rto.first-sample"
taken_sample_name (Some b) = codes "rfc6298.rto.later-sample"

-- a sample, or none of octets that are acknowledged (RFC 6298, section 3)
abbrev pub sample_name : Option Timeout → Option Timeout → ConnectionSnapshot → ConnectionSnapshot → Option (List ℕ)
sample_name before after b a =
    if is_sampled before after then Some (taken_sample_name before)
    else (if b.una == a.una then None else Some (codes "rfc6298.rto.no-sample"))

-- the timeout of a sample is raised to its least value or lowered to its greatest (RFC 6298, sections 2.4 and 2.5)
abbrev pub bound_name : Timeout → List ℕ
bound_name t =
    if nat_lt t.computed_us t.bounded_us then codes "rfc6298.rto.raised-to-min"
    else (if nat_lt t.bounded_us t.computed_us then codes "rfc6298.rto.lowered-to-max" else codes "rfc6298.rto.within-bounds")

abbrev pub sample_bound_name : Option Timeout → Option Timeout → Option (List ℕ)
sample_bound_name before None = None
sample_bound_name before (Some t) = if is_sampled before (Some t) then Some (bound_name t) else None

-- the granularity stands in the place of a smaller variance (RFC 6298, section 2.3)
abbrev pub variance_name : Option ℕ → List ℕ
variance_name None = codes "rfc6298.rto.variance"
variance_name (Some granularity) = codes "rfc6298.rto.granularity"

abbrev pub sample_variance_name : Option Timeout → Option Timeout → Option (List ℕ)
sample_variance_name before None = None
sample_variance_name before (Some t) = if is_sampled before (Some t) then Some (variance_name t.granularity_us) else None

-- a timeout that was doubled ends with a sample, which lowers it, and stays where an ACK of new octets gives none (RFC 6298,
-- section 5.7)
abbrev pub kept_backoff_name : Timeout → ConnectionSnapshot → ConnectionSnapshot → Option (List ℕ)
kept_backoff_name t b a =
    if nat_lt t.bounded_us b.rto_us then (if nat_lt a.rto_us b.rto_us then Some (codes "rfc6298.backoff.ends") else Some (codes "rfc6298.backoff.kept"))
    else None

abbrev pub backoff_after_ack_name : Option Timeout → ConnectionSnapshot → ConnectionSnapshot → Option (List ℕ)
backoff_after_ack_name None b a = None
backoff_after_ack_name (Some t) b a = if b.una == a.una then None else kept_backoff_name t b a

-- all names of samples
abbrev pub sample_names : Option Timeout → Option Timeout → ConnectionSnapshot → ConnectionSnapshot → List (List ℕ)
sample_names before after b a =
    present (sample_name before after b a ∷ sample_bound_name before after ∷ sample_variance_name before after ∷ backoff_after_ack_name before b a ∷ [])

-- Expiries

-- RTO is doubled, up to its greatest value (RFC 6298, section 5.5)
abbrev pub doubled_name : ConnectionSnapshot → ConnectionSnapshot → List ℕ
doubled_name b a =
    if a.rto_us == b.rto_us then codes "rfc6298.backoff.at-max"
    else (if a.rto_us == 2 * b.rto_us then codes "rfc6298.backoff.doubled" else codes "rfc6298.backoff.held-to-max")

-- an expiry ends the recovery that goes on (RFC 6675, section 5.1)
abbrev pub ended_by_expiry_name : Recovery → Option (List ℕ)
ended_by_expiry_name Idle = None
ended_by_expiry_name (WithSack pipe) = Some (codes "rfc6675.recovery.ends-at-expiry")
ended_by_expiry_name WithoutSack = Some (codes "rfc5681.recovery.ends-at-expiry")

-- what it does to ssthresh, which a further expiry leaves (RFC 5681, section 3.1)
abbrev pub ssthresh_at_expiry_name : ConnectionSnapshot → WindowSnapshot → WindowSnapshot → Option (List ℕ)
ssthresh_at_expiry_name a v w = if v.ssthresh == w.ssthresh then Some (codes "rfc5681.ssthresh.kept-at-expiry") else ssthresh_name a v w

abbrev pub window_names_at_expiry : ConnectionSnapshot → Option WindowSnapshot → Option WindowSnapshot → List (List ℕ)
window_names_at_expiry a (Some v) (Some w) = present (ended_by_expiry_name v.recovery ∷ ssthresh_at_expiry_name a v w ∷ [])
window_names_at_expiry a _ _ = []

-- all names of an expiry
abbrev pub expiry_names : Option ConnectionSnapshot → Option ConnectionSnapshot → List (List ℕ)
expiry_names (Some b) (Some a) = doubled_name b a ∷ window_names_at_expiry a b.windows a.windows
expiry_names _ _ = []
