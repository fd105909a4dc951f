-- Proportional Rate Reduction: how many octets each ACK in recovery lets out (RFC 9937, section 6). All sizes are in octets.
use Rattle.std.specs.Prelude.{ℕ, ◌+◌, ◌-◌, ◌*◌, ◌/◌, ◌^◌, ◌≤◌, ◌==◌, ◌&&◌, nat_lt, min, max, Bool, true, false, if◌then◌else◌}
use Rattle.pd_settings.specs.declared.recovery_algorithm.RecoveryAlgorithm.{RecoveryAlgorithm}
use Rattle.pd_settings.specs.declared.recovery_algorithm.RecoveryAlgorithm.TheVariants.{Rfc6675, Rfc9937}
use Rattle.pd_recover.specs.declared.ack.Delivery.{Delivery}
use Rattle.pd_recover.specs.declared.prr.PrrState.{PrrState}

-- RecoverFS is never 0, and no connection has more than 2^31 octets
pub record IsPrrState (r : PrrState) : Type 0 where
  pub delivered_to : r.prr_delivered ≤ 2 ^ 31
  pub out_to : r.prr_out ≤ 2 ^ 31
  pub flight_from : 1 ≤ r.recover_fs

-- whether recovery goes by PRR
abbrev pub uses_prr : RecoveryAlgorithm → Bool
uses_prr Rfc6675 = false
uses_prr Rfc9937 = true

-- no recovery by PRR goes on
abbrev pub no_prr : PrrState
no_prr = record { prr_delivered = 0; prr_out = 0; recover_fs = 1; delivered_data = 0; safe_ack = false }

-- the start of a recovery: prr_delivered = prr_out = 0, and RecoverFS, 1 at least
abbrev pub begun_with : ℕ → PrrState
begun_with recover_fs = record { prr_delivered = 0; prr_out = 0; recover_fs = max recover_fs 1; delivered_data = 0; safe_ack = false }

-- an ACK in recovery: prr_delivered += DeliveredData
abbrev pub delivery_counted : Delivery → PrrState → PrrState
delivery_counted d r = record r {
  prr_delivered = min (r.prr_delivered + d.delivered_data) (2 ^ 31);
  delivered_data = d.delivered_data;
  safe_ack = d.safe_ack;
}

-- data is sent, or sent again: prr_out += its octets
abbrev pub with_sent : ℕ → PrrState → PrrState
with_sent octets r = record r { prr_out = min (r.prr_out + octets) (2 ^ 31) }

-- CEIL(prr_delivered * ssthresh / RecoverFS)
abbrev pub proportional_ssthresh : ℕ → PrrState → ℕ
proportional_ssthresh ssthresh r = (r.prr_delivered * ssthresh + (r.recover_fs - 1)) / r.recover_fs

-- the greater of prr_delivered - prr_out and DeliveredData, and SMSS more at a SafeACK
abbrev pub sndcnt_limit_plus_smss_if_safe_ack : ℕ → PrrState → ℕ
sndcnt_limit_plus_smss_if_safe_ack smss r = max (r.prr_delivered - r.prr_out) r.delivered_data + (if r.safe_ack then smss else 0)

-- sndcnt before a segment is forced: with the pipe above ssthresh, the part of ssthresh less prr_out, 0 where that is more
-- (own); else the limit, up to ssthresh - pipe
abbrev pub unforced_sndcnt : ℕ → ℕ → ℕ → PrrState → ℕ
unforced_sndcnt smss pipe ssthresh r =
    if nat_lt ssthresh pipe then proportional_ssthresh ssthresh r - r.prr_out else min (ssthresh - pipe) (sndcnt_limit_plus_smss_if_safe_ack smss r)

-- a segment is forced where nothing was sent in this recovery and nothing would be
abbrev pub is_forced : ℕ → ℕ → ℕ → PrrState → Bool
is_forced smss pipe ssthresh r = r.prr_out == 0 && unforced_sndcnt smss pipe ssthresh r == 0

-- sndcnt: how many octets an ACK lets out, SMSS where a segment is forced
abbrev pub sndcnt_of : ℕ → ℕ → ℕ → PrrState → ℕ
sndcnt_of smss pipe ssthresh r = if is_forced smss pipe ssthresh r then smss else unforced_sndcnt smss pipe ssthresh r
