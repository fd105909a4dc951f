-- The congestion window (RFC 5681; RFC 3465), and what loss recovery keeps (RFC 6675; RFC 9937). All sizes are in octets.
use Rattle.std.specs.Prelude.{◌≡◌, ℕ, ◌+◌, ◌-◌, ◌*◌, ◌/◌, ◌^◌, ◌≤◌, nat_lt, min, max, Bool, true, false, ◌&&◌, Option, None, Some, is_some, if◌then◌else◌}
use Rattle.pd_board.specs.Loss.{dup_thresh}
use Rattle.pd_settings.specs.declared.settings.Settings.{Settings}
use Rattle.pd_settings.specs.declared.initial_window.InitialWindow.{InitialWindow}
use Rattle.pd_settings.specs.declared.initial_window.InitialWindow.TheVariants.{Rfc5681, Rfc6928}
use Rattle.pd_settings.specs.declared.recovery_algorithm.RecoveryAlgorithm.{RecoveryAlgorithm}
use Rattle.pd_settings.specs.declared.setting_set.SettingSet.{SettingSet}
use Rattle.pd_seg.specs.declared.sack_spans.Span.{Span}
use Rattle.pd_recover.specs.declared.prr.PrrState.{PrrState}
use Rattle.pd_recover.specs.Prr.{IsPrrState, uses_prr, no_prr, with_sent, sndcnt_of}

-- the state of congestion control (RFC 5681, section 3.1) and of loss recovery (RFC 6675, section 2)
pub record CongView : Type 0 where
  -- the congestion window and the slow start threshold
  pub cwnd : ℕ
  pub ssthresh : ℕ
  -- DupAcks: how many duplicates came since the last ACK of new octets; to every rule all counts above DupThresh are the
  -- same
  pub dup_acks : ℕ
  -- whether duplicates before DupThresh send new data: limited transmit (RFC 3042)
  pub limited_transmit : Bool
  -- LT: how many octets limited transmit has sent since then
  pub limited_octets : ℕ
  -- whether loss recovery goes on
  pub recovering : Bool
  -- RecoveryPoint, HighRxt and RescueRxt, each as the number after its octet
  pub recovery_point : ℕ
  pub high_rxt : ℕ
  pub rescue_rxt : ℕ
  -- whether the timer has expired since the establishment and the last ACK of new octets
  pub expired : Bool
  -- L, in segments: by how many an ACK widens the window at most in slow start (RFC 3465, section 2.2)
  pub abc_limit : ℕ
  -- whether slow start began at an expiry last (RFC 3465, section 2.3)
  pub follows_expiry : Bool
  -- the rule for IW, where the window restarts by it after an idle time (RFC 5681, section 4.1)
  pub idle_restart_rule : Option InitialWindow
  -- the algorithm of recovery with SACK, and what PRR keeps of it (RFC 9937, section 6)
  pub recovery_algorithm : RecoveryAlgorithm
  pub prr : PrrState

-- whether recovery goes on by PRR, which alone makes the window smaller than a segment
abbrev pub is_prr_recovering : Bool → RecoveryAlgorithm → Bool
is_prr_recovering recovering recovery_algorithm = recovering && uses_prr recovery_algorithm

-- the ranges of the window, the threshold and the counts
pub record IsRanged (cwnd ssthresh dup_acks limited_octets : ℕ) (prr_recovering : Bool) (prr : PrrState) : Type 0 where
  pub cwnd_from : prr_recovering ≡ false → 1 ≤ cwnd
  pub cwnd_to : cwnd ≤ 2 ^ 31
  pub ssthresh_from : 1 ≤ ssthresh
  pub ssthresh_to : ssthresh ≤ 2 ^ 30
  pub dup_acks_to : dup_acks ≤ dup_thresh + 1
  pub limited_to : limited_octets ≤ 2 ^ 31
  pub counts : IsPrrState prr

-- the facts of every state
abbrev pub IsCongView : CongView → Type 0
IsCongView w = IsRanged w.cwnd w.ssthresh w.dup_acks w.limited_octets (is_prr_recovering w.recovering w.recovery_algorithm) w.prr

-- how many segments the initial window of RFC 5681 holds (section 3.1)
abbrev pub rfc5681_initial_segments : ℕ → ℕ
rfc5681_initial_segments smss =
    if nat_lt 2190 smss then 2
    else if nat_lt 1095 smss then 3
    else 4

-- the initial window by the rule of the settings (RFC 5681, section 3.1; RFC 6928, section 2)
abbrev pub initial_window_by_rule : InitialWindow → ℕ → ℕ
initial_window_by_rule Rfc5681 smss = rfc5681_initial_segments smss * smss
initial_window_by_rule Rfc6928 smss = min (10 * smss) (max (2 * smss) 14600)

-- the same, or one segment where the SYN/ACK was sent again (RFC 5681, section 3.1; own under RFC 6928, whose section 2
-- goes back to one segment only where it was sent again more than once)
abbrev pub initial_cwnd_smss_if_syn_ack_resent : InitialWindow → ℕ → Bool → ℕ
initial_cwnd_smss_if_syn_ack_resent rule smss syn_ack_resent = if syn_ack_resent then smss else initial_window_by_rule rule smss

-- IW's rule where the setting is on
abbrev pub idle_restart_rule : Bool → InitialWindow → Option InitialWindow
idle_restart_rule on rule = if on then Some rule else None

-- the state at establishment, by the settings' rule for the initial window, their first threshold, their L, whether they
-- have limited transmit and the restart after an idle time, and their rate of recovery; whether the SYN/ACK was sent again
-- counts
abbrev pub begun : Settings → ℕ → Bool → CongView
begun settings smss syn_ack_resent = record {
  cwnd = initial_cwnd_smss_if_syn_ack_resent settings.initial_window smss syn_ack_resent;
  ssthresh = settings.initial_ssthresh;
  dup_acks = 0;
  limited_transmit = settings.limited_transmit;
  limited_octets = 0;
  recovering = false;
  recovery_point = 0;
  high_rxt = 0;
  rescue_rxt = 0;
  expired = false;
  abc_limit = settings.abc_limit;
  follows_expiry = false;
  idle_restart_rule = idle_restart_rule settings.slow_start_after_idle settings.initial_window;
  recovery_algorithm = settings.recovery_algorithm;
  prr = no_prr;
}

-- the settings that it consults
abbrev pub begun_settings : SettingSet → SettingSet
begun_settings consulted_settings = record consulted_settings {
  initial_ssthresh = true;
  initial_window = true;
  limited_transmit = true;
  abc_limit = true;
  slow_start_after_idle = true;
  recovery_algorithm = true;
}

-- a window that grows stays at or below 2^30
abbrev pub widened : ℕ → CongView → CongView
widened octets w = record w { cwnd = min (w.cwnd + octets) (2 ^ 30) }

-- L, in segments: 1 in the slow start after an expiry (RFC 3465, sections 2.2 and 2.3)
abbrev pub limit_of : CongView → ℕ
limit_of w = if w.follows_expiry then 1 else w.abc_limit

-- by how much an ACK of n new octets widens the window: slow start below ssthresh, else congestion avoidance (RFC 5681,
-- section 3.1, equations 2 and 3; RFC 3465, section 2.2)
abbrev pub cwnd_growth : ℕ → ℕ → CongView → ℕ
cwnd_growth smss n w = if nat_lt w.cwnd w.ssthresh then min n (limit_of w * smss) else max (smss * smss / w.cwnd) 1

-- the window after an ACK of n new octets (RFC 5681, section 3.1)
abbrev pub grown : ℕ → ℕ → CongView → CongView
grown smss n w = widened (cwnd_growth smss n w) w

-- half of what is outstanding, without what limited transmit has sent, 2 segments at least (RFC 5681, section 3.2,
-- step 2; equation 4)
abbrev pub halved : ℕ → ℕ → ℕ → CongView → ℕ
halved smss una top w = max ((top - una - w.limited_octets) / 2) (2 * smss)

-- ssthresh after an expiry: half of what is outstanding, but it stays where the octets had expired already (RFC 5681,
-- section 3.1, equation 4)
abbrev pub ssthresh_after_expiry : ℕ → ℕ → ℕ → CongView → ℕ
ssthresh_after_expiry smss una top w = if w.expired then w.ssthresh else max ((top - una) / 2) (2 * smss)

-- the timer expires: one segment is the window, and recovery ends, by PRR too (RFC 5681, section 3.1; RFC 6675, section 5.1)
abbrev pub timed_out : ℕ → ℕ → ℕ → CongView → CongView
timed_out smss una top w = record w {
  cwnd = smss;
  ssthresh = ssthresh_after_expiry smss una top w;
  dup_acks = 0;
  limited_octets = 0;
  recovering = false;
  recovery_point = top;
  expired = true;
  follows_expiry = true;
  prr = no_prr;
}

-- RW, the restart window: min(IW, cwnd) (RFC 5681, section 4.1); without a rule for IW the window stays
abbrev pub restart_window : Option InitialWindow → ℕ → ℕ → ℕ
restart_window None smss cwnd = cwnd
restart_window (Some rule) smss cwnd = min (initial_window_by_rule rule smss) cwnd

-- sending begins: after an idle time the window is RW at most (RFC 5681, section 4.1), and the slow start that begins so
-- doesn't follow an expiry (own)
abbrev pub restarted : ℕ → Bool → CongView → CongView
restarted smss idle w = record w {
  cwnd = if idle then restart_window w.idle_restart_rule smss w.cwnd else w.cwnd;
  follows_expiry = if idle && is_some w.idle_restart_rule then false else w.follows_expiry;
}

-- By PRR (RFC 9937, section 6)

-- octets were sent in recovery, which counts where it goes by PRR
abbrev pub with_prr_out : ℕ → CongView → CongView
with_prr_out octets w = record w { prr = if uses_prr w.recovery_algorithm then with_sent octets w.prr else w.prr }

-- sndcnt at a pipe
abbrev pub sndcnt : ℕ → ℕ → CongView → ℕ
sndcnt smss pipe w = sndcnt_of smss pipe w.ssthresh w.prr

-- an ACK in recovery lets sndcnt octets out: cwnd = pipe + sndcnt, up to 2^30 (own)
abbrev pub with_prr_cwnd : ℕ → ℕ → CongView → CongView
with_prr_cwnd smss pipe w = record w {
  cwnd = if is_prr_recovering w.recovering w.recovery_algorithm then min (pipe + sndcnt smss pipe w) (2 ^ 30) else w.cwnd;
}

-- an entry has sent the segment at una again (RFC 6675, section 5, step 4.3)
abbrev pub entered_to : Span → CongView → CongView
entered_to segment w = with_prr_out (segment.end - segment.start) (record w { high_rxt = segment.end; rescue_rxt = segment.end })

-- limited transmit has sent this many octets; no connection has more than 2^31
abbrev pub with_limited : ℕ → CongView → CongView
with_limited octets w = record w { limited_octets = min (w.limited_octets + octets) (2 ^ 31) }
