-- The numbers of a connection, as those who observe it see them.
use Rattle.std.specs.Prelude.{Bool, true, false, ℕ, Option, Some, None, option_map, if◌then◌else◌}
use Rattle.pd_board.specs.Loss.{pipe}
use Rattle.pd_recover.specs.Cong.{CongView}
use Rattle.pd_recover.specs.Prr.{uses_prr}
use Rattle.pd_recover.specs.declared.prr.PrrState.{PrrState}
use Rattle.pd_host.specs.Connection.{ConnectionView}
use Rattle.pd_host.specs.SendBlockers.{last_octet_needed_in_windows}
use Rattle.pd_host.specs.Sending.{with_next_past_sacked}
use Rattle.pd_host.specs.declared.established.Established.{Established}
use Rattle.pd_host.specs.declared.connection_snapshot.ConnectionSnapshot.{ConnectionSnapshot}
use Rattle.pd_host.specs.declared.connection_snapshot.Recovery.{Recovery}
use Rattle.pd_host.specs.declared.connection_snapshot.Recovery.TheVariants.{Idle, WithSack, WithoutSack}
use Rattle.pd_host.specs.declared.connection_snapshot.WindowSnapshot.{WindowSnapshot}
use Rattle.pd_host.specs.declared.endpoint.SenderState.{SenderState}

-- the recovery that goes on: with SACK that of RFC 6675, by its pipe, else that of RFC 5681, section 3.2
abbrev pub recovery_of : ConnectionView → CongView → Recovery
recovery_of c w = by w.recovering c.sack
  where
    by : Bool → Bool → Recovery
    by false _ = Idle
    by true true = WithSack (pipe w.high_rxt c.board)
    by true false = WithoutSack

-- the state of PRR, where recovery goes by it
abbrev pub reduction_of : CongView → Option PrrState
reduction_of w = if uses_prr w.recovery_algorithm then Some w.prr else None

-- the windows, from the end of the handshake on
abbrev pub windows_of : ConnectionView → Option WindowSnapshot
windows_of c = option_map {T = Established} windows c.established
  where
    windows : Established → WindowSnapshot
    windows e = record {
      cwnd = e.congestion.cwnd;
      ssthresh = e.congestion.ssthresh;
      rwnd = e.rwnd;
      dup_acks = e.congestion.dup_acks;
      recovery = recovery_of c e.congestion;
      prr = reduction_of e.congestion;
    }

-- the numbers of a connection (RFC 9293, section 3.3.1; RFC 6298, section 2)
abbrev pub connection_snapshot_of : ConnectionView → ConnectionSnapshot
connection_snapshot_of c = record {
  smss = c.board.smss;
  una = c.board.una;
  next = c.board.next;
  top = c.board.top;
  end = c.board.end;
  rto_us = c.timer.rto;
  windows = windows_of c;
  is_reset = c.is_reset;
}

-- the same of the sender, once a SYN has begun a connection
abbrev pub connection_snapshot_in : SenderState → Option ConnectionSnapshot
connection_snapshot_in s = option_map {T = ConnectionView} connection_snapshot_of s.endpoint.connection

-- once a SYN has begun a connection, the octet that has to lie within the windows for its next segment to leave, its sending
-- place past SACKed octets
abbrev pub wanted_in : SenderState → Option ℕ
wanted_in s = option_map {T = ConnectionView} (λ c. last_octet_needed_in_windows (with_next_past_sacked c)) s.endpoint.connection
