-- The invariant of a connection that the rules reach, through calls.
use Rattle.std.proofs.Common.{◌≡◌, ℕ, ◌+◌, ◌&&◌, min, Bool, true, false, Option, Some, None, refl, ap, subst, arith}
use Rattle.std.specs.Prelude.{is_some, option_map, IfSome, if◌then◌else◌}
use Rattle.pd_settings.specs.declared.settings.Settings.{Settings}
use Rattle.pd_host.specs.Arrivals.{with_peer_fin}
use Rattle.pd_host.specs.Calls.{is_open, is_unaccepted, stream_in, stream_of, with_stream, with_nagle, free_of, with_queued, with_fin, closed_stream}
use Rattle.pd_host.specs.Connection.{ConnectionView}
use Rattle.pd_host.specs.Invariants.{IsOfPhase, IsInBounds, IsEnding, IsReached, fin_octets}
use Rattle.pd_host.specs.declared.established.Established.{Established}
use Rattle.pd_host.specs.declared.established.PeerFin.{PeerFin}
use Rattle.pd_host.specs.declared.established.PeerFin.TheVariants.{BeforeOurs, AfterOurs}
use Rattle.pd_host.specs.declared.descriptors.StreamState.{StreamState}
use Rattle.pd_host.specs.declared.descriptors.StreamState.TheVariants as stream_state
use Rattle.pd_host.proofs.Boards.{sure, written_ordered}
use Rattle.pd_host.proofs.Kept.{by_test}
use Rattle.pd_host.proofs.Reached.{IsLive, phase_of}
use Rattle.pd_host.proofs.AckedBelow.{second_of_two}

-- descriptor 4 is open on an established connection alone
opened_some : (o : Option Established) → is_open (stream_in o) ≡ true → (e : Established) × (o ≡ Some e)
opened_some None e = absurd cc
opened_some (Some est) e = (est, refl)

phase_same : (f : Established → Established) (o : Option Established) (una top end : ℕ) → IsOfPhase o una top end → IsOfPhase (option_map f o) una top end
phase_same f None una top end h = h
phase_same f (Some e) una top end h = h

bounds_same : (b : Settings) (f : Established → Established) (smss top max_window : ℕ) (o : Option Established)
    → ((e : Established) → IsInBounds b smss top max_window e → IsInBounds b smss top max_window (f e))
    → IfSome o (IsInBounds b smss top max_window) → IfSome (option_map f o) (IsInBounds b smss top max_window)
bounds_same b f smss top max_window None kept h = tt
bounds_same b f smss top max_window (Some e) kept h = kept e h

-- another stream, or Nagle's algorithm, leaves the windows
module _ (b : Settings) (smss top max_window : ℕ) where
  stream_bounds : (d : StreamState) (e : Established) → IsInBounds b smss top max_window e → IsInBounds b smss top max_window (record e { stream_state = d })
  stream_bounds d e h = record {
    windows = h.windows;
    max_window = h.max_window;
    recovery_point = h.recovery_point;
    high_rxt = h.high_rxt;
    rescue_rxt = h.rescue_rxt;
  }

  nagle_bounds : (on : Bool) (e : Established) → IsInBounds b smss top max_window e → IsInBounds b smss top max_window (record e { nagle = on })
  nagle_bounds on e h = record {
    windows = h.windows;
    max_window = h.max_window;
    recovery_point = h.recovery_point;
    high_rxt = h.high_rxt;
    rescue_rxt = h.rescue_rxt;
  }

fin_bounds : (b : Settings) (smss top max_window : ℕ) (p : PeerFin) (e : Established) → IsInBounds b smss top max_window e
    → IsInBounds b smss top max_window (record e { peer_fin = p })
fin_bounds b smss top max_window p e h = record {
  windows = h.windows;
  max_window = h.max_window;
  recovery_point = h.recovery_point;
  high_rxt = h.high_rxt;
  rescue_rxt = h.rescue_rxt;
}

-- how the ends of both sides stand, where one of them moves

nagle_ending : (on fin : Bool) (o : Option Established) → IsEnding fin o → IsEnding fin (option_map {T = Established} (λ e. record e { nagle = on }) o)
nagle_ending on fin None h = h
nagle_ending on fin (Some e) h = h

stream_ending : (d : StreamState) (fin : Bool) (o : Option Established)
    → (fin ≡ true → stream_in (option_map {T = Established} (λ e. record e { stream_state = d }) o) ≡ stream_state.Closed)
    → IsEnding fin o → IsEnding fin (option_map {T = Established} (λ e. record e { stream_state = d }) o)
stream_ending d fin None closed h = (closed, h.1)
stream_ending d fin (Some e) closed h = (closed, h.1)

-- the FIN is noted as after ours only where ours is queued
noted_order : (fin : Bool) → (if fin then AfterOurs else BeforeOurs) ≡ AfterOurs → fin ≡ true
noted_order true h = refl
noted_order false h = absurd cc

peer_ending : (fin : Bool) (o : Option Established) → IsEnding fin o
    → IsEnding fin (option_map {T = Established} (λ e. record e { peer_fin = if fin then AfterOurs else BeforeOurs }) o)
peer_ending fin None h = h
peer_ending fin (Some e) h = (h.0, noted_order fin)

closed_in : (o : Option Established) → is_open (stream_in o) ≡ true → stream_in (option_map {T = Established} (λ e. record e { stream_state = stream_state.Closed }) o) ≡ stream_state.Closed
closed_in None e = absurd cc
closed_in (Some est) e = refl

not_waiting : (d : StreamState) → is_unaccepted d ≡ true → d ≡ stream_state.Closed → ⊥
not_waiting d e f = let w : is_unaccepted stream_state.Closed ≡ true = subst (λ x. is_unaccepted x ≡ true) f e in absurd cc

not_open : (d : StreamState) → is_open d ≡ true → d ≡ stream_state.Closed → ⊥
not_open d e f = let w : is_open stream_state.Closed ≡ true = subst (λ x. is_open x ≡ true) f e in absurd cc

pub clash : (x : Bool) → x ≡ true → x ≡ false → ⊥
clash x t f = cc

module _ (b : Settings) (now : ℕ) where
  -- descriptor 4 is that far
  restreamed : (d : StreamState) (c : ConnectionView) → IsReached b now c
      → (c.fin ≡ true → stream_in (option_map {T = Established} (λ e. record e { stream_state = d }) c.established) ≡ stream_state.Closed)
      → IsReached b now (with_stream d c)
  restreamed d c h fin = record {
    agreed = h.agreed;
    board = h.board;
    room = h.room;
    phase = phase_same (λ e. record e { stream_state = d }) c.established c.board.una c.board.top c.board.end h.phase;
    fin = stream_ending d c.fin c.established fin h.fin;
    bounds = bounds_same b (λ e. record e { stream_state = d }) c.board.smss c.board.top c.max_window c.established (stream_bounds b c.board.smss c.board.top c.max_window d) h.bounds;
    runs = h.runs;
    rtt_segment = h.rtt_segment;
  }

  pub accepted_reached : (c : ConnectionView) → IsReached b now c → (is_some c.established && is_unaccepted (stream_of c)) ≡ true
      → IsReached b now (with_stream stream_state.Open c)
  accepted_reached c h e =
      restreamed stream_state.Open c h (λ queued. absurd (not_waiting (stream_of c) (second_of_two (is_some c.established) _ e) (h.fin.0 queued)))

  pub nagle_reached : (on : Bool) (c : ConnectionView) → IsReached b now c → IsReached b now (with_nagle on c)
  nagle_reached on c h = record {
    agreed = h.agreed;
    board = h.board;
    room = h.room;
    phase = phase_same (λ e. record e { nagle = on }) c.established c.board.una c.board.top c.board.end h.phase;
    fin = nagle_ending on c.fin c.established h.fin;
    bounds = bounds_same b (λ e. record e { nagle = on }) c.board.smss c.board.top c.max_window c.established (nagle_bounds b c.board.smss c.board.top c.max_window on) h.bounds;
    runs = h.runs;
    rtt_segment = h.rtt_segment;
  }

  pub finned_reached : (c : ConnectionView) → IsReached b now c → IsReached b now (with_peer_fin c)
  finned_reached c h =
      let p : PeerFin = if c.fin then AfterOurs else BeforeOurs in
      record {
        agreed = h.agreed;
        board = h.board;
        room = h.room;
        phase = phase_same (λ e. record e { peer_fin = p }) c.established c.board.una c.board.top c.board.end h.phase;
        fin = peer_ending c.fin c.established h.fin;
        bounds =
            bounds_same b (λ e. record e { peer_fin = p }) c.board.smss c.board.top c.max_window c.established
            (fin_bounds b c.board.smss c.board.top c.max_window p) h.bounds;
        runs = h.runs;
        rtt_segment = h.rtt_segment;
      }

  -- no FIN is queued while descriptor 4 is open
  unfinished : (c : ConnectionView) → IsReached b now c → is_open (stream_of c) ≡ true → c.fin ≡ false
  unfinished c h unclosed = sure c.fin (λ queued. not_open (stream_of c) unclosed (h.fin.0 queued))

  pub queued_live : (n : ℕ) (c : ConnectionView) → IsReached b now c → is_open (stream_of c) ≡ true → c.is_reset ≡ false
      → IsLive b now (with_queued (min n (free_of b.sndbuf c)) c)
  queued_live n c h unclosed still =
      let none : fin_octets c.fin ≡ 0 = ap fin_octets (unfinished c h unclosed) in
      let k = opened_some c.established unclosed in
      record {
        reached = record {
          agreed = h.agreed;
          board = written_ordered (min n (free_of b.sndbuf c)) c.board h.board;
          room = omega (arith, h.room, none, h.board.una_next, h.board.next_top, h.board.top_end);
          phase = phase_of c.established k.0 c.board.una c.board.top c.board.end c.board.top (c.board.end + min n (free_of b.sndbuf c)) k.1 h.phase;
          fin = h.fin;
          bounds = h.bounds;
          runs = h.runs;
          rtt_segment = h.rtt_segment;
        };
        live = still;
      }

  -- our FIN is queued, and descriptor 4 is closed
  fin_live : (c : ConnectionView) → IsReached b now c → is_open (stream_of c) ≡ true → c.is_reset ≡ false → IsLive b now (with_stream stream_state.Closed (with_fin c))
  fin_live c h unclosed still =
      let none : fin_octets c.fin ≡ 0 = ap fin_octets (unfinished c h unclosed) in
      let k = opened_some c.established unclosed in
      record {
        reached = record {
          agreed = h.agreed;
          board = written_ordered 1 c.board h.board;
          room = omega (arith, h.room, none);
          phase =
              phase_same (λ e. record e { stream_state = stream_state.Closed }) c.established c.board.una c.board.top (c.board.end + 1)
              (phase_of c.established k.0 c.board.una c.board.top c.board.end c.board.top (c.board.end + 1) k.1 h.phase);
          fin = (λ _. closed_in c.established unclosed, λ _. refl);
          bounds =
              bounds_same b (λ e. record e { stream_state = stream_state.Closed }) c.board.smss c.board.top c.max_window c.established
              (stream_bounds b c.board.smss c.board.top c.max_window stream_state.Closed) h.bounds;
          runs = h.runs;
          rtt_segment = h.rtt_segment;
        };
        live = still;
      }

  pub finished_live : (c : ConnectionView) → IsReached b now c → is_open (stream_of c) ≡ true → c.is_reset ≡ false → IsLive b now (closed_stream c)
  finished_live c h unclosed still =
      by_test (λ (d : ConnectionView). IsLive b now (with_stream stream_state.Closed d)) c.is_reset c (with_fin c)
      (λ was. absurd (clash c.is_reset was still)) (λ _. fin_live c h unclosed still)

  pub abandoned_reached : (c : ConnectionView) → IsReached b now c → is_open (stream_of c) ≡ true → c.is_reset ≡ true → IsReached b now (closed_stream c)
  abandoned_reached c h unclosed was =
      by_test (λ (d : ConnectionView). IsReached b now (with_stream stream_state.Closed d)) c.is_reset c (with_fin c)
      (λ _. restreamed stream_state.Closed c h (λ _. closed_in c.established unclosed)) (λ still. absurd (clash c.is_reset was still))
