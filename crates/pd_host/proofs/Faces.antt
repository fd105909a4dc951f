-- The part of a connection that its state's name depends on, and what leaves it.
use Rattle.std.proofs.Common.{◌≡◌, ℕ, ◌==◌, max, Bool, if◌then◌else◌, Option, None, Some, refl, sym, ap, ◌∙◌}
use Rattle.std.specs.Prelude.{option_map}
use Rattle.pd_seg.specs.declared.segments.Segment.{Segment}
use Rattle.pd_host.specs.AckEffects.{newly_acked, can_update_window, with_number, with_blocks, with_timing, with_ack, taking}
use Rattle.pd_host.specs.Arrivals.{with_peer_fin}
use Rattle.pd_host.specs.ConnStates.{state_from_fins_and_all_acked, state_after_handshake, state_of, state_on}
use Rattle.pd_host.specs.Connection.{ConnectionView}
use Rattle.pd_host.specs.Handshake.{scaled_window_in, with_window}
use Rattle.pd_host.specs.declared.connection.states.ConnState.{ConnState}
use Rattle.pd_host.specs.declared.connection.states.ConnState.TheVariants.{Closed, SynReceived}
use Rattle.pd_host.specs.declared.established.Established.{Established}
use Rattle.pd_host.specs.declared.descriptors.ListenState.{ListenState}
use Rattle.pd_host.specs.declared.established.PeerFin.{PeerFin}
use Rattle.pd_host.specs.declared.established.PeerFin.TheVariants.{BeforeOurs, AfterOurs}
use Rattle.pd_host.specs.declared.endpoint.SenderState.{SenderState}
use Rattle.pd_host.proofs.SentOn.{IsSentOn, still, stills, at_rest}
use Rattle.pd_host.proofs.Taken.{same_either, taking_keeps}

-- whether an RST came, the peer's FIN from the establishment on, whether ours is queued, and whether all that is queued is
-- acknowledged
pub record Face : Type 0 where
  pub is_reset : Bool
  pub peer : Option PeerFin
  pub fin : Bool
  pub acked : Bool

abbrev pub peer_of : Option Established → Option PeerFin
peer_of None = None
peer_of (Some e) = Some e.peer_fin

abbrev pub face : ConnectionView → Face
face c = record { is_reset = c.is_reset; peer = peer_of c.established; fin = c.fin; acked = c.board.una == c.board.end }

abbrev pub faces : Option ConnectionView → Option Face
faces None = None
faces (Some c) = Some (face c)

-- the name by that

abbrev pub since : Option PeerFin → Bool → Bool → ConnState
since None fin acked = SynReceived
since (Some p) fin acked = state_from_fins_and_all_acked p fin acked

abbrev pub named : Face → ConnState
named f = if f.is_reset then Closed else since f.peer f.fin f.acked

pub since_of : (c : ConnectionView) (o : Option Established) → state_after_handshake c o ≡ since (peer_of o) c.fin (c.board.una == c.board.end)
since_of c None = refl
since_of c (Some e) = refl

pub state_named : (c : ConnectionView) → state_of c ≡ named (face c)
state_named c = ap (λ (x : ConnState). if c.is_reset then Closed else x) (since_of c c.established)

some_face : (f g : Face) → Some f ≡ Some g → f ≡ g
some_face f g h = cc

pub state_at : (l : ListenState) (o : Option ConnectionView) (f : Face) → faces o ≡ Some f → state_on l o ≡ named f
state_at l None f h = absurd cc
state_at l (Some c) f h = state_named c ∙ ap named (some_face (face c) f h)

-- two connections with the same face have the same state
pub same_state : (c d : ConnectionView) → face d ≡ face c → state_of d ≡ state_of c
same_state c d h = state_named d ∙ ap named h ∙ sym (state_named c)

-- The segments that leave it

rest_peer : (o : Option Established) → peer_of (at_rest o) ≡ peer_of o
rest_peer None = refl
rest_peer (Some e) = refl

still_face : (c : ConnectionView) → face (still c) ≡ face c
still_face c =
    ap (λ (p : Option PeerFin). record { is_reset = c.is_reset; peer = p; fin = c.fin; acked = c.board.una == c.board.end }) (rest_peer c.established)

still_faces : (o : Option ConnectionView) → faces (stills o) ≡ faces o
still_faces None = refl
still_faces (Some c) = ap (λ (f : Face). Some f) (still_face c)

-- sending does
pub sent_faces : (now : ℕ) (s t : SenderState) → IsSentOn now s t → faces t.endpoint.connection ≡ faces s.endpoint.connection
sent_faces now s t h = sym (still_faces t.endpoint.connection) ∙ ap faces h.connection ∙ still_faces s.endpoint.connection

-- Its state after an ACK

ack_peer : (now : ℕ) (segment : Segment) (e : Established) (c : ConnectionView) → (with_ack now segment e c).0.1.peer_fin ≡ e.peer_fin
ack_peer now segment e c =
    let d : ConnectionView = with_timing now e.granularity_us (newly_acked c segment) (with_blocks segment (with_number segment c)) in
    same_either (λ (x : ConnectionView × Established). x.1.peer_fin) (can_update_window e segment)
    (record d { max_window = max d.max_window (scaled_window_in d segment) }, with_window (scaled_window_in d segment) segment e) (d, e) e.peer_fin refl refl

pub taking_peer : (now : ℕ) (segment : Segment) (c : ConnectionView) (o : Option Established) → c.established ≡ o
    → peer_of (taking now segment c o).0.established ≡ peer_of o
taking_peer now segment c None e = ap peer_of e
taking_peer now segment c (Some x) e = ap (λ (p : PeerFin). Some p) (ack_peer now segment x c)

-- the same face but for what is acknowledged

abbrev pub face_with : Bool → ConnectionView → Face
face_with acked c = record { is_reset = c.is_reset; peer = peer_of c.established; fin = c.fin; acked = acked }

abbrev pub is_all_acked : ℕ → ConnectionView → Option Established → Bool
is_all_acked number c None = c.board.una == c.board.end
is_all_acked number c (Some e) = number == c.board.end

pub taking_face : (now : ℕ) (segment : Segment) (c : ConnectionView) (o : Option Established) → c.established ≡ o
    → face (taking now segment c o).0 ≡ face_with (is_all_acked segment.ack c o) c
taking_face now segment c None e = refl
taking_face now segment c (Some x) e =
    let t : ConnectionView = (taking now segment c (Some x)).0 in
    ap (λ (b : ConnectionView). record { is_reset = b.is_reset; peer = peer_of t.established; fin = b.fin; acked = b.board.una == b.board.end })
    (taking_keeps now segment c x)
    ∙ ap (λ (p : Option PeerFin). record { is_reset = c.is_reset; peer = p; fin = c.fin; acked = segment.ack == c.board.end })
    (taking_peer now segment c (Some x) e ∙ sym (ap peer_of e))

-- Its state after the peer's FIN

abbrev pub noted : Bool → Option PeerFin → Option PeerFin
noted fin None = None
noted fin (Some p) = Some (if fin then AfterOurs else BeforeOurs)

abbrev pub finished : Face → Face
finished f = record f { peer = noted f.fin f.peer }

noted_peer : (fin : Bool) (o : Option Established)
    → peer_of (option_map {T = Established} (λ e. record e { peer_fin = if fin then AfterOurs else BeforeOurs }) o) ≡ noted fin (peer_of o)
noted_peer fin None = refl
noted_peer fin (Some e) = refl

pub finished_face : (c : ConnectionView) → face (with_peer_fin c) ≡ finished (face c)
finished_face c =
    ap (λ (p : Option PeerFin). record { is_reset = c.is_reset; peer = p; fin = c.fin; acked = c.board.una == c.board.end }) (noted_peer c.fin c.established)
