-- Other settings that agree on all that was consulted give the same arrival.
use Rattle.std.proofs.Common.{◌≡◌, ℕ, ◌&&◌, min, max, Bool, true, false, if◌then◌else◌, nat_lt, length, List, Option, None, Some, Result, Ok, Err, refl, sym, ap, subst, ◌∙◌}
use Rattle.std.specs.Option.{option_map, unwrap_or}
use Rattle.pd_board.specs.Board.{opened}
use Rattle.pd_settings.specs.SettingSets.{Agree}
use Rattle.pd_settings.specs.declared.settings.Settings.{Settings}
use Rattle.pd_settings.specs.declared.keys.Key.TheVariants.{Mss, Sack, Wscale, RcvWnd, MinRtoUs, MaxRtoUs, GranularityUs, Nagle}
use Rattle.pd_settings.specs.declared.setting_set.SettingSet.{SettingSet}
use Rattle.pd_seg.specs.declared.segments.Segment.{Segment}
use Rattle.pd_seg.specs.declared.segments.Sent.{Sent}
use Rattle.pd_seg.specs.declared.send_rule.SendRule.TheVariants.{SynAck}
use Rattle.pd_timer.specs.Rto.{initial, started}
use Rattle.pd_host.specs.Arrivals.{check_outcome, goes_on, finished_on, finished_by, arrived_on, failed_check_of, with_connection}
use Rattle.pd_host.specs.Connection.{ConnectionView}
use Rattle.pd_host.specs.Handshake.{is_supported_syn_while_listening, connection_begun, answered_syn, established_by, syn_acked, syn_octet, syn_settings, establishment_settings, offered_mss, offered_count, offers_sack, scaled_window_in}
use Rattle.pd_host.specs.RttSegment.{with_sample, with_handshake_timer_ended}
use Rattle.pd_host.specs.declared.established.PeerFin.TheVariants.{Awaited}
use Rattle.pd_host.specs.declared.descriptors.StreamState.TheVariants.{Waiting}
use Rattle.pd_host.specs.InputLaws.{OnlyUsesMatter, with_settings}
use Rattle.pd_host.specs.Packets.{syn_ack_of}
use Rattle.pd_host.specs.Host.{beside, with_outbox, put_out, then_on}
use Rattle.pd_host.specs.declared.endpoint.Endpoint.{Endpoint}
use Rattle.pd_host.specs.declared.halts.Halt.{Halt}
use Rattle.pd_host.specs.declared.halts.Halt.TheVariants.{Limit, Unsupported}
use Rattle.pd_host.specs.declared.connection.segment_check.SegmentCheck.{SegmentCheck}
use Rattle.pd_host.specs.declared.connection.segment_check.SegmentCheck.TheVariants.{NotRun, StrayRst, OutsideWindow, ExactRst, ChallengedRst, WithoutAck, FirstAck, RefusedAck, EarlyAck, OldAck}
use Rattle.pd_host.specs.declared.endpoint.SenderState.{SenderState}
use Rattle.pd_host.proofs.Finishes.{finished_leaves}
use Rattle.pd_host.proofs.Outcomes.{came, either_mapped}
use Rattle.pd_host.proofs.Rebound.{again, taken_again}
use Rattle.pd_settings.proofs.SameValues.{number_of, truth_of}
use Rattle.pd_recover.specs.Cong.{CongView, begun}
use Rattle.pd_recover.proofs.Begun.{begins_by_uses}

-- the endpoint's rules know no settings
beside_again : (b : Settings) (s : SenderState) (r : Result Endpoint Halt) → beside (with_settings b s) r ≡ again b (beside s r)
beside_again b s (Ok e) = refl
beside_again b s (Err halt) = refl

-- the connection that a SYN begins depends on six settings alone
abbrev begun_with : ℕ → Bool → ℕ → ℕ → ℕ → ℕ → ℕ → Segment → ConnectionView
begun_with mss sack wscale rcv_wnd least greatest now syn = record {
  own_mss = mss;
  sack = sack && offers_sack syn.options;
  scaling = option_map (λ count. record { own = wscale; peer = min count 14 }) (offered_count syn.options);
  rcv_wnd = rcv_wnd;
  board = opened (min mss (unwrap_or (offered_mss syn.options) 536));
  fin = false;
  timer = started now (initial least greatest);
  rtt_segment = Some (record { segment = syn_octet; sent_at = now });
  last_sent = now;
  max_window = syn.win;
  syn_ack_resent = false;
  established = None;
  is_reset = false;
}

begun_same : (a b : Settings) (now : ℕ) (syn : Segment)
    → a.mss ≡ b.mss → a.sack ≡ b.sack → a.wscale ≡ b.wscale → a.rcv_wnd ≡ b.rcv_wnd → a.min_rto_us ≡ b.min_rto_us → a.max_rto_us ≡ b.max_rto_us
    → connection_begun now b syn ≡ connection_begun now a syn
begun_same a b now syn m k w r least greatest =
    ap (λ (x : ℕ). begun_with x b.sack b.wscale b.rcv_wnd b.min_rto_us b.max_rto_us now syn) (sym m)
    ∙ ap (λ (x : Bool). begun_with a.mss x b.wscale b.rcv_wnd b.min_rto_us b.max_rto_us now syn) (sym k)
    ∙ ap (λ (x : ℕ). begun_with a.mss a.sack x b.rcv_wnd b.min_rto_us b.max_rto_us now syn) (sym w)
    ∙ ap (λ (x : ℕ). begun_with a.mss a.sack a.wscale x b.min_rto_us b.max_rto_us now syn) (sym r)
    ∙ ap (λ (x : ℕ). begun_with a.mss a.sack a.wscale a.rcv_wnd x b.max_rto_us now syn) (sym least)
    ∙ ap (λ (x : ℕ). begun_with a.mss a.sack a.wscale a.rcv_wnd a.min_rto_us x now syn) (sym greatest)

-- what an answered SYN consulted
syn_consults : (b : Bool) (packets : List Sent) (e : Endpoint) (s t : SenderState)
    → beside (record s { consulted_settings = syn_settings s.consulted_settings }) (with_outbox e (if b then Ok packets else Err Limit)) ≡ Ok t
    → t.consulted_settings ≡ syn_settings s.consulted_settings
syn_consults true packets e s t h = cc
syn_consults false packets e s t h = absurd cc

opening : (o : Bool) (segment : Segment) (now : ℕ) (s t : SenderState) (b : Settings)
    → (if o then answered_syn now (connection_begun now s.settings segment) s else Err Unsupported) ≡ Ok t
    → Agree t.consulted_settings s.settings b
    → (if o then answered_syn now (connection_begun now b segment) (with_settings b s) else Err Unsupported)
    ≡ again b (if o then answered_syn now (connection_begun now s.settings segment) s else Err Unsupported)
opening true segment now s t b h agree =
    let c : ConnectionView = connection_begun now s.settings segment in
    let consulted_settings : t.consulted_settings ≡ syn_settings s.consulted_settings = syn_consults (nat_lt (length s.endpoint.outbox) 1024) _ (record s.endpoint { connection = Some c }) s t h in
    let same : connection_begun now b segment ≡ c =
    begun_same s.settings b now segment (number_of (agree Mss (ap (λ (u : SettingSet). u.mss) consulted_settings))) (truth_of (agree Sack (ap (λ (u : SettingSet). u.sack) consulted_settings))) (number_of (agree Wscale (ap (λ (u : SettingSet). u.wscale) consulted_settings))) (number_of (agree RcvWnd (ap (λ (u : SettingSet). u.rcv_wnd) consulted_settings))) (number_of (agree MinRtoUs (ap (λ (u : SettingSet). u.min_rto_us) consulted_settings))) (number_of (agree MaxRtoUs (ap (λ (u : SettingSet). u.max_rto_us) consulted_settings))) in
    ap (λ (x : ConnectionView). answered_syn now x (with_settings b s)) same
    ∙ beside_again b (record s { consulted_settings = syn_settings s.consulted_settings }) (put_out now SynAck (syn_ack_of c) (record s.endpoint { connection = Some c }))
opening false segment now s t b h agree = refl

-- the establishment depends on two settings, and on those by which congestion control begins
abbrev established_from : ℕ → Segment → ConnectionView → Bool → ℕ → CongView → ConnectionView
established_from now segment c nagle granularity congestion = record (with_handshake_timer_ended (with_sample now granularity 1 (syn_acked c))) {
  max_window = max c.max_window (scaled_window_in c segment);
  established = Some (record {
    rwnd = scaled_window_in c segment;
    wl1 = segment.start;
    wl2 = segment.ack;
    nagle = nagle;
    granularity_us = granularity;
    congestion = congestion;
    stream_state = Waiting;
    peer_fin = Awaited;
  });
}

established_same : (a b : Settings) (now : ℕ) (segment : Segment) (c : ConnectionView)
    → a.nagle ≡ b.nagle → a.granularity_us ≡ b.granularity_us → begun b c.board.smss c.syn_ack_resent ≡ begun a c.board.smss c.syn_ack_resent
    → established_by now b segment c ≡ established_by now a segment c
established_same a b now segment c n g w =
    ap (λ (x : Bool). established_from now segment c x b.granularity_us (begun b c.board.smss c.syn_ack_resent)) (sym n)
    ∙ ap (λ (x : ℕ). established_from now segment c a.nagle x (begun b c.board.smss c.syn_ack_resent)) (sym g)
    ∙ ap (λ (x : CongView). established_from now segment c a.nagle a.granularity_us x) w

by_ruling : (r : Option SegmentCheck) (segment : Segment) (now : ℕ) (s t : SenderState) (c : ConnectionView) (b : Settings)
    → check_outcome now segment c s r ≡ Ok t
    → Agree t.consulted_settings s.settings b
    → check_outcome now segment c (with_settings b s) r ≡ again b (check_outcome now segment c s r)
by_ruling (Some NotRun) segment now s t c b h agree = refl
by_ruling (Some StrayRst) segment now s t c b h agree = refl
by_ruling (Some OutsideWindow) segment now s t c b h agree = beside_again b s _
by_ruling (Some ExactRst) segment now s t c b h agree = refl
by_ruling (Some ChallengedRst) segment now s t c b h agree = beside_again b s _
by_ruling (Some WithoutAck) segment now s t c b h agree = refl
by_ruling (Some FirstAck) segment now s t c b h agree =
    let consulted_settings : t.consulted_settings ≡ establishment_settings s.consulted_settings = cc in
    let same : established_by now b segment c ≡ established_by now s.settings segment c =
    established_same s.settings b now segment c (truth_of (agree Nagle (ap (λ (u : SettingSet). u.nagle) consulted_settings))) (number_of (agree GranularityUs (ap (λ (u : SettingSet). u.granularity_us) consulted_settings)))
    (begins_by_uses (record s.consulted_settings { nagle = true; granularity_us = true }) s.settings b c.board.smss c.syn_ack_resent (subst (λ (u : SettingSet). Agree u s.settings b) consulted_settings agree)) in
    ap (λ (x : ConnectionView). Ok (record s {
      settings = b;
      consulted_settings = establishment_settings s.consulted_settings;
      endpoint = with_connection x s.endpoint;
    })) same
by_ruling (Some RefusedAck) segment now s t c b h agree = beside_again b s _
by_ruling (Some EarlyAck) segment now s t c b h agree = beside_again b s _
by_ruling (Some OldAck) segment now s t c b h agree = refl
by_ruling None segment now s t c b h agree = taken_again b now segment c s c.established

-- the peer's FIN consults nothing

finished_on_again : (b : Settings) (now : ℕ) (s : SenderState) (o : Option ConnectionView) → finished_on now (with_settings b s) o ≡ again b (finished_on now s o)
finished_on_again b now s None = refl
finished_on_again b now s (Some c) = beside_again b s _

finished_again : (b : Settings) (now : ℕ) (segment : Segment) (r : Option SegmentCheck) (s : SenderState)
    → finished_by now segment r (with_settings b s) ≡ again b (finished_by now segment r s)
finished_again b now segment r s =
    either_mapped (with_settings b) (goes_on r && segment.flags.fin) (finished_on now s s.endpoint.connection) (Ok s)
    (finished_on now (with_settings b s) s.endpoint.connection) (Ok (with_settings b s)) (finished_on_again b now s s.endpoint.connection) refl

finished_uses : (now : ℕ) (segment : Segment) (r : Option SegmentCheck) (s t : SenderState) → finished_by now segment r s ≡ Ok t → t.consulted_settings ≡ s.consulted_settings
finished_uses now segment r s t h =
    came (λ (u : SenderState). u.consulted_settings ≡ s.consulted_settings) (finished_by now segment r s) t h (finished_leaves (λ (u : SenderState). u.consulted_settings ≡ s.consulted_settings) now segment r s refl (λ c e. refl))

-- the ruling, and then the FIN
both_again : (b : Settings) (now : ℕ) (segment : Segment) (t : SenderState) (c : ConnectionView) (s : SenderState) (r : Option SegmentCheck) (x y : Result SenderState Halt)
    → ((u : SenderState) → x ≡ Ok u → Agree u.consulted_settings s.settings b → y ≡ again b x)
    → then_on (finished_by now segment r) x ≡ Ok t
    → Agree t.consulted_settings s.settings b
    → then_on (finished_by now segment r) y ≡ again b (then_on (finished_by now segment r) x)
both_again b now segment t c s r (Err halt) y same h agree = absurd cc
both_again b now segment t c s r (Ok u) y same h agree =
    let consulted_settings : t.consulted_settings ≡ u.consulted_settings = finished_uses now segment r u t h in
    ap (then_on (finished_by now segment r)) (same u refl (subst (λ (x : SettingSet). Agree x s.settings b) consulted_settings agree))
    ∙ finished_again b now segment r u

on_connection : (o : Option ConnectionView) (segment : Segment) (now : ℕ) (s t : SenderState) (b : Settings)
    → arrived_on now segment s o ≡ Ok t
    → Agree t.consulted_settings s.settings b
    → arrived_on now segment (with_settings b s) o ≡ again b (arrived_on now segment s o)
on_connection None segment now s t b h agree = opening (is_supported_syn_while_listening s.endpoint.listener segment) segment now s t b h agree
on_connection (Some c) segment now s t b h agree =
    both_again b now segment t c s (failed_check_of c segment) (check_outcome now segment c s (failed_check_of c segment)) (check_outcome now segment c (with_settings b s) (failed_check_of c segment))
    (λ u e k. by_ruling (failed_check_of c segment) segment now s u c b e k) h agree

pub only_uses_matter : OnlyUsesMatter
only_uses_matter segment now s t b came agree =
    on_connection s.endpoint.connection segment now s t b came agree ∙ ap (again b) came
