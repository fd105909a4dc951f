-- The first segment, what it agrees, and the end of the handshake.
use Rattle.std.specs.Prelude.{ℕ, ◌-◌, ◌*◌, ◌^◌, ◌==◌, nat_le, min, max, Bool, true, false, not, ◌&&◌, List, [], ◌∷◌, slice_get, Option, Some, None, option_map, unwrap_or, Result, Err, if◌then◌else◌}
use Rattle.std.specs.List.{filter_map, list_any}
use Rattle.pd_settings.specs.declared.settings.Settings.{Settings}
use Rattle.pd_settings.specs.declared.setting_set.SettingSet.{SettingSet}
use Rattle.pd_seg.specs.declared.flags.Flags.{Flags}
use Rattle.pd_seg.specs.declared.option_list.SegOption.{SegOption}
use Rattle.pd_seg.specs.declared.option_list.SegOption.TheVariants.{Mss, Wscale, SackOk, Eol}
use Rattle.pd_seg.specs.declared.segments.Segment.{Segment}
use Rattle.pd_seg.specs.declared.send_rule.SendRule.TheVariants.{SynAck}
use Rattle.pd_host.specs.declared.established.Established.{Established}
use Rattle.pd_host.specs.declared.halts.Halt.{Halt}
use Rattle.pd_host.specs.declared.halts.Halt.TheVariants.{Unsupported}
use Rattle.pd_host.specs.declared.descriptors.ListenState.{ListenState}
use Rattle.pd_host.specs.declared.descriptors.ListenState.TheVariants.{Listens}
use Rattle.pd_host.specs.declared.syn_options.SynOptions.{SynOptions}
use Rattle.pd_host.specs.declared.established.PeerFin.TheVariants.{Awaited}
use Rattle.pd_host.specs.declared.connection.Scaling.{Scaling}
use Rattle.pd_host.specs.declared.descriptors.StreamState.TheVariants.{Waiting}
use Rattle.pd_host.specs.Packets.{peer_window_shift, syn_ack_of}
use Rattle.pd_seg.specs.declared.sack_spans.Span.{Span}
use Rattle.pd_board.specs.Board.{opened, acknowledged}
use Rattle.pd_recover.specs.Cong as congestion
use Rattle.pd_timer.specs.Rto.{initial, started}
use Rattle.pd_host.specs.RttSegment.{with_sample, with_handshake_timer_ended}
use Rattle.pd_host.specs.Connection.{ConnectionView}
use Rattle.pd_host.specs.declared.endpoint.SenderState.{SenderState}
use Rattle.pd_host.specs.Host.{beside, put_out}

-- the octets of data in a segment
abbrev pub length_of : Segment → ℕ
length_of segment = segment.end - segment.start

-- the options that are looked at: those before the end of the option list (RFC 9293, section 3.2)
abbrev pub before_eol : List SegOption → List SegOption
before_eol [] = []
before_eol (Eol ∷ options) = []
before_eol (option ∷ options) = option ∷ before_eol options

-- the MSS that an option names
abbrev pub mss_in : SegOption → Option ℕ
mss_in (Mss octets) = Some octets
mss_in _ = None

-- the shift count that an option names
abbrev pub count_in : SegOption → Option ℕ
count_in (Wscale count) = Some count
count_in _ = None

-- the option that permits SACK
abbrev pub is_sack_ok : SegOption → Bool
is_sack_ok SackOk = true
is_sack_ok _ = false

-- the peer's MSS, if it names one (RFC 9293, section 3.7.1); of a repeated option the first counts (own)
abbrev pub offered_mss : List SegOption → Option ℕ
offered_mss options = slice_get (filter_map mss_in (before_eol options)) 0

-- the peer's shift count, if it scales windows (RFC 7323, section 2.2)
abbrev pub offered_count : List SegOption → Option ℕ
offered_count options = slice_get (filter_map count_in (before_eol options)) 0

-- whether the peer permits SACK (RFC 2018, section 2)
abbrev pub offers_sack : List SegOption → Bool
offers_sack options = list_any is_sack_ok (before_eol options)

-- the offers of a SYN's options
abbrev pub syn_options_of : List SegOption → SynOptions
syn_options_of options = record { mss = offered_mss options; count = offered_count options; sack = offers_sack options }

-- an MSS below 64 isn't run (own profile)
abbrev pub is_peer_mss_supported : Option ℕ → Bool
is_peer_mss_supported None = true
is_peer_mss_supported (Some octets) = nat_le 64 octets

-- SYN and no other flag
abbrev pub is_syn_alone : Flags → Bool
is_syn_alone flags = flags.syn && (not flags.fin && (not flags.rst && (not flags.psh && not flags.ack)))

-- whether descriptor 3 listens
abbrev pub is_listening : ListenState → Bool
is_listening Listens = true
is_listening _ = false

-- the first segment begins the connection where 3 listens and it is exactly a SYN at 0 without data (RFC 9293, section
-- 3.10.7.2); nothing else is run (own profile)
abbrev pub is_supported_syn_while_listening : ListenState → Segment → Bool
is_supported_syn_while_listening listener segment =
    is_listening listener
    && (is_syn_alone segment.flags && (segment.start == 0 && (length_of segment == 0 && is_peer_mss_supported (offered_mss segment.options))))

-- SMSS is the lesser of the setting and the peer's MSS, which is 536 where it names none (RFC 9293, section 3.7.1)
abbrev pub smss_of : Settings → SynOptions → ℕ
smss_of settings syn_options = min settings.mss (unwrap_or syn_options.mss 536)

-- SACK is agreed where the peer offers it and the setting allows it (RFC 2018, section 2)
abbrev pub is_sack_agreed : Settings → SynOptions → Bool
is_sack_agreed settings syn_options = settings.sack && syn_options.sack

-- scaling is agreed where the peer offers it; its count above 14 is taken as 14 (RFC 7323, section 2.3)
abbrev pub own_and_peer_shifts_if_peer_offers : Settings → SynOptions → Option Scaling
own_and_peer_shifts_if_peer_offers settings syn_options = option_map (λ count. record { own = settings.wscale; peer = min count 14 }) syn_options.count

-- the octet of our SYN
abbrev pub syn_octet : Span
syn_octet = record { start = 0; end = 1 }

-- the connection after a SYN at a moment: our SYN is sent, which starts the timer, and timed (RFC 6298, sections 3 and
-- 5.1), and the window of the peer's SYN isn't shifted (RFC 7323, section 2.2)
abbrev pub connection_begun : ℕ → Settings → Segment → ConnectionView
connection_begun now settings syn = record {
  own_mss = settings.mss;
  sack = is_sack_agreed settings (syn_options_of syn.options);
  scaling = own_and_peer_shifts_if_peer_offers settings (syn_options_of syn.options);
  rcv_wnd = settings.rcv_wnd;
  board = opened (smss_of settings (syn_options_of syn.options));
  fin = false;
  timer = started now (initial settings.min_rto_us settings.max_rto_us);
  rtt_segment = Some (record { segment = syn_octet; sent_at = now });
  last_sent = now;
  max_window = syn.win;
  syn_ack_resent = false;
  established = None;
  is_reset = false;
}

-- the settings that an answered SYN consults
abbrev pub syn_settings : SettingSet → SettingSet
syn_settings consulted_settings = record consulted_settings { mss = true; sack = true; wscale = true; rcv_wnd = true; min_rto_us = true; max_rto_us = true }

-- the connection begins, and the SYN/ACK is put out
abbrev pub answered_syn : ℕ → ConnectionView → SenderState → Result SenderState Halt
answered_syn now c s =
    beside (record s { consulted_settings = syn_settings s.consulted_settings }) (put_out now SynAck (syn_ack_of c) (record s.endpoint { connection = Some c }))

-- the first segment begins the connection, or isn't run
abbrev pub opened_by : ℕ → Segment → SenderState → Result SenderState Halt
opened_by now segment s =
    if is_supported_syn_while_listening s.endpoint.listener segment
    then answered_syn now (connection_begun now s.settings segment) s
    else Err Unsupported

-- the window in a later segment, shifted by the peer's count (RFC 7323, section 2.3)
abbrev pub scaled_window_in : ConnectionView → Segment → ℕ
scaled_window_in c segment = segment.win * 2 ^ peer_window_shift c.scaling

-- the window is taken from a segment (RFC 9293, section 3.10.7.4: SND.WND, SND.WL1 and SND.WL2)
abbrev pub with_window : ℕ → Segment → Established → Established
with_window window segment e = record e { rwnd = window; wl1 = segment.start; wl2 = segment.ack }

-- the parts of a connection that begin at the end of its handshake: the window, Nagle's algorithm and the clock's granularity
-- as the settings say, the initial congestion window (RFC 5681, section 3.1; RFC 6928, section 2), a descriptor that `accept`
-- has still to hand out, and the peer's FIN still to come
abbrev pub new_established_parts : Settings → Segment → ConnectionView → Established
new_established_parts settings segment c = record {
  rwnd = scaled_window_in c segment;
  wl1 = segment.start;
  wl2 = segment.ack;
  nagle = settings.nagle;
  granularity_us = settings.granularity_us;
  congestion = congestion.begun settings c.board.smss c.syn_ack_resent;
  stream_state = Waiting;
  peer_fin = Awaited;
}

-- our SYN is acknowledged
abbrev pub syn_acked : ConnectionView → ConnectionView
syn_acked c = record c { board = acknowledged 1 c.board }

-- the handshake is finished at a moment: our SYN is acknowledged, which gives the first sample unless it was sent again, the
-- timer stops, and the window is taken (RFC 9293, section 3.10.7.4, fifth check, SYN-RECEIVED)
abbrev pub established_by : ℕ → Settings → Segment → ConnectionView → ConnectionView
established_by now settings segment c = record (with_handshake_timer_ended (with_sample now settings.granularity_us 1 (syn_acked c))) {
  max_window = max c.max_window (scaled_window_in c segment);
  established = Some (new_established_parts settings segment c);
}

-- the settings that the establishment consults
abbrev pub establishment_settings : SettingSet → SettingSet
establishment_settings consulted_settings = congestion.begun_settings (record consulted_settings { nagle = true; granularity_us = true })
