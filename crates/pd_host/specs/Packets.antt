-- The segments that a connection puts out: data with our FIN, ACKs, the SYN/ACK, and the RST that refuses an ACK.
use Rattle.std.specs.Prelude.{ℕ, ◌/◌, ◌^◌, min, nat_lt, nat_le, ◌&&◌, Bool, true, false, List, [], ◌∷◌, ◌++◌, Option, Some, None}
use Rattle.pd_seg.specs.declared.flags.Flags.{Flags}
use Rattle.pd_seg.specs.declared.option_list.SegOption.{SegOption}
use Rattle.pd_seg.specs.declared.option_list.SegOption.TheVariants.{Mss, Wscale, SackOk, Nop}
use Rattle.pd_seg.specs.declared.sack_spans.Span.{Span}
use Rattle.pd_seg.specs.declared.segments.Segment.{Segment}
use Rattle.pd_host.specs.declared.connection.Scaling.{Scaling}
use Rattle.pd_host.specs.Connection.{ConnectionView, rcv_nxt, data_end}

-- a segment without flags
abbrev pub no_flags : Flags
no_flags = record { syn = false; fin = false; rst = false; psh = false; ack = false }

-- our shift count, 0 where scaling wasn't agreed (RFC 7323, section 2.2)
abbrev pub own_window_shift : Option Scaling → ℕ
own_window_shift None = 0
own_window_shift (Some s) = s.own

-- the peer's shift count, 0 where scaling wasn't agreed
abbrev pub peer_window_shift : Option Scaling → ℕ
peer_window_shift None = 0
peer_window_shift (Some s) = s.peer

-- the window field of a segment that is no SYN: the receive window, shifted by our count, as far as 16 bits hold it
-- (RFC 7323, section 2.3)
abbrev pub own_window_field : ConnectionView → ℕ
own_window_field c = min (c.rcv_wnd / 2 ^ own_window_shift c.scaling) 65535

-- an ACK: `. top:top(0)` (RFC 9293, section 3.10.7.4)
abbrev pub ack_of : ConnectionView → Segment
ack_of c = record {
  flags = record no_flags { ack = true };
  start = c.board.top;
  end = c.board.top;
  ack = rcv_nxt c;
  win = own_window_field c;
  options = [];
}

-- the segment covers our FIN, the last octet queued
abbrev pub covers_fin : ConnectionView → Span → Bool
covers_fin c segment = c.fin && (nat_lt segment.start c.board.end && nat_le c.board.end segment.end)

-- it carries the last octet of data that is queued (RFC 9293, section 3.9.1.2: PUSH)
abbrev pub has_last_data_octet : ConnectionView → Span → Bool
has_last_data_octet c segment = nat_lt segment.start (data_end c) && nat_le (data_end c) segment.end

-- a segment with these octets of data; our FIN has no part in its written end and length (RFC 9293, section 3.4)
abbrev pub data_of : ConnectionView → Span → Segment
data_of c segment = record {
  flags = record no_flags { fin = covers_fin c segment; psh = has_last_data_octet c segment; ack = true };
  start = segment.start;
  end = min segment.end (data_end c);
  ack = rcv_nxt c;
  win = own_window_field c;
  options = [];
}

-- SACK is permitted where it was agreed (RFC 2018, section 2), padded to whole words
abbrev pub sack_options : Bool → List SegOption
sack_options true = Nop ∷ Nop ∷ SackOk ∷ []
sack_options false = []

-- our shift count, where scaling was agreed (RFC 7323, section 2.2), padded to a whole word
abbrev pub scale_options : Option Scaling → List SegOption
scale_options None = []
scale_options (Some s) = Nop ∷ Wscale s.own ∷ []

-- the SYN/ACK: its window isn't shifted (RFC 9293, section 3.10.7.2; RFC 7323, section 2.2)
abbrev pub syn_ack_of : ConnectionView → Segment
syn_ack_of c = record {
  flags = record no_flags { syn = true; ack = true };
  start = 0;
  end = 0;
  ack = 1;
  win = min c.rcv_wnd 65535;
  options = Mss c.own_mss ∷ (sack_options c.sack ++ scale_options c.scaling);
}

-- the RST that refuses an ack number: `R ack:ack(0)` with window 0 (RFC 9293, section 3.10.7.4, fifth check)
abbrev pub refusal_of : ℕ → Segment
refusal_of ack = record {
  flags = record no_flags { rst = true };
  start = ack;
  end = ack;
  ack = 0;
  win = 0;
  options = [];
}
