-- The event is that of the packet that was sent.
use Rattle.pd_print.proofs.Events.{if_ok}
use Rattle.pd_print.proofs.sent_packets.render_sent_segment_event.Goals as goal

pub returns-clause-back : goal.returns-clause-back
returns-clause-back c = rw (← c.in_ok-packet.ensures.packet) (if_ok _ _ c.render_packet_event.result c.render_packet_event.ensures.back (λ text back short fits. back short (c.in_ok-packet.ensures.fits fits)))

pub returns-clause-line : goal.returns-clause-line
returns-clause-line c = if_ok _ _ c.render_packet_event.result c.render_packet_event.ensures.line (λ text line short fits. line short (c.in_ok-packet.ensures.fits fits))
