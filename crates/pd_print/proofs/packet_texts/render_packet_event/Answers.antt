-- The octets that were written are read back.
use Rattle.std.proofs.Common.{rules, ◌≡◌, List, ℕ, sym, ap, ◌∙◌, subst}
use Rattle.pd_script.specs.Grammar.{IsEvent}
use Rattle.pd_print.specs.Packets.{event_text, action_of}
use Rattle.pd_print.specs.RoundTrip.{IsReadAs, event_of}
use Rattle.pd_text.specs.Text.{has_no_newline}
use Rattle.pd_print.proofs.InOneLine.{event_inside}
use Rattle.pd_print.proofs.Events.{event_back}
use Rattle.pd_print.proofs.packet_texts.render_packet_event.Goals as goal

pub returns-clause-back : goal.returns-clause-back
returns-clause-back c =
    let text : c.put_event.new.out.items ≡ event_text c.args.time c.args.direction c.args.packet.now = search rules in
    λ short fits. subst (λ (s : List ℕ). IsReadAs IsEvent (event_of c.args.time (action_of c.args.direction c.args.packet.now)) s) (sym text) (event_back c.args.time c.args.direction c.args.packet.now short fits)

pub returns-clause-line : goal.returns-clause-line
returns-clause-line c =
    let text : c.put_event.new.out.items ≡ event_text c.args.time c.args.direction c.args.packet.now = search rules in
    λ short fits. ap has_no_newline text ∙ event_inside c.args.time c.args.direction c.args.packet.now short fits
