-- The packet's numbers have 32 bits, as those of the segment.
use Rattle.std.proofs.Common.{rules, ℕ, ◌-◌, ap, sym, subst, ◌∙◌}
use Rattle.pd_script.specs.declared.packets.PacketFlags.{PacketFlags}
use Rattle.pd_script.specs.declared.packets.Options.{Options}
use Rattle.pd_print.specs.RoundTrip.{HaveBlocks}
use Rattle.pd_print.proofs.Events.{have_blocks}
use Rattle.pd_print.proofs.sent_packets.script_packet_of_segment.Goals as goal

pub returns-clause-fits : goal.returns-clause-fits
returns-clause-fits c = λ fits. record {
  flags = ap (λ (f : PacketFlags). f.other) c.script_flags_of.ensures;
  order = rw c.unchanged_number_proven_in_range.ensures.same fits.0;
  small = c.unchanged_number_proven_in_range.ensures.small;
  len = c.data_len.ensures ∙ ap (λ (n : ℕ). n - c.args.segment.now.start) (sym c.unchanged_number_proven_in_range.ensures.same);
  ack = c.unchanged_number_proven_in_range-2.ensures.small;
  win = search rules;
  numbers = c.in_ok-script_options_of.ensures.small;
  blocks = subst (λ (o : Options). HaveBlocks o) (sym c.in_ok-script_options_of.ensures.options) (have_blocks c.args.segment.now.options fits.1);
  way = tt;
}
