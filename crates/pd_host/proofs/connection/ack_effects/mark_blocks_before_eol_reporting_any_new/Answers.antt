-- An option further.
use Rattle.std.proofs.Common.{◌∙◌}
use Rattle.pd_host.specs.AckEffects.{with_blocks_marked, blocks_of}
use Rattle.pd_host.specs.Handshake.{before_eol}
use Rattle.std.proofs.Common.{false}
use Rattle.pd_host.proofs.BlocksMarked.{one_further}
use Rattle.pd_host.proofs.connection.ack_effects.mark_blocks_before_eol_reporting_any_new.Goals as goal

pub loop-option-preserved : goal.loop-option-preserved
loop-option-preserved c = record {
  same =
      one_further c.args.options.now c.loop-option.option-index c.option-item.result (c.loop-option.board, c.loop-option.fresh)
      (c.mark_sack_option_updating_any_new_so_far.new.board, c.in_ok-fresh.fresh) (with_blocks_marked (blocks_of (before_eol c.args.options.now)) (c.args.board.now, false))
      c.loop-option-test.true c.option-item.is c.in_default.not-Eol c.in_ok-fresh.ensures.ok c.loop-option.invariant.same;
  una = c.in_ok-fresh.ensures.una ∙ c.loop-option.invariant.una;
}
