-- The options so far and those that are left report all.
use Rattle.std.proofs.Common.{◌≡◌, drop, false}
use Rattle.pd_host.specs.AckEffects.{with_blocks_marked, blocks_of}
use Rattle.pd_host.specs.Handshake.{before_eol}
use Rattle.pd_host.proofs.connection.ack_effects.mark_blocks_before_eol_reporting_any_new.Given as goal

abbrev pub invariant-loop-option : goal.invariant-loop-option
invariant-loop-option l =
    record {
      same : with_blocks_marked (blocks_of (before_eol (drop l.option-index l.options))) (l.board, l.fresh)
          ≡ with_blocks_marked (blocks_of (before_eol l.options)) (l.fn.board, false);
      una : l.board.una ≡ l.fn.board.una;
    }
