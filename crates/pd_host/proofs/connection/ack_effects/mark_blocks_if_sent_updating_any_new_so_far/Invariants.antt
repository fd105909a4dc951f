-- The blocks so far and those that are left report all.
use Rattle.std.proofs.Common.{◌≡◌, drop}
use Rattle.pd_host.specs.AckEffects.{with_blocks_marked}
use Rattle.pd_host.proofs.connection.ack_effects.mark_blocks_if_sent_updating_any_new_so_far.Given as goal

abbrev pub invariant-loop-block : goal.invariant-loop-block
invariant-loop-block l =
    record {
      same : with_blocks_marked (drop l.block-index l.blocks) (l.board, l.fresh) ≡ with_blocks_marked l.blocks (l.fn.board, l.so_far);
      una : l.board.una ≡ l.fn.board.una;
    }
