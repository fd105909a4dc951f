-- The laws hold.
use Rattle.pd_board.proofs.Delivered.{edge_tells_losses, counts_undelivered}
use Rattle.pd_board.proofs.Lost.{lost_below, pipe_at_most}
use Rattle.pd_board.proofs.laws.law_lost_downward_closed_pipe_bounded.Goals as goal

pub returns : goal.returns
returns c = record { lost = lost_below; pipe = pipe_at_most; edge = edge_tells_losses; undelivered_octets = counts_undelivered }
