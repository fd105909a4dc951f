-- A segment that is sent again ends among the octets that were sent.
use Rattle.std.proofs.Common.{◌≡◌, ap, arith}
use Rattle.pd_board.specs.Retransmit.{run_at}
use Rattle.pd_board.specs.Board.{BoardView}
use Rattle.pd_host.specs.Connection.{ConnectionView}
use Rattle.pd_host.proofs.Runs.{run_within}
use Rattle.pd_host.proofs.connection.Connection.retransmit_segment_at_next_if_in_windows.Goals as goal

pub returns-then-segment-una_plus_smaller_window-clause-queued :
    goal.returns-then-segment-una_plus_smaller_window-clause-queued
returns-then-segment-una_plus_smaller_window-clause-queued c =
    let s = c.self.inside.board in
    let same : s ≡ c.args.self.now.board = ap (λ (b : ConnectionView). b.board) c.self.view_is in
    let una : s.una ≡ c.args.self.now.board.una = ap (λ (b : BoardView). b.una) same in
    let end : s.end ≡ c.args.self.now.board.end = ap (λ (b : BoardView). b.end) same in
    let run : c.run_at-segment.result.end ≡ (run_at c.next.result s).end = ap (λ x. x.end) c.run_at-segment.ensures in
    let known = c.next.ensures.known in
    let within = run_within c.next.result s (omega (arith, known.next_top, c.next.ensures.value)) in (
      omega (arith, una, run, within.0, known.una_next, c.next.ensures.value),
      omega (arith, end, run, within.1, known.top_end),
    )
