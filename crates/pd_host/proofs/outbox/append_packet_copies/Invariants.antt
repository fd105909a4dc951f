-- The copies so far and what is left are all packets.
use Rattle.std.proofs.Common.{◌≡◌, ◌++◌}
use Rattle.std.specs.VecDeque.Iter.{deque_iter_rest}
use Rattle.pd_host.proofs.outbox.append_packet_copies.Given as goal

abbrev pub invariant-loop-sent : goal.invariant-loop-sent
invariant-loop-sent l = l.packet_clones.items ++ deque_iter_rest l.sent-iterator ≡ l.packets.items
