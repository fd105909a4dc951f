-- So many packets are listed.
use Rattle.std.proofs.Common.{◌≡◌, map, take, drop}
use Rattle.pd_run.specs.Laws.{unmatched}
use Rattle.pd_cause.proofs.LeftoverLemmas.{texts}
use Rattle.pd_cause.proofs.causes.unmatched.list_first_unmatched_after_skipped.Given as goal

abbrev pub invariant-loop-count : goal.invariant-loop-count
invariant-loop-count l = record {
  listed : map (λ packet. packet.items) l.packets.items ≡ texts l.run.base (take l.count (drop l.skipped (unmatched l.run)));
}
