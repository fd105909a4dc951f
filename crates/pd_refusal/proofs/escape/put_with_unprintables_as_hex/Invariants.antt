-- The octets so far, as they are shown.
use Rattle.std.proofs.Common.{◌≡◌, ◌++◌, take, flat_map}
use Rattle.pd_refusal.specs.Escape.{escaped_octet}
use Rattle.pd_refusal.proofs.escape.put_with_unprintables_as_hex.Given as goal

abbrev pub invariant-loop-octet : goal.invariant-loop-octet
invariant-loop-octet l = l.out.items ≡ l.initial.out.items ++ flat_map escaped_octet (take l.octet-index l.octets)
