-- The rows so far are those of the scripts so far.
use Rattle.std.proofs.Common.{◌≡◌, map}
use Rattle.std.specs.Map.Iter.{deref_pair}
use Rattle.pd_book.specs.StoredScripts.{kept_row}
use Rattle.pd_book.proofs.scripts.Scripts.rows.Given as goal

abbrev pub invariant-loop-name : goal.invariant-loop-name
invariant-loop-name l = l.rows.items ≡ map kept_row (map deref_pair l.yielded)
