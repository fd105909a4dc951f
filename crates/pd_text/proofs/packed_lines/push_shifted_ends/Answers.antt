-- Each end lies between the first and the last place.
use Rattle.std.proofs.Common.{arith}
use Rattle.pd_text.proofs.Placed.{end_within}
use Rattle.pd_text.proofs.packed_lines.push_shifted_ends.Goals as goal

pub overflow_sub-end : goal.overflow_sub-end
overflow_sub-end c = (end_within _ c.requires.places.0 c.args.more.now c.loop-end.end-index 0 c.requires.places.1 (omega arith)).0

pub overflow_add-to : goal.overflow_add-to
overflow_add-to c =
    let within = end_within _ c.requires.places.0 c.args.more.now c.loop-end.end-index 0 c.requires.places.1 (omega arith) in
    omega (arith, within.0, within.1, c.requires.places.2)
