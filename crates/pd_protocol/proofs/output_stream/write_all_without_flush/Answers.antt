use Rattle.std.proofs.Common.{◌≡◌, ◌-◌, arith, take, drop, length, take-add, length-drop}
use Rattle.std.proofs.lemmas.List.{take_all}
use Rattle.pd_protocol.proofs.Known.{appends_then}
use Rattle.pd_protocol.proofs.output_stream.write_all_without_flush.Goals as goal

pub loop-done-preserved : goal.loop-done-preserved
loop-done-preserved g c =
    let bs = c.args.octets.now in
    let d = c.loop-done.done in
    let whole : take (length bs - d) (drop d bs) ≡ drop d bs = take_all _ _ (omega (arith, length-drop d bs)) in
    let b = rw whole at c.in-Ok.ensures.bytes in
    let w = rw whole at c.in-Ok.ensures.bound in
    record {
      within = omega (arith, w, length-drop d bs, c.loop-done-test.true);
      written = rw (take-add d c.in-Ok.n bs) (appends_then _ _ _ _ _ c.loop-done.invariant.written b);
    }
