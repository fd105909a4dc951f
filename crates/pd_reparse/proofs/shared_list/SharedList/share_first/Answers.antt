-- Whole blocks, and the first of what follows them.
use Rattle.std.proofs.Common.{◌≡◌, ◌∙◌, ◌+◌, ◌-◌, ◌++◌, ◌<◌, ◌≤◌, [], length, take, get_or, sym, ap, arith}
use Rattle.pd_reparse.specs.SharedBlocks.{items_in}
use Rattle.pd_reparse.proofs.SharedBlocks.{default_other, first_in_block, first_after}
use Rattle.pd_reparse.proofs.shared_list.SharedList.share_first.Goals.{then-whole-len+in_ok-rest, else-whole-len+in_ok-rest-2}
use Rattle.pd_reparse.proofs.shared_list.SharedList.share_first.Goals as goal

pub returns : goal.returns
returns g c =
    let bs = c.self.inside.blocks.items in
    let rest = c.self.inside.rest.items in
    let i = c.locate_item-whole.result.0 in
    let j = c.locate_item-whole.result.1 in
    let before : length (items_in (take i bs)) + j ≡ c.args.count - 1 = rw c.as_slice.ensures.value at c.locate_item-whole.ensures.before in
    let count : length (items_in (take i bs)) + (j + 1) ≡ c.args.count = omega (arith, before, c.if-count-eq0.false) in
    let front : c.in_ok-blocks.blocks.items ≡ take i bs = rw c.as_slice-2.ensures.value at c.in_ok-blocks.ensures in
    elim c.if-whole-len.branch [
      | then-whole-len+in_ok-rest w ↦
          let there : i < length bs = omega (arith, c.len.ensures, w.if-whole-len.true) in
          let block : get_or bs i [] ≡ w.index.result.now = default_other i bs [] w.index.result.now there w.index.ensures in
          let inside : j + 1 ≤ length w.index.result.now = let within = rw c.as_slice.ensures.value at c.locate_item-whole.ensures.inside in let last : j < length w.index.result.now = rw (← block) (within there) in omega (arith, last) in
          rw (w.blocks-is, w.rest-is, ← c.self.view_is, ← count) (w.in_ok-rest.ensures ∙ ap (λ l. items_in l ++ take (j + 1) w.index.result.now) front ∙ sym (first_in_block i (j + 1) bs rest w.index.result.now there inside w.index.ensures))
      | else-whole-len+in_ok-rest-2 w ↦
          let all : i ≡ length bs = omega (arith, c.len.ensures, w.if-whole-len.false, c.locate_item-whole.ensures.within) in
          rw (w.blocks-is, w.rest-is, ← c.self.view_is, ← count) (ap (λ l. items_in l ++ w.in_ok-rest-2.rest.items) front ∙ ap (λ l. items_in (take i bs) ++ l) (w.in_ok-rest-2.ensures ∙ ap (λ l. take (j + 1) l) w.as_slice-else-whole-len.ensures.value) ∙ sym (first_after i (j + 1) bs rest all))
    ]
