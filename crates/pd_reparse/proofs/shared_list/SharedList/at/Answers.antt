-- The item is in its block.
use Rattle.std.proofs.Common.{◌≡◌, ◌∙◌, ◌+◌, ◌++◌, ◌<◌, [], length, take, get_or, sym, ap, arith}
use Rattle.pd_reparse.specs.SharedBlocks.{items_in}
use Rattle.pd_reparse.proofs.SharedBlocks.{at_in_block, default_other}
use Rattle.pd_reparse.proofs.shared_list.SharedList.at.Goals as goal

pub returns-then-block-len : goal.returns-then-block-len
returns-then-block-len g c =
    let bs = c.self.inside.blocks.items in
    let rest = c.self.inside.rest.items in
    let i = c.locate_item-block.result.0 in
    let j = c.locate_item-block.result.1 in
    let x = c.index-as_slice-at.result in
    let before : length (items_in (take i bs)) + j ≡ c.args.index = rw c.as_slice.ensures.value at c.locate_item-block.ensures.before in
    let there : i < length bs = omega (arith, c.len.ensures, c.if-block-len.true) in
    let block : get_or bs i [] ≡ c.index.result.now = default_other i bs [] c.index.result.now there c.index.ensures in
    let within = rw c.as_slice.ensures.value at c.locate_item-block.ensures.inside in
    let inside : j < length c.index.result.now = rw (← block) (within there) in
    rw (← c.self.view_is) (c.index-as_slice-at.is ∙ ap (λ ys. get_or ys j x) c.as_slice-then-block-len.ensures ∙ sym (at_in_block i j bs rest c.index.result.now x there inside c.index.ensures) ∙ ap (λ n. get_or (items_in bs ++ rest) n x) before)
