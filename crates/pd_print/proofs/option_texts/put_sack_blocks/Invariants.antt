-- The blocks so far, each after a blank.
use Rattle.std.proofs.Common.{◌≡◌, ◌++◌, take, flat_map}
use Rattle.pd_print.specs.Options.{block_text}
use Rattle.pd_print.proofs.option_texts.put_sack_blocks.Given as goal

abbrev pub invariant-loop-block : goal.invariant-loop-block
invariant-loop-block l = l.out.items ≡ l.initial.out.items ++ flat_map block_text (take l.block-index l.blocks)
