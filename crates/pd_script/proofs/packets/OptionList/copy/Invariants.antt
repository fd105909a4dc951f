-- The copies so far and what is left are all options.
use Rattle.std.proofs.Common.{◌≡◌, ◌++◌, drop}
use Rattle.pd_script.proofs.packets.OptionList.copy.Given as goal

abbrev pub invariant-loop-option : goal.invariant-loop-option
invariant-loop-option l = l.copy ++ drop l.option-index l.option-items ≡ l.option-items
