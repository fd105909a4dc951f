-- The options so far, each after a comma.
use Rattle.std.proofs.Common.{◌≡◌, ◌++◌, take, flat_map}
use Rattle.pd_print.specs.Options.{next_option_text}
use Rattle.pd_print.proofs.option_texts.put_following_options.Given as goal

abbrev pub invariant-loop-option : goal.invariant-loop-option
invariant-loop-option l = l.out.items ≡ l.initial.out.items ++ flat_map next_option_text (take l.option-index l.others)
