-- The options so far are those of the written options so far.
use Rattle.std.proofs.Common.{◌≡◌, map, take}
use Rattle.pd_run.specs.InboundSegment.{option_in}
use Rattle.pd_run.proofs.inbound_segment.segment_options_of_option_list.Given as goal

abbrev pub invariant-loop-option : goal.invariant-loop-option
invariant-loop-option l = l.list ≡ map option_in (take l.option-index l.options)
