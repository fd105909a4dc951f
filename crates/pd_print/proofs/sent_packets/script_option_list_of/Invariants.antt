-- The options so far, as a script writes them.
use Rattle.std.proofs.Common.{◌≡◌, take, map}
use Rattle.std.specs.List.{AllByRecursion}
use Rattle.pd_print.specs.RoundTrip.{IsSmallOption}
use Rattle.pd_match.specs.Agreement.{option_of}
use Rattle.pd_print.proofs.sent_packets.script_option_list_of.Given as goal

abbrev pub invariant-loop-option : goal.invariant-loop-option
invariant-loop-option l = (l.list ≡ map option_of (take l.option-index l.options)) × AllByRecursion IsSmallOption l.list
