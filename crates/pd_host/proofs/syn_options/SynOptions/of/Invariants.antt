-- The options so far and those that are left offer all.
use Rattle.std.proofs.Common.{◌≡◌, drop}
use Rattle.pd_host.specs.Handshake.{syn_options_of}
use Rattle.pd_host.proofs.OptionLists.{in_all}
use Rattle.pd_host.proofs.syn_options.SynOptions.of.Given as goal

abbrev pub invariant-loop-option : goal.invariant-loop-option
invariant-loop-option l = in_all l.syn_options (drop l.option-index l.options) ≡ syn_options_of l.options
