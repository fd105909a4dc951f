-- An option further.
use Rattle.std.proofs.Common.{ap, ◌∙◌, drop, ◌+◌}
use Rattle.pd_host.specs.Handshake.{syn_options_of}
use Rattle.pd_host.specs.declared.syn_options.SynOptions.{SynOptions}
use Rattle.pd_host.proofs.OptionLists.{in_all, one_further}
use Rattle.pd_host.proofs.syn_options.SynOptions.of.Goals as goal

pub loop-option-preserved : goal.loop-option-preserved
loop-option-preserved c =
    ap (λ (f : SynOptions). in_all f (drop (c.loop-option.option-index + 1) c.args.options.now)) c.with_option-syn_options.ensures
    ∙ one_further c.loop-option.syn_options c.args.options.now c.loop-option.option-index c.option-item.result (syn_options_of c.args.options.now) c.loop-option-test.true c.option-item.is c.in_default.not-Eol c.loop-option.invariant
