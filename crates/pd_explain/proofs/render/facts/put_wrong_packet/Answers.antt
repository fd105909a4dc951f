use Rattle.std.proofs.Common.{Option, subst, slice_get, ◌∙◌}
use Rattle.std.proofs.lemmas.Result.{on_ok_weaker}
use Rattle.pd_explain.specs.BlockLines.{failure_texts}
use Rattle.pd_explain.specs.Inner.{AddsFacts}
use Rattle.pd_cause.specs.declared.causes.failure.Failed.TheVariants as failed
use Rattle.pd_cause.specs.declared.origins.Origin.{Origin}
use Rattle.pd_explain.proofs.FactLemmas.{then_facts}
use Rattle.pd_explain.proofs.render.facts.put_wrong_packet.Goals as goal

pub returns : goal.returns
returns c =
    let texts = failure_texts (failed.Packet c.args.packets.now) (slice_get c.args.origins.now 0) in
    let compared =
    subst (λ (origin : Option Origin). AddsFacts (failure_texts (failed.Packet c.args.packets.now) origin) c.args.facts.now.items c.put_compared_packets.new.facts.items) (c.copied.ensures ∙ c.first.ensures.value) c.in_ok-put_compared_packets.ensures in
    on_ok_weaker c.put_unexpected_count_and_expected_time.result (λ last. then_facts texts c.args.facts.now.items c.put_compared_packets.new.facts.items c.put_unexpected_count_and_expected_time.new.facts.items compared last) c.put_unexpected_count_and_expected_time.ensures
