use Rattle.std.proofs.Common.{codes, [], ◌∷◌, ◌++◌}
use Rattle.std.proofs.lemmas.Result.{on_ok_weaker}
use Rattle.pd_explain.proofs.FactLemmas.{then_facts}
use Rattle.pd_explain.proofs.render.facts.put_missing_packet.Goals as goal

pub returns : goal.returns
returns c =
    let texts = (codes "script packet: " ++ c.args.missing_packet.now.script.items) ∷ [] in
    let script = rw c.deref.ensures.value at c.in_ok-put_script_packet.ensures in
    let awaited = then_facts texts c.args.facts.now.items c.put_script_packet.new.facts.items c.put_awaited_time_and_timer.new.facts.items script c.in_ok-put_awaited_time_and_timer.ensures in
    let estimate = then_facts texts c.args.facts.now.items c.put_awaited_time_and_timer.new.facts.items c.put_rto_derivation_if_timer_runs.new.facts.items awaited c.in_ok-put_rto_derivation_if_timer_runs.ensures in
    let reason = then_facts texts c.args.facts.now.items c.put_rto_derivation_if_timer_runs.new.facts.items c.put_reason_not_sent.new.facts.items estimate c.in_ok-put_reason_not_sent.ensures in
    let effect = then_facts texts c.args.facts.now.items c.put_reason_not_sent.new.facts.items c.put_dup_ack_effect_on_recovery.new.facts.items reason c.in_ok-put_dup_ack_effect_on_recovery.ensures in
    on_ok_weaker c.put_sacked.result (λ last. then_facts texts c.args.facts.now.items c.put_dup_ack_effect_on_recovery.new.facts.items c.put_sacked.new.facts.items effect last) c.put_sacked.ensures
