-- The triggers of the packets of an event whose packet or answer was compared.
use Rattle.std.proofs.Common.{◌≡◌, ◌++◌, OnOk, subst, sym}
use Rattle.pd_cause.proofs.NotedStop.{differs_noted, answers_noted}
use Rattle.pd_cause.proofs.origins.note_triggers_if_packet_or_result_differs.Goals as goal

pub returns-in-Differs : goal.returns-in-Differs
returns-in-Differs c =
    let known = differs_noted c.args.stop.now.before c.args.event.now c.args.stop.now.stop_reason _ _ _ c.requires.stops c.in-Differs.is in
    subst (λ triggers. OnOk c.note_triggers_between_runs.result (c.note_triggers_between_runs.new.triggers.items ≡ c.args.triggers.now.items ++ triggers)) (sym known.2)
    (c.note_triggers_between_runs.ensures known.0 known.1)

pub returns-in-Answered : goal.returns-in-Answered
returns-in-Answered c =
    let known = answers_noted c.args.stop.now.before c.args.event.now c.args.stop.now.stop_reason _ _ c.requires.stops c.in-Answered.is in
    subst (λ triggers. OnOk c.note_triggers_between_runs-in-Answered.result (c.note_triggers_between_runs-in-Answered.new.triggers.items ≡ c.args.triggers.now.items ++ triggers)) (sym known.2)
    (c.note_triggers_between_runs-in-Answered.ensures known.0 known.1)
