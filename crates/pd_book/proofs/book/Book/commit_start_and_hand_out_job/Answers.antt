-- The book after a start is the replay of its acts.
use Rattle.std.proofs.Common.{◌∙◌, ◌∷◌, ◌+◌, ◌≤◌, List, reverse, ap, sym, arith, length}
use Rattle.std.proofs.lemmas.List.{length-reverse}
use Rattle.std.specs.Str.{bytes_eq}
use Rattle.pd_book.specs.declared.act.Act.{Act}
use Rattle.pd_book.specs.declared.stored_script.ScriptState.TheVariants.{Running}
use Rattle.pd_book.specs.Acts.{next, now, started}
use Rattle.pd_book.specs.StoredScripts.{ScriptEntry, with_state}
use Rattle.pd_book.specs.History.{BookView}
use Rattle.pd_book.specs.Refusals.{taken_room}
use Rattle.pd_book.proofs.Calls.{start_kept, has_room}
use Rattle.pd_book.proofs.book.Book.commit_start_and_hand_out_job.Goals as goal

pub invariant_of-self-2 : goal.invariant_of-self-2
invariant_of-self-2 c =
    let s = c.requires.ready in
    let acts = c.self.inside.records.acts.items in
    let room = has_room 2 c.args.self.now.history c.requires.room in
    let few : length (reverse acts) + length c.self.inside.records.tasks.items + 2 ≤ 65536 = omega (arith, ap length c.self.invariant.tasks, ap (λ (x : BookView). taken_room x.history) c.self.view_is, room) in
    let p = c.args.pending in
    let k = c.record_start_and_hand_out_job.ensures in
    start_kept c.self.inside.opening (reverse acts) _ c.self.inside.settings c.self.inside.records.scripts _ c.self.inside.records.tasks.items _ c.self.inside.last_number _ _ _ p.job.task p.act
    c.self.invariant
    (ap (λ (x : BookView). next x.history.past) c.self.view_is ∙ s.waiting)
    (s.number ∙ ap (λ (x : BookView). started x.history.past + 1) (sym c.self.view_is))
    (s.settings ∙ ap (λ (x : BookView). now x.history.opening x.history.past) (sym c.self.view_is))
    s.start
    (k.past ∙ ap (λ (x : List Act). p.act ∷ reverse x) c.in_ok-reserve_acts_and_task_for_start.ensures.acts)
    (k.scripts ∙ ap (λ (es : List ScriptEntry). with_state (bytes_eq p.job.task.name) (Running p.job.task.number) es) c.in_ok-reserve_acts_and_task_for_start.ensures.scripts)
    (k.tasks ∙ cc (c.in_ok-reserve_acts_and_task_for_start.ensures.tasks, s.same))
    c.number-self-inside.ensures
    (omega (arith, c.in_ok-reserve_acts_and_task_for_start.ensures.act_room, k.capacity, length-reverse acts, ap length c.in_ok-reserve_acts_and_task_for_start.ensures.acts, ap length c.in_ok-reserve_acts_and_task_for_start.ensures.tasks))
    few
