-- The book after an abandonment is the replay of its acts.
use Rattle.std.proofs.Common.{◌≡◌, ◌∙◌, Option, Some, List, find, ◌==◌, reverse, rules, ap}
use Rattle.pd_track.specs.declared.task.Task.{Task}
use Rattle.pd_book.specs.Acts.{job}
use Rattle.pd_book.specs.Replay.{make_pending_if_running_task}
use Rattle.pd_book.specs.History.{BookView}
use Rattle.pd_book.proofs.Calls.{abandon_kept}
use Rattle.pd_book.proofs.book.Book.abandon.Goals as goal

pub invariant_of-self : goal.invariant_of-self
invariant_of-self c =
    let past = reverse c.self.inside.records.acts.items in
    let j = c.args.number in
    let h = c.in-Some._task.now in
    let k = c.record_abandon_drop_task_make_pending.ensures in
    let found : job c.self.inside.opening past j ≡ Some h = ap (λ (x : BookView). job x.history.opening x.history.past j) c.self.view_is ∙ (search rules) in
    let kept : find (λ (t : Task). j == t.number) c.self.inside.records.tasks.items ≡ Some h = ap (λ (ts : List Task). find (λ (t : Task). j == t.number) ts) c.self.invariant.tasks ∙ found in
    abandon_kept c.self.inside.opening past _ c.self.inside.settings c.self.inside.records.scripts _ c.self.inside.records.tasks.items _ c.self.inside.last_number _ _ h j
    c.self.invariant
    found
    k.past (k.scripts ∙ ap (λ (o : Option Task). make_pending_if_running_task o c.self.inside.records.scripts) kept) k.tasks k.capacity
