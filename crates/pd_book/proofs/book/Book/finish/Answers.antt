-- The book after a finish is the replay of its acts.
use Rattle.std.proofs.Common.{◌∙◌, reverse, rules, ap, sym}
use Rattle.pd_book.specs.Acts.{job, ruling}
use Rattle.pd_book.specs.History.{BookView}
use Rattle.pd_book.proofs.Calls.{finish_kept}
use Rattle.pd_book.proofs.book.Book.finish.Goals as goal

pub invariant_of-self : goal.invariant_of-self
invariant_of-self c =
    let k = c.record_finish_and_store_taken_verdict.ensures in
    let h = c.args.done.now in
    finish_kept c.self.inside.opening (reverse c.self.inside.records.acts.items) _ c.self.inside.settings c.self.inside.records.scripts _ c.self.inside.records.tasks.items _ c.self.inside.last_number _ _ h _
    c.self.invariant
    (ap (λ (x : BookView). job x.history.opening x.history.past h.number) c.self.view_is ∙ (search rules))
    (c.ruling_taken_if_unchanged_else_stale-ruling.ensures ∙ ap (λ (x : BookView). ruling x.history.past h) (sym c.self.view_is))
    k.past k.scripts k.tasks k.capacity
