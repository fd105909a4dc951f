-- The tasks kept are as many as the outstanding jobs.
use Rattle.std.proofs.Common.{◌∙◌, ◌≤◌, ◌+◌, length, ap, arith, reverse}
use Rattle.pd_book.specs.Acts.{jobs}
use Rattle.pd_book.specs.History.{BookView}
use Rattle.pd_book.proofs.book.Book.outstanding_count.Goals as goal

pub returns-clause-count : goal.returns-clause-count
returns-clause-count c =
    let kept = ap length c.self.invariant.tasks ∙ ap (λ (x : BookView). length (jobs x.history.opening x.history.past)) c.self.view_is in
    omega (arith, c.len.ensures, c.self.inside.records.tasks.ok, kept)

pub returns-clause-few : goal.returns-clause-few
returns-clause-few c = omega (arith, c.len.ensures, c.self.inside.records.tasks.ok, c.self.invariant.few)
