-- The kept scripts without a verdict are as many as the pending rows.
use Rattle.std.proofs.Common.{◌∙◌, List, ap, sym, reverse}
use Rattle.std.specs.List.{count_by}
use Rattle.std.specs.Map.{values_of}
use Rattle.pd_book.specs.Report.{owed}
use Rattle.pd_book.specs.StoredScripts.{ScriptEntry}
use Rattle.pd_book.specs.History.{BookView}
use Rattle.pd_book.proofs.Rows.{pending_script, owed_kept}
use Rattle.pd_book.proofs.book.Book.owed.Goals as goal

pub returns : goal.returns
returns c =
    c.owed.ensures ∙ (ap (λ (es : List ScriptEntry). count_by pending_script (values_of es)) c.self.invariant.scripts
    ∙ (sym (owed_kept c.self.inside.opening (reverse c.self.inside.records.acts.items) c.self.invariant.legal) ∙ ap (λ (s : BookView). owed s.history.opening s.history.past) c.self.view_is))
