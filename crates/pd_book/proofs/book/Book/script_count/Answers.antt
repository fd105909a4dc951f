-- The kept scripts are as many as those that stand.
use Rattle.std.proofs.Common.{◌∙◌, List, length, ap, sym, reverse}
use Rattle.pd_book.specs.Acts.{texts}
use Rattle.pd_book.specs.StoredScripts.{ScriptEntry}
use Rattle.pd_book.specs.History.{BookView}
use Rattle.pd_book.proofs.Faithful.{length-kept}
use Rattle.pd_book.proofs.book.Book.script_count.Goals as goal

pub returns : goal.returns
returns c =
    c.len.ensures ∙ (ap (λ (es : List ScriptEntry). length es) c.self.invariant.scripts
    ∙ (sym (length-kept c.self.inside.opening (reverse c.self.inside.records.acts.items)) ∙ ap (λ (s : BookView). length (texts s.history.past)) c.self.view_is))
