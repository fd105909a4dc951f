-- The first kept as pending is the first that waits.
use Rattle.std.proofs.Common.{◌∙◌, List, Option, find, ap, sym, reverse}
use Rattle.std.specs.Option.{option_map}
use Rattle.pd_book.specs.StoredScripts.{ScriptEntry, is_pending}
use Rattle.pd_book.specs.Acts.{next}
use Rattle.pd_book.specs.History.{BookView}
use Rattle.pd_book.proofs.Faithful.{named_text}
use Rattle.pd_book.proofs.Replayed.{next_kept}
use Rattle.pd_book.proofs.book.Book.find_first_pending_name_and_text.Goals as goal

pub returns-in-Some : goal.returns-in-Some
returns-in-Some c =
    let past = reverse c.self.inside.records.acts.items in
    ap (λ (o : Option ScriptEntry). option_map named_text o) c.in-Some.ensures ∙ (ap (λ (es : List ScriptEntry). option_map named_text (find is_pending es)) c.self.invariant.scripts
    ∙ (sym (next_kept c.self.inside.opening past c.self.invariant.legal) ∙ ap (λ (s : BookView). next s.history.past) c.self.view_is))

pub returns-in-None : goal.returns-in-None
returns-in-None c =
    let past = reverse c.self.inside.records.acts.items in
    ap (λ (o : Option ScriptEntry). option_map named_text o) c.in-None.ensures ∙ (ap (λ (es : List ScriptEntry). option_map named_text (find is_pending es)) c.self.invariant.scripts
    ∙ (sym (next_kept c.self.inside.opening past c.self.invariant.legal) ∙ ap (λ (s : BookView). next s.history.past) c.self.view_is))
