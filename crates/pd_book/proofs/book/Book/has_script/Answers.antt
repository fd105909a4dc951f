-- A kept name stands.
use Rattle.std.proofs.Common.{◌∙◌, List, is_some, ap, sym, reverse}
use Rattle.std.specs.Map.{lookup}
use Rattle.std.specs.Str.{bytes_eq}
use Rattle.pd_book.specs.Acts.{has_script}
use Rattle.pd_book.specs.StoredScripts.{ScriptEntry}
use Rattle.pd_book.specs.History.{BookView}
use Rattle.pd_book.proofs.Faithful.{has_script-kept}
use Rattle.pd_book.proofs.book.Book.has_script.Goals as goal

pub returns : goal.returns
returns c =
    let n = c.args.name.now in
    c.contains.ensures ∙ (ap (λ (es : List ScriptEntry). is_some (lookup (bytes_eq n) es)) c.self.invariant.scripts
    ∙ (sym (has_script-kept n c.self.inside.opening (reverse c.self.inside.records.acts.items)) ∙ ap (λ (s : BookView). has_script s.history.past n) c.self.view_is))
