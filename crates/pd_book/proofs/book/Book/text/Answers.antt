-- A kept text is the present one.
use Rattle.std.proofs.Common.{◌∙◌, List, ap, sym, reverse}
use Rattle.std.specs.Option.{option_map}
use Rattle.std.specs.Map.{lookup}
use Rattle.std.specs.Str.{bytes_eq}
use Rattle.pd_book.specs.declared.stored_script.StoredScript.{StoredScript}
use Rattle.pd_book.specs.Acts.{texts}
use Rattle.pd_book.specs.StoredScripts.{ScriptEntry}
use Rattle.pd_book.specs.History.{BookView}
use Rattle.pd_book.proofs.Faithful.{lookup-kept}
use Rattle.pd_book.proofs.book.Book.text.Goals as goal

pub returns : goal.returns
returns c =
    let test = bytes_eq c.args.name.now in
    c.text.ensures ∙ (ap (λ (es : List ScriptEntry). option_map (λ (s : StoredScript). s.text) (lookup test es)) c.self.invariant.scripts
    ∙ (sym (lookup-kept test c.self.inside.opening (reverse c.self.inside.records.acts.items)) ∙ ap (λ (s : BookView). lookup test (texts s.history.past)) c.self.view_is))
