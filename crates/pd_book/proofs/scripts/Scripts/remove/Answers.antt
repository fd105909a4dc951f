-- Without the first of a name is without the name.
use Rattle.std.proofs.Common.{◌≡◌, ◌∙◌, None}
use Rattle.std.specs.Map.{lookup, remove_entry}
use Rattle.std.specs.Str.{bytes_eq}
use Rattle.pd_book.proofs.NamedText.{remove_named}
use Rattle.pd_book.proofs.scripts.Scripts.remove.Goals as goal

pub returns : goal.returns
returns c =
    let gone : lookup (bytes_eq c.args.name.now) (remove_entry (bytes_eq c.args.name.now) c.args.self.now) ≡ None = rw c.remove_by_name.ensures.taken at c.remove_by_name.ensures.gone in
    c.remove_by_name.ensures.taken ∙ remove_named c.args.name.now c.args.self.now gone
