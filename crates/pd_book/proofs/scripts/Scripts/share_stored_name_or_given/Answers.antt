-- The name that is found is the one that was looked for.
use Rattle.std.proofs.Common.{◌≡◌, IfOk, List, ℕ, sym, subst}
use Rattle.std.proofs.lemmas.Map.Made.{lookup_key_same}
use Rattle.std.proofs.lemmas.Slice.Eq.{bytes_eq-Decides}
use Rattle.pd_book.proofs.scripts.Scripts.share_stored_name_or_given.Goals as goal

pub returns-in-Some : goal.returns-in-Some
returns-in-Some c =
    let found : c.args.name.now ≡ c.in-Some.kept.now = lookup_key_same bytes_eq-Decides c.args.name.now _ c.in-Some.kept.now (sym c.in-Some.ensures.key) in
    subst (λ (n : List ℕ). IfOk c.share.result (λ kept. kept ≡ n)) (sym found) c.share.ensures
