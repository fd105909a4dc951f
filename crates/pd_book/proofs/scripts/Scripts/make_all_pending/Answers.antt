-- Each script is written once.
use Rattle.std.proofs.Common.{◌∙◌, ap, rules}
use Rattle.std.proofs.lemmas.Map.Made.{map_same_pairs}
use Rattle.pd_book.specs.StoredScripts.{in_state, all_pending}
use Rattle.pd_book.specs.declared.stored_script.StoredScript.{StoredScript}
use Rattle.pd_book.specs.declared.stored_script.ScriptState.TheVariants.{Pending}
use Rattle.pd_book.proofs.scripts.Scripts.make_all_pending.Goals as goal

pub returns : goal.returns
returns c = map_same_pairs _ (λ (s : StoredScript). in_state s Pending) _ (λ k v b w f t. search rules) _ _ c.retain.ensures.filtered ∙ ap all_pending c.self.view_is
