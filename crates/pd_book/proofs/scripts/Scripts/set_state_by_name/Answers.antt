-- A write to the first of a name is a write to the name.
use Rattle.std.proofs.Common.{◌≡◌, ◌∙◌, Option, None, Some, refl, sym}
use Rattle.std.specs.Map.{lookup, set_value}
use Rattle.std.specs.Option.{option_map_or}
use Rattle.std.specs.Str.{bytes_eq}
use Rattle.pd_book.specs.declared.stored_script.StoredScript.{StoredScript}
use Rattle.pd_book.specs.StoredScripts.{in_state, with_state}
use Rattle.pd_book.proofs.NamedText.{set_named, set_unnamed}
use Rattle.pd_book.proofs.scripts.Scripts.set_state_by_name.Goals as goal

pub returns : goal.returns
returns c =
    let n = c.args.name.now in
    let es = c.args.self.now in
    let f = λ (s : StoredScript). in_state s c.args.state in
    let d = c.replace_state_if_script_exists.ensures.distinct in
    let go : (r : Option StoredScript) → lookup (bytes_eq n) es ≡ r → option_map_or (λ (s : StoredScript). set_value (bytes_eq n) es (f s)) r es ≡ with_state (bytes_eq n) c.args.state es =
    λ r. elim r as (λ (x : Option StoredScript). lookup (bytes_eq n) es ≡ x → option_map_or (λ (s : StoredScript). set_value (bytes_eq n) es (f s)) x es ≡ with_state (bytes_eq n) c.args.state es) [
      | None ↦ λ h. sym (set_unnamed n f es h)
      | Some s ↦ λ h. set_named n f s es d h
    ] in
    c.replace_state_if_script_exists.ensures.written ∙ go (lookup (bytes_eq n) es) refl
