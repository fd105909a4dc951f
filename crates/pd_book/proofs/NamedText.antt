-- A write under one name, and a removal, where names differ.
use Rattle.std.proofs.Common.{◌≡◌, ℕ, List, [], ◌∷◌, map, Bool, true, false, not, cond, Some, None, refl, ap, sym}
use Rattle.std.specs.List.{IsDistinct, AllByRecursion}
use Rattle.std.specs.Map.{lookup, set_value, remove_entry, keys_of}
use Rattle.std.specs.Str.{bytes_eq}
use Rattle.std.proofs.lemmas.Slice.Eq.{bytes_eq-Decides}
use Rattle.std.proofs.lemmas.Map.Keys.{IsDistinct-head, IsDistinct-tail}
use Rattle.pd_book.specs.declared.stored_script.StoredScript.{StoredScript}
use Rattle.pd_book.specs.StoredScripts.{ScriptEntry, without_name}

-- the scripts, of which that of this name is changed
abbrev pub with_name : List ℕ → (StoredScript → StoredScript) → List ScriptEntry → List ScriptEntry
with_name n f es = map (λ (e : ScriptEntry). cond (bytes_eq n e.0) (e.0, f e.1) e) es

unnamed : (n : List ℕ) (f : StoredScript → StoredScript) (es : List ScriptEntry) → AllByRecursion (λ (k : List ℕ). bytes_eq n k ≡ false) (keys_of es) → with_name n f es ≡ es
unnamed n f [] h = refl
unnamed n f (e ∷ es) h = rw h.0 (ap (λ (t : List ScriptEntry). e ∷ t) (unnamed n f es h.1))

-- a write of the value that is found
pub set_named : (n : List ℕ) (f : StoredScript → StoredScript) (s : StoredScript) (es : List ScriptEntry) → IsDistinct bytes_eq (keys_of es) → lookup (bytes_eq n) es ≡ Some s → set_value (bytes_eq n) es (f s) ≡ with_name n f es
set_named n f s [] d h = refl
set_named n f s (e ∷ es) d h = go (bytes_eq n e.0) refl h (set_named n f s es (IsDistinct-tail bytes_eq e.0 (keys_of es) d))
  where
    go : (b : Bool) → bytes_eq n e.0 ≡ b → cond b (Some e.1) (lookup (bytes_eq n) es) ≡ Some s → (lookup (bytes_eq n) es ≡ Some s → set_value (bytes_eq n) es (f s) ≡ with_name n f es)
        → cond b ((e.0, f s) ∷ es) (e ∷ set_value (bytes_eq n) es (f s)) ≡ cond b (e.0, f e.1) e ∷ with_name n f es
    go true t k g =
        let same : n ≡ e.0 = (bytes_eq-Decides n e.0).0 t in
        let here : e.1 ≡ s = cc in
        let rest : with_name n f es ≡ es = unnamed n f es (rw same (IsDistinct-head bytes_eq e.0 (keys_of es) d)) in
        cc
    go false t k g = ap (λ (x : List ScriptEntry). e ∷ x) (g k)

-- a name that isn't there
pub set_unnamed : (n : List ℕ) (f : StoredScript → StoredScript) (es : List ScriptEntry) → lookup (bytes_eq n) es ≡ None → with_name n f es ≡ es
set_unnamed n f [] h = refl
set_unnamed n f (e ∷ es) h = go (bytes_eq n e.0) h (set_unnamed n f es)
  where
    go : (b : Bool) → cond b (Some e.1) (lookup (bytes_eq n) es) ≡ None → (lookup (bytes_eq n) es ≡ None → with_name n f es ≡ es) → cond b (e.0, f e.1) e ∷ with_name n f es ≡ e ∷ es
    go true k g = absurd cc
    go false k g = ap (λ (x : List ScriptEntry). e ∷ x) (g k)

-- without a name that isn't there
unremoved : (n : List ℕ) (es : List ScriptEntry) → lookup (bytes_eq n) es ≡ None → without_name n es ≡ es
unremoved n [] h = refl
unremoved n (e ∷ es) h = go (bytes_eq n e.0) h (unremoved n es)
  where
    go : (b : Bool) → cond b (Some e.1) (lookup (bytes_eq n) es) ≡ None → (lookup (bytes_eq n) es ≡ None → without_name n es ≡ es) → cond (not b) (e ∷ without_name n es) (without_name n es) ≡ e ∷ es
    go true k g = absurd cc
    go false k g = ap (λ (x : List ScriptEntry). e ∷ x) (g k)

-- without the first of a name is without the name, where no other has it
pub remove_named : (n : List ℕ) (es : List ScriptEntry) → lookup (bytes_eq n) (remove_entry (bytes_eq n) es) ≡ None → remove_entry (bytes_eq n) es ≡ without_name n es
remove_named n [] h = refl
remove_named n (e ∷ es) h = go (bytes_eq n e.0) refl h (remove_named n es)
  where
    go : (b : Bool) → bytes_eq n e.0 ≡ b → lookup (bytes_eq n) (cond b es (e ∷ remove_entry (bytes_eq n) es)) ≡ None
        → (lookup (bytes_eq n) (remove_entry (bytes_eq n) es) ≡ None → remove_entry (bytes_eq n) es ≡ without_name n es)
        → cond b es (e ∷ remove_entry (bytes_eq n) es) ≡ cond (not b) (e ∷ without_name n es) (without_name n es)
    go true t k g = sym (unremoved n es k)
    go false t k g = ap (λ (x : List ScriptEntry). e ∷ x) (g (rw t at k))
