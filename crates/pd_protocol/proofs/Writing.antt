-- The octets that are written of lines, and why there were none.
use Rattle.std.proofs.Common.{◌≡◌, ◌≢◌, ◌∙◌, ◌∷◌, ◌++◌, zero, suc, true, false, ℕ, Bool, is_ok, ◌⊎◌, inl, inr, List, [], take, Option, Result, Ok, Err, OnOk, OnErr, refl, ap}
use Rattle.std.specs.Io.KnownBytes.{Appends}
use Rattle.clap.specs.Words.{Kinds}
use Rattle.pd_protocol.specs.WriterOutput.{WritesTo}
use Rattle.pd_protocol.specs.declared.faults.ServeFault.{ServeFault}
use Rattle.pd_protocol.proofs.Known.{appends_then}

-- a line that was written as far as the writer took it
pub says_from : (r : Result (Unit {0}) ServeFault) (stderr_ok : Bool) (line : List ℕ) (w w1 : Option (List ℕ)) → stderr_ok ≡ is_ok r → OnOk r (Appends w w1 line) → OnErr r ((n : ℕ) × Appends w w1 (take n line)) → WritesTo stderr_ok w w1 line
says_from (Ok u) stderr_ok line w w1 e h k = rw e (line, h, refl)
says_from (Err x) stderr_ok line w w1 e h k = rw e (take k.0 line, k.1, (k.0, refl))

-- some first octets of a line are some of a longer one
part_front : (n : ℕ) (a b : List ℕ) → (m : ℕ) × (take n a ≡ take m (a ++ b))
part_front zero a b = (0, refl)
part_front (suc n) [] b = (0, refl)
part_front (suc n) (x ∷ a) b = let part = part_front n a b in (suc part.0, ap (λ (l : List ℕ). x ∷ l) part.1)

part_after : (a : List ℕ) (n : ℕ) (b : List ℕ) → (m : ℕ) × (a ++ take n b ≡ take m (a ++ b))
part_after [] n b = (n, refl)
part_after (x ∷ a) n b = let part = part_after a n b in (suc part.0, ap (λ (l : List ℕ). x ∷ l) part.1)

-- what was written of a line is written of a longer one, and nothing more was taken
pub says_front : (w w1 : Option (List ℕ)) (a b : List ℕ) → WritesTo false w w1 a → WritesTo false w w1 (a ++ b)
says_front w w1 a b s = let part = part_front s.2.0 a b in (s.0, s.1, (part.0, s.2.1 ∙ part.1))

-- a line, and what was written after it
pub says_then : (stderr_ok : Bool) (w w1 w2 : Option (List ℕ)) (a b : List ℕ) → WritesTo true w w1 a → WritesTo stderr_ok w1 w2 b → WritesTo stderr_ok w w2 (a ++ b)
says_then true w w1 w2 a b s t = (s.0 ++ t.0, appends_then w w1 w2 s.0 t.0 s.1 t.1, rw (s.2, t.2) refl)
says_then false w w1 w2 a b s t =
    let part = part_after a t.2.0 b in
    (s.0 ++ t.0, appends_then w w1 w2 s.0 t.0 s.1 t.1, (part.0, rw (s.2, t.2.1) part.1))

-- arguments that aren't refused ended out of memory
pub wanted : (kinds : Kinds) (memory : Type 0) → memory ⊎ (kinds ≢ []) → kinds ≡ [] → memory
wanted kinds memory (inl k) e = k
wanted kinds memory (inr n) e = absurd (n e)
