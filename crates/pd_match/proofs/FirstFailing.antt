-- The first kind whose test fails is the first whose fact fails.
use Rattle.std.proofs.Common.{◌≡◌, Bool, true, false, not, cond, List, [], ◌∷◌, Option, Some, None, refl, ap}
use Rattle.std.specs.Prelude.{find}
use Rattle.std.specs.Bool.{Decides}
use Rattle.pd_match.specs.declared.kinds.Kind.{Kind}
use Rattle.pd_match.specs.Agreement.{IsFirstFailing}

-- one more kind in front for which the fact holds
one_more : (P : Kind → Type 0) (k : Kind) (kinds : List Kind) (o : Option Kind) → P k → IsFirstFailing P kinds o
    → IsFirstFailing P (k ∷ kinds) o
one_more P k kinds None h all = (h, all)
one_more P k kinds (Some j) h w = record {
  before = k ∷ w.before;
  after = w.after;
  split = ap (λ ks. k ∷ ks) w.split;
  hold = (h, w.hold);
  fails = w.fails;
}

pub first_failing : (p : Kind → Bool) (P : Kind → Type 0) (each : (k : Kind) → Decides (p k) (P k)) (kinds : List Kind)
    → IsFirstFailing P kinds (find (λ k. not (p k)) kinds)
first_failing p P each [] = tt
first_failing p P each (k ∷ kinds) = go (p k) refl (first_failing p P each kinds)
  where
    go : (b : Bool) → p k ≡ b → IsFirstFailing P kinds (find (λ k. not (p k)) kinds)
        → IsFirstFailing P (k ∷ kinds) (cond (not b) (Some k) (find (λ k. not (p k)) kinds))
    go true e rest = one_more P k kinds (find (λ k. not (p k)) kinds) ((each k).0 e) rest
    go false e rest = record {
      before = [];
      after = kinds;
      split = refl;
      hold = tt;
      fails = λ h. let t : p k ≡ true = (each k).1 h in absurd cc;
    }
