-- The piece that is cut is the longest of all that the text begins with.
use Rattle.std.proofs.Common.{◌≡◌, ℕ, ◌+◌, ◌<◌, ◌≤◌, List, [], ◌∷◌, length, Option, Some, None, ap, subst, ◌∙◌, arith, length-append}
use Rattle.pd_lex.specs.declared.token.TokenKind.{TokenKind}
use Rattle.pd_lex.specs.declared.token.TokenKind.TheVariants.{Symbol}
use Rattle.pd_lex.specs.Places.{before}
use Rattle.pd_lex.specs.Pieces.{gap, token, stray, front}
use Rattle.pd_lex.specs.Spellings.{IsPiece, IsOpened, Fits, IsLongest, IsStuck, Skips, here, past}
use Rattle.pd_lex.proofs.Fronts.{IsRest, IsRest-cut, LeavesRest, front_leaves}
use Rattle.pd_lex.proofs.Bounds.{Takes, bound}
use Rattle.pd_lex.proofs.KindOf.{one_kind}
use Rattle.pd_lex.proofs.Spelled.{IsWell, front_well}

longest_by : (s rest : List ℕ) (kind : Option TokenKind) → IsRest s rest → IsPiece kind (before s rest) → (kind ≡ Some Symbol → ¬ IsOpened s) → ((other : Option TokenKind) (prefix : List ℕ) → Fits s other prefix → length prefix + length rest ≤ length s) → IsLongest s kind (before s rest) rest
longest_by s rest kind left spelled unopened bounded =
    let cut = IsRest-cut s rest left in
    let sum : length s ≡ length (before s rest) + length rest = ap length cut ∙ length-append (before s rest) rest in
    record {
      cut = cut;
      fits = record { more = rest; cut = cut; spelled = spelled; unopened = unopened };
      longest = λ other prefix fits. omega (arith, sum, bounded other prefix fits);
      only = λ other is. one_kind other kind (before s rest) is spelled;
    }

pub longest_gap : (s rest : List ℕ) → front s ≡ gap rest → IsLongest s None (before s rest) rest
longest_gap s rest e =
    longest_by s rest None (subst (LeavesRest s) e (front_leaves s)) (subst (IsWell s) e (front_well s)) (λ is. absurd cc) (λ other prefix fits. subst (Takes s (length prefix)) e (bound s other prefix fits))

pub longest_token : (s rest : List ℕ) (kind : TokenKind) → front s ≡ token kind rest → IsLongest s (Some kind) (before s rest) rest
longest_token s rest kind e =
    let well = subst (IsWell s) e (front_well s) in
    longest_by s rest (Some kind) (subst (LeavesRest s) e (front_leaves s)) well.0 (λ is. well.1 (same_kind kind Symbol is)) (λ other prefix fits. subst (Takes s (length prefix)) e (bound s other prefix fits))
  where
    same_kind : (a b : TokenKind) → ◌≡◌ {A = Option TokenKind} (Some a) (Some b) → a ≡ b
    same_kind a b is = cc

pub not_empty : (s : List ℕ) → front s ≡ stray → 0 < length s
unfolding front
not_empty [] e = absurd cc
not_empty (b ∷ s) e = omega arith

pub stuck_at : (s : List ℕ) → front s ≡ stray → IsStuck s
stuck_at s e = record {
  some = not_empty s e;
  none = λ kind text fits. subst (Takes s (length text)) e (bound s kind text fits);
}

-- one more blank or comment
pub Skips-then : {s t text rest : List ℕ} → Skips s t → IsLongest t None text rest → Skips s rest
Skips-then here cut = past cut here
Skips-then (past first more) cut = past first (Skips-then more cut)

-- and many more
pub Skips-over : {s t u : List ℕ} → Skips s t → Skips t u → Skips s u
Skips-over here more = more
Skips-over (past first skipped) more = past first (Skips-over skipped more)
