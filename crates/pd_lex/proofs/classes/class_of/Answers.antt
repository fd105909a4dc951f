-- The table is held against the definition at each of the 256 octets, by computing.
use Rattle.std.proofs.Common.{◌≡◌, ◌∙◌, sym, ap, ℕ, zero, suc, ◌<◌, Bool, true, false, ◌&&◌, nat_eq, slice_index_or, List, refl, arith, inl, inr}
use Rattle.std.proofs.lemmas.Bool.{cases_eq}
use Rattle.std.proofs.lemmas.Bool.Decides.{nat_tests}
use Rattle.pd_lex.specs.declared.classes.OctetClass.{OctetClass}
use Rattle.pd_lex.specs.declared.classes.OctetClass.TheVariants.{Digit, Letter, Point, Symbol, Other}
use Rattle.pd_lex.specs.declared.classes.TheConstants.{CLASSES}
use Rattle.pd_lex.specs.Classes.{class_of}
use Rattle.pd_lex.proofs.classes.class_of.Goals as goal

abbrev number_of : OctetClass → ℕ
number_of Digit = 0
number_of Letter = 1
number_of Point = 2
number_of Symbol = 3
number_of Other = 4

abbrev numbered : ℕ → OctetClass
numbered zero = Digit
numbered (suc zero) = Letter
numbered (suc (suc zero)) = Point
numbered (suc (suc (suc zero))) = Symbol
numbered (suc (suc (suc (suc n)))) = Other

numbered_back : (c : OctetClass) → numbered (number_of c) ≡ c
numbered_back Digit = refl
numbered_back Letter = refl
numbered_back Point = refl
numbered_back Symbol = refl
numbered_back Other = refl

same_class : (c d : OctetClass) → number_of c ≡ number_of d → c ≡ d
same_class c d h = sym (numbered_back c) ∙ (ap numbered h ∙ numbered_back d)

-- table and definition agree below n
agree_below : (ℕ → ℕ) → (ℕ → ℕ) → ℕ → Bool
agree_below f g zero = true
agree_below f g (suc n) = nat_eq (f n) (g n) && agree_below f g n

both_of : (x y : ℕ) (rest : Bool) → (nat_eq x y && rest) ≡ true → (x ≡ y) × (rest ≡ true)
both_of x y rest h = by_first (nat_eq x y) refl h
  where
    by_first : (t : Bool) → nat_eq x y ≡ t → (t && rest) ≡ true → (x ≡ y) × (rest ≡ true)
    by_first true e h = (grind (arith, nat_tests), h)
    by_first false e h = absurd cc

agree_at : (f g : ℕ → ℕ) (n : ℕ) → agree_below f g n ≡ true → (b : ℕ) → b < n → f b ≡ g b
unfolding agree_below
agree_at f g zero h b lt = absurd (omega arith)
agree_at f g (suc n) h b lt =
    let both = both_of (f n) (g n) (agree_below f g n) h in
    elim (cases_eq b n) [ inl same ↦ rw same both.0 | inr other ↦ agree_at f g n both.1 b (omega arith) ]

from_table : (table : List OctetClass) (b : ℕ) → b < 256
    → agree_below (λ k. number_of (slice_index_or table k Digit)) (λ k. number_of (class_of k)) 256 ≡ true
    → slice_index_or table b Digit ≡ class_of b
from_table table b lt h = same_class _ _ (agree_at _ _ 256 h b lt)

pub returns : goal.returns
unfolding agree_below
returns c = rw c.from.ensures (from_table CLASSES c.args.octet (omega arith) refl)
