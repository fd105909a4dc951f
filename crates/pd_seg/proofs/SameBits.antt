-- Control bits are equal one by one exactly where they are equal.
use Rattle.std.proofs.Common.{◌≡◌, Bool, true, false, ◌&&◌, subst, refl}
use mathlib.Core.Bool.{beq}
use Rattle.pd_seg.specs.declared.flags.Flags.{Flags}

-- the bits one by one
abbrev pub same_bits : Flags → Flags → Bool
same_bits a b = beq a.syn b.syn && (beq a.fin b.fin && (beq a.rst b.rst && (beq a.psh b.psh && beq a.ack b.ack)))

beq-is : (x y : Bool) → beq x y ≡ true → x ≡ y
beq-is true true h = refl
beq-is false false h = refl
beq-is true false h = absurd cc
beq-is false true h = absurd cc

beq-refl : (x : Bool) → beq x x ≡ true
beq-refl true = refl
beq-refl false = refl

both : (x y : Bool) → (x && y) ≡ true → (x ≡ true) × (y ≡ true)
both true y h = (refl, h)
both false y h = absurd cc

and-true : (x y : Bool) → x ≡ true → y ≡ true → (x && y) ≡ true
and-true true y h k = k
and-true false y h k = absurd cc

pub same_bits-is : (a b : Flags) → same_bits a b ≡ true → a ≡ b
same_bits-is a b h =
    let one = both (beq a.syn b.syn) _ h in
    let two = both (beq a.fin b.fin) _ one.1 in
    let three = both (beq a.rst b.rst) _ two.1 in
    let four = both (beq a.psh b.psh) _ three.1 in
    λ i. record {
      syn = beq-is _ _ one.0 i;
      fin = beq-is _ _ two.0 i;
      rst = beq-is _ _ three.0 i;
      psh = beq-is _ _ four.0 i;
      ack = beq-is _ _ four.1 i;
    }

same_bits-refl : (a : Flags) → same_bits a a ≡ true
same_bits-refl a =
    and-true _ _ (beq-refl a.syn)
    (and-true _ _ (beq-refl a.fin) (and-true _ _ (beq-refl a.rst) (and-true _ _ (beq-refl a.psh) (beq-refl a.ack))))

pub is-same_bits : (a b : Flags) → a ≡ b → same_bits a b ≡ true
is-same_bits a b e = subst (λ (f : Flags). same_bits a f ≡ true) e (same_bits-refl a)
