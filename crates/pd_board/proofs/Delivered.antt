-- The octets that an ACK loses and delivers, by the scoreboards before and after it.
use Rattle.std.proofs.Common.{◌≡◌, ℕ, zero, suc, ◌+◌, ◌-◌, ◌<◌, ◌≤◌, Bool, true, false, not, ◌&&◌, refl, sym, ap, ◌∙◌, arith}
use Rattle.pd_board.specs.Board.{BoardView}
use Rattle.pd_board.specs.Laws.{Follows, EdgeShowsLosses, CountsUndelivered}
use Rattle.pd_board.specs.Loss.{is_lost, is_unsacked, sacked_octets, lost_edge}
use Rattle.pd_board.specs.Octets.{contains, size_where, greatest_where, after}
use Rattle.pd_board.proofs.Find.{greatest-reaches, greatest-passes}
use Rattle.pd_board.proofs.Lost.{lost_below}
use Rattle.pd_board.proofs.Sets.{size_where-parts, size_where-both, size_where-le}

both : (a b : Bool) → a ≡ true → b ≡ true → (a && b) ≡ true
both true b e f = f
both false b e f = absurd cc

parts : (a b : Bool) → (a && b) ≡ true → (a ≡ true) × (b ≡ true)
parts true b e = (refl, e)
parts false b e = absurd cc

-- a free octet that is lost lies below the edge
reaches : (s : BoardView) (x : ℕ) → s.una ≤ x → x < s.top → is_unsacked x s ≡ true → is_lost x s ≡ true → x < lost_edge s
reaches s x l u free lost =
    let to : s.top ≡ s.una + (s.top - s.una) = omega arith in
    let q : ℕ → Bool = λ y. is_unsacked y s && is_lost y s in
    let same : lost_edge s ≡ after (greatest_where q s.una (s.una + (s.top - s.una))) = ap (λ n. after (greatest_where q s.una n)) to in
    let found = greatest-reaches q s.una (s.top - s.una) x l (omega arith) (both (is_unsacked x s) (is_lost x s) free lost) in
    omega (arith, same, found)

-- the octet at the edge is one
passes : (s : BoardView) (m : ℕ) → s.una ≤ s.top → lost_edge s ≡ m + 1
    → ((is_unsacked m s && is_lost m s) ≡ true) × (s.una ≤ m) × (m < s.top)
passes s m l e =
    let to : s.top ≡ s.una + (s.top - s.una) = omega arith in
    let q : ℕ → Bool = λ y. is_unsacked y s && is_lost y s in
    let same : lost_edge s ≡ after (greatest_where q s.una (s.una + (s.top - s.una))) = ap (λ n. after (greatest_where q s.una n)) to in
    let found = greatest-passes q s.una (s.top - s.una) m (sym same ∙ e) in
    (found.0, found.1, omega (arith, found.2))

still_free : (s t : BoardView) → Follows s t → (x : ℕ) → t.una ≤ x → is_unsacked x t ≡ true → is_unsacked x s ≡ true
still_free s t f x l free = by (contains s.sacked x) (contains t.sacked x) (f.kept x l) free
  where
    by : (a b : Bool) → (a ≡ true → b ≡ true) → not b ≡ true → not a ≡ true
    by true true k e = e
    by true false k e = let h = k refl in absurd cc
    by false b k e = refl

pub edge_tells_losses : EdgeShowsLosses
edge_tells_losses s t f = (none_more, no_higher)
  where
    none_more : lost_edge t ≤ lost_edge s → (x : ℕ) → t.una ≤ x → x < t.top → is_unsacked x t ≡ true → is_lost x t ≡ true → is_lost x s ≡ true
    none_more h x l u free lost =
        let below : x < lost_edge t = reaches t x l u free lost in
        let last : lost_edge s ≡ lost_edge s - 1 + 1 = omega (arith, below, h) in
        let at = passes s (lost_edge s - 1) (omega (arith, f.una, f.within, f.top)) last in
        lost_below s x (lost_edge s - 1) (omega (arith, below, h)) (parts (is_unsacked (lost_edge s - 1) s) (is_lost (lost_edge s - 1) s) at.0).1

    no_higher : ((x : ℕ) → t.una ≤ x → x < t.top → is_unsacked x t ≡ true → is_lost x t ≡ true → is_lost x s ≡ true) → lost_edge t ≤ lost_edge s
    no_higher all = from (lost_edge t) refl
      where
        from : (n : ℕ) → lost_edge t ≡ n → n ≤ lost_edge s
        from zero e = omega arith
        from (suc m) e =
            let last : lost_edge t ≡ m + 1 = omega (arith, e) in
            let at = passes t m f.within last in
            let two = parts (is_unsacked m t) (is_lost m t) at.0 in
            let there : m < lost_edge s =
            reaches s m (omega (arith, f.una, at.1)) (omega (arith, f.top, at.2)) (still_free s t f m at.1 two.0) (all m at.1 at.2 two.0 two.1) in
            omega (arith, there)

pub counts_undelivered : CountsUndelivered
counts_undelivered s t f =
    let p : ℕ → Bool = contains s.sacked in
    let all : sacked_octets s ≡ size_where p s.una t.una + size_where p t.una s.top =
    size_where-parts p s.una t.una s.top (t.una - s.una) (omega (arith, f.una)) (omega (arith, f.within, f.top)) in
    let to : size_where p t.una t.top ≡ size_where p t.una s.top = ap (size_where p t.una) f.top in
    let below = size_where-both p s.una t.una (t.una - s.una) (omega (arith, f.una)) in
    let most = size_where-le p t.una s.top in
    omega (arith, all, to, below, most, f.una, f.within, f.top)
