-- Losses are downward closed, and the pipe counts each octet twice at most.
use Rattle.std.proofs.Common.{◌≡◌, ℕ, ◌+◌, ◌-◌, ◌*◌, ◌<◌, ◌≤◌, Bool, true, false, not, ◌&&◌, ◌||◌, refl, ap, ◌∙◌, arith}
use Rattle.std.specs.Prelude.{nat_lt}
use Rattle.std.proofs.lemmas.Bool.Decides.{nat_tests}
use Rattle.pd_board.specs.Laws.{LostIsDownwardClosed, PipeCountsTwiceAtMost}
use Rattle.pd_board.specs.Board.{BoardView}
use Rattle.pd_board.specs.Loss.{is_lost, is_unsacked, shows_loss, pipe}
use Rattle.pd_board.specs.Octets.{contains, size_where, begins_run}
use Rattle.pd_board.proofs.Sets.{lt, ge, size_where-later, size_where-fewer, size_where-skip, size_where-none, size_where-parts, size_where-both}

pub more : (smss r q n m : ℕ) → r ≤ q → n ≤ m → shows_loss smss r n ≡ true → shows_loss smss q m ≡ true
more smss r q n m l k h = grind (arith, nat_tests)

pub lost_below : LostIsDownwardClosed
lost_below s x y l h =
    more s.smss _ _ _ _
    (size_where-later (begins_run s.sacked) (x + 1) (y + 1) s.top (y - x) (omega arith))
    (size_where-later (contains s.sacked) (x + 1) (y + 1) s.top (y - x) (omega arith))
    h

first_holds : (a b : Bool) → (a && b) ≡ true → a ≡ true
first_holds true b h = refl
first_holds false b h = absurd cc

pub pipe_at_most : PipeCountsTwiceAtMost
pipe_at_most s high_rxt =
    omega (
      arith,
      size_where-fewer (λ x. is_unsacked x s && not (is_lost x s)) (λ x. is_unsacked x s) s.una s.top (λ x h. first_holds _ _ h),
      size_where-fewer (λ x. is_unsacked x s && nat_lt x high_rxt) (λ x. is_unsacked x s) s.una s.top (λ x h. first_holds _ _ h),
    )

-- octets from una on that are sent again count once more
pub pipe_again : (s : BoardView) (x : ℕ) → ((y : ℕ) → s.una ≤ y → y < x → contains s.sacked y ≡ false) → x ≤ s.top
    → pipe s.una s + (x - s.una) ≤ pipe x s
pipe_again s x free to =
    let before : ℕ → Bool = λ y. is_unsacked y s && nat_lt y s.una in
    let after : ℕ → Bool = λ y. is_unsacked y s && nat_lt y x in
    elim (nat_lt s.una x) as (λ t. nat_lt s.una x ≡ t → pipe s.una s + (x - s.una) ≤ pipe x s) [
      | true ↦ λ t.
          let some : s.una < x = lt s.una x t in
          let none : size_where before s.una s.top ≡ 0 =
          size_where-skip before s.una s.top s.top (s.top - s.una) (omega arith) (omega arith) (λ y l u. below y l) ∙ size_where-none before s.top s.top (omega arith) in
          let rest : size_where (λ y. not (after y)) s.una x ≡ 0 =
          size_where-skip (λ y. not (after y)) s.una x x (x - s.una) (omega arith) (omega arith) (λ y l u. ap not (sent y l u)) ∙ size_where-none (λ y. not (after y)) x x (omega arith) in
          let both = size_where-both after s.una x (x - s.una) (omega arith) in
          let parts = size_where-parts after s.una x s.top (x - s.una) (omega arith) to in
          omega (arith, none, rest, both, parts)
      | false ↦ λ t.
          let none : x ≤ s.una = ge s.una x t in
          let fewer : size_where before s.una s.top ≡ 0 = nothing none in
          omega (arith, none, fewer)
    ] refl
  where
    off : (v : Bool) (y a : ℕ) → a ≤ y → (v && nat_lt y a) ≡ false
    off v y a l = grind (arith, nat_tests)

    below : (y : ℕ) → s.una ≤ y → (is_unsacked y s && nat_lt y s.una) ≡ false
    below y l = off (is_unsacked y s) y s.una l

    on : (v : Bool) (y a : ℕ) → v ≡ false → y < a → (not v && nat_lt y a) ≡ true
    on v y a e u = grind (arith, nat_tests)

    sent : (y : ℕ) → s.una ≤ y → y < x → (is_unsacked y s && nat_lt y x) ≡ true
    sent y l u = on (contains s.sacked y) y x (free y l u) u

    nothing : x ≤ s.una → size_where (λ y. is_unsacked y s && nat_lt y s.una) s.una s.top ≡ 0
    nothing n =
        elim (nat_lt s.una s.top) as (λ t. nat_lt s.una s.top ≡ t → size_where (λ y. is_unsacked y s && nat_lt y s.una) s.una s.top ≡ 0) [
          | true ↦ λ t.
              let m : s.una < s.top = lt s.una s.top t in
              size_where-skip (λ y. is_unsacked y s && nat_lt y s.una) s.una s.top s.top (s.top - s.una) (omega arith) (omega arith) (λ y l u. below y l)
              ∙ size_where-none (λ y. is_unsacked y s && nat_lt y s.una) s.top s.top (omega arith)
          | false ↦ λ t. size_where-none (λ y. is_unsacked y s && nat_lt y s.una) s.una s.top (ge s.una s.top t)
        ] refl
