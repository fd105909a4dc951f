-- A scoreboard whose SACKed octets are those that pass a test: the definitions say the same of the test.
use Rattle.std.proofs.Common.{◌≡◌, ℕ, ◌+◌, ◌-◌, ◌*◌, ◌<◌, ◌≤◌, max, Bool, true, false, not, ◌&&◌, ◌||◌, refl, sym, ap, ◌∙◌, arith}
use Rattle.std.specs.Prelude.{nat_le, nat_lt, nat_eq}
use Rattle.std.specs.List.{list_any}
use Rattle.std.proofs.lemmas.Bool.Decides.{nat_tests}
use Rattle.pd_seg.specs.declared.sack_spans.Span.{Span}
use Rattle.pd_board.specs.Octets.{contains, interval, octets_where, size_where, greatest_where, after, begins_run}
use Rattle.pd_board.specs.Board.{BoardView, IsBoardView, covers, with_sacked_block, has_new, sent_to, acknowledged}
use Rattle.pd_board.specs.Loss.{is_lost, is_unsacked, lost_edge, pipe, shows_loss}
use Rattle.pd_board.specs.declared.ranges.Ranges.{Ranges}
use Rattle.pd_board.specs.Ranges.{IsBoard}
use Rattle.pd_board.specs.Predicates.{first_of, lost_from, pipe_from, edge_from}
use Rattle.pd_board.proofs.Find.{greatest-same}
use Rattle.pd_board.proofs.Sets.{lt, ge, cut, contains-octets_where, contains_in, contains_below, octets_where-same, octets_where-longer, any-part, any-same, any-false, size_where-same, size_where-skip, size_where-none, begins_run_in}

conj : (a b c : Bool) → (a && (b && c)) ≡ true → (a ≡ true) × (b ≡ true)
conj true true c h = (refl, refl)
conj true false c h = absurd cc
conj false b c h = absurd cc

both_bounds : (a b x : ℕ) (c : Bool) → (nat_le a x && (nat_lt x b && c)) ≡ true → (a ≤ x) × (x < b)
both_bounds a b x c h = let k = conj (nat_le a x) (nat_lt x b) c h in (grind (arith, nat_tests, k.0), grind (arith, nat_tests, k.1))

covering : (una a b f x : ℕ) (was : Bool) → f ≡ max una a → una ≤ x → (was || (nat_le f x && nat_lt x b)) ≡ (was || (nat_le a x && nat_lt x b))
covering una a b f x was e l = grind (arith, nat_tests)

before : (a b f una x : ℕ) (free : Bool) → f ≡ max una a → una ≤ x → x < f → ((nat_le a x && nat_lt x b) && free) ≡ false
before a b f una x free e l u = grind (arith, nat_tests)

beyond : (a b x : ℕ) (free : Bool) → b ≤ x → ((nat_le a x && nat_lt x b) && free) ≡ false
beyond a b x free l = grind (arith, nat_tests)

inner : (a b f una x : ℕ) (free : Bool) → f ≡ max una a → f ≤ x → x < b → ((nat_le a x && nat_lt x b) && free) ≡ free
inner a b f una x free e l u = grind (arith, nat_tests)

empty : (a b f una x : ℕ) (free : Bool) → f ≡ max una a → b ≤ f → una ≤ x → ((nat_le a x && nat_lt x b) && free) ≡ false
empty a b f una x free e l u = grind (arith, nat_tests)

module _ (p : ℕ → Bool) (s : BoardView) (shown : s.sacked ≡ octets_where p s.una s.top) where
  pub within : (x : ℕ) → s.una ≤ x → x < s.top → contains s.sacked x ≡ p x
  within x l u = ap (λ k. contains k x) shown ∙ contains_in p s.una s.top x l u

  pub under : (x : ℕ) → x < s.una → contains s.sacked x ≡ false
  under x l = ap (λ k. contains k x) shown ∙ contains_below p s.una s.top x l

  pub is_board_view : (ranges : Ranges) → IsBoard s.smss s.una s.next s.top s.end ranges → IsBoardView s
  is_board_view ranges b = record {
    smss_low = b.smss_low;
    smss_high = b.smss_high;
    una_next = b.una_next;
    next_top = b.next_top;
    top_end = b.top_end;
    end_low = b.end_low;
    sacked_ascending = shown ∙ sym (cut p s.una s.una s.top (omega arith)) ∙ ap (λ k. octets_where (contains k) s.una s.top) (sym shown);
    sacked_sent = λ x h. both_bounds s.una s.top x (p x) (sym (ap (λ k. contains k x) shown ∙ contains-octets_where p s.una s.top x) ∙ h);
  }

  pub runs_from : (first : ℕ) → s.una ≤ first → size_where (begins_run s.sacked) first s.top ≡ size_where (first_of p s.una) first s.top
  runs_from first l =
      ap (λ k. size_where (begins_run k) first s.top) shown
      ∙ size_where-same _ _ first s.top (λ x m u. begins_run_in p s.una s.top x (omega arith) u)

  pub octets_from : (first : ℕ) → s.una ≤ first → size_where (contains s.sacked) first s.top ≡ size_where p first s.top
  octets_from first l = size_where-same _ _ first s.top (λ x m u. within x (omega arith) u)

  pub lost_at : (x : ℕ) → s.una ≤ x → is_lost x s ≡ lost_from p s.una s.top s.smss (x + 1)
  lost_at x l = λ i. shows_loss s.smss (runs_from (x + 1) (omega arith) i) (octets_from (x + 1) (omega arith) i)

  no_begin : (x : ℕ) → x < s.una → begins_run s.sacked x ≡ false
  no_begin x l = ap (λ b. b && (nat_eq x 0 || not (contains s.sacked (x - 1)))) (under x l)

  lost_under : (x : ℕ) → x < s.una → s.una ≤ s.top → is_lost x s ≡ lost_from p s.una s.top s.smss s.una
  lost_under x l u =
      let runs = size_where-skip (begins_run s.sacked) (x + 1) s.una s.top (s.una - (x + 1)) (omega arith) u (λ y m v. no_begin y v) ∙ runs_from s.una (omega arith) in
      let octets = size_where-skip (contains s.sacked) (x + 1) s.una s.top (s.una - (x + 1)) (omega arith) u (λ y m v. under y v) ∙ octets_from s.una (omega arith) in
      λ i. shows_loss s.smss (runs i) (octets i)

  pub lost_is : (x first : ℕ) → s.una ≤ s.top → first ≡ max s.una (x + 1) → is_lost x s ≡ lost_from p s.una s.top s.smss first
  lost_is x first l e =
      elim (nat_lt x s.una) as (λ t. nat_lt x s.una ≡ t → is_lost x s ≡ lost_from p s.una s.top s.smss first) [
        | true ↦ λ t. lost_under x (lt x s.una t) l ∙ ap (lost_from p s.una s.top s.smss) (low t)
        | false ↦ λ t. lost_at x (ge x s.una t) ∙ ap (lost_from p s.una s.top s.smss) (high t)
      ] refl
    where
      low : nat_lt x s.una ≡ true → s.una ≡ first
      low t = let h = lt x s.una t in omega arith

      high : nat_lt x s.una ≡ false → x + 1 ≡ first
      high t = let h = ge x s.una t in omega arith

  pub never_lost : (x : ℕ) → s.top ≤ x → is_lost x s ≡ false
  never_lost x l =
      (λ i. shows_loss s.smss (size_where-none (begins_run s.sacked) (x + 1) s.top (omega arith) i) (size_where-none (contains s.sacked) (x + 1) s.top (omega arith) i))
      ∙ grind (arith, nat_tests)

  pub pipe_is : (high_rxt : ℕ) → pipe high_rxt s ≡ pipe_from p s.una s.top s.smss high_rxt s.una
  pipe_is high_rxt =
      let free = size_where-same (λ x. is_unsacked x s && not (is_lost x s)) _ s.una s.top (λ x l u i. not (within x l u i) && not (lost_at x l i)) in
      let again = size_where-same (λ x. is_unsacked x s && nat_lt x high_rxt) _ s.una s.top (λ x l u i. not (within x l u i) && nat_lt x high_rxt) in
      λ i. free i + again i

  pub lost_edge_is : s.una ≤ s.top → lost_edge s ≡ edge_from p s.una s.top s.smss
  lost_edge_is l =
      let to : s.top ≡ s.una + (s.top - s.una) = omega arith in
      ap (λ n. after (greatest_where (λ x. is_unsacked x s && is_lost x s) s.una n)) to
      ∙ ap after (greatest-same (λ x. is_unsacked x s && is_lost x s) (λ x. not (p x) && lost_from p s.una s.top s.smss (x + 1)) s.una (s.top - s.una)
      (λ x m u i. not (within x m (omega arith) i) && lost_at x m i))
      ∙ sym (ap (λ n. after (greatest_where (λ x. not (p x) && lost_from p s.una s.top s.smss (x + 1)) s.una n)) to)

  pub marked_is : (q : ℕ → Bool) (block : Span) (first : ℕ) → first ≡ max s.una block.start
      → ((x : ℕ) → q x ≡ (p x || (nat_le first x && nat_lt x block.end))) → record s { sacked = octets_where q s.una s.top } ≡ with_sacked_block block s
  marked_is q block first e h =
      ap (λ k. record s { sacked = k }) (octets_where-same _ _ s.una s.top (λ x l u.
      h x ∙ cover x (p x) l ∙ ap (λ was. was || covers block x) (sym (within x l u))))
    where
      cover : (x : ℕ) (was : Bool) → s.una ≤ x → (was || (nat_le first x && nat_lt x block.end)) ≡ (was || covers block x)
      cover x was l = covering s.una block.start block.end first x was e l

  pub has_new_is : (block : Span) (first : ℕ) → first ≡ max s.una block.start → first ≤ block.end → block.end ≤ s.top
      → has_new block s ≡ list_any (λ x. not (p x)) (interval first block.end)
  has_new_is block first e l u =
      any-part _ s.una first block.end s.top (omega arith) l u
      (λ x m v. before block.start block.end first s.una x (not (contains s.sacked x)) e m v)
      (λ x m v. beyond block.start block.end x (not (contains s.sacked x)) m)
      ∙ any-same _ _ first block.end (λ x m v.
      inner block.start block.end first s.una x (not (contains s.sacked x)) e m v ∙ ap not (within x (omega arith) (omega arith)))

  pub has_none_new : (block : Span) (first : ℕ) → first ≡ max s.una block.start → block.end ≤ first → has_new block s ≡ false
  has_none_new block first e l =
      any-false _ s.una s.top (λ x m v. empty block.start block.end first s.una x (not (contains s.sacked x)) e l m)

  pub sent_is : (x t : ℕ) → t ≡ max s.top x → ((y : ℕ) → s.top ≤ y → p y ≡ false) → record s { next = x; top = t; sacked = octets_where p s.una t } ≡ sent_to x s
  sent_is x t e none =
      ap (λ n. record s { next = x; top = n; sacked = octets_where p s.una n }) e
      ∙ ap (λ k. record s { next = x; top = max s.top x; sacked = k })
      (sym (octets_where-longer p s.una s.top (max s.top x) (omega arith) (λ y l u v. none y u)) ∙ sym shown)

  pub acknowledged_is : (q : ℕ → Bool) (x n : ℕ) → s.una ≤ x → n ≡ max s.next x → ((y : ℕ) → x ≤ y → q y ≡ p y)
      → record s { una = x; next = n; sacked = octets_where q x s.top } ≡ acknowledged x s
  acknowledged_is q x n l e same =
      ap (λ m. record s { una = x; next = m; sacked = octets_where q x s.top }) e
      ∙ ap (λ k. record s { una = x; next = max s.next x; sacked = k }) (octets_where-same q (contains s.sacked) x s.top (λ y m u. same y m ∙ sym (within y (omega arith) u)))

  pub kept : (q : ℕ → Bool) → ((x : ℕ) → q x ≡ p x) → octets_where q s.una s.top ≡ s.sacked
  kept q same = octets_where-same q p s.una s.top (λ x l u. same x) ∙ sym shown
