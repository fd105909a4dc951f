-- Octets and runs counted over ranges.
use Rattle.std.proofs.Common.{◌≡◌, ℕ, zero, suc, ◌+◌, ◌-◌, ◌<◌, ◌≤◌, max, List, [], ◌∷◌, ◌++◌, Bool, true, false, cond, not, ◌&&◌, ◌||◌, refl, sym, ap, ◌∙◌, arith}
use Rattle.std.specs.Prelude.{nat_le, nat_lt, nat_eq}
use Rattle.std.specs.List.{count_by, list_any, sum_by}
use Rattle.std.proofs.lemmas.List.Sums.{sum_by-cons}
use Rattle.std.proofs.lemmas.Bool.Decides.{nat_tests}
use Rattle.pd_seg.specs.declared.sack_spans.Span.{Span}
use Rattle.pd_board.specs.Octets.{size_where}
use Rattle.pd_board.specs.Predicates.{first_of}
use Rattle.pd_board.proofs.Sets.{size_where-first, size_where-none, size_where-same}
use Rattle.pd_board.specs.Board.{covers}
use Rattle.pd_board.specs.Runs.{among, Between}

pub Between-lower : (a' a : ℕ) (rs : List Span) (b : ℕ) → a' ≤ a → Between a rs b → Between a' rs b
Between-lower a' a [] b l h = omega (arith, h)
Between-lower a' a (r ∷ rs) b l h = (omega (arith, h.0), h.1, h.2)

pub Between-push : (a : ℕ) (rs : List Span) (b c : ℕ) (r : Span) → Between a rs b → b ≤ r.start → r.start < r.end → r.end + 1 ≤ c → Between a (rs ++ r ∷ []) c
Between-push a [] b c r h l m u = (omega (arith, h), m, u)
Between-push a (q ∷ rs) b c r h l m u = (h.0, h.1, Between-push (q.end + 1) rs b c r h.2 l m u)

pub among-push : (rs : List Span) (r : Span) (x : ℕ) → among (rs ++ r ∷ []) x ≡ (among rs x || covers r x)
among-push [] r x = or_false (covers r x)
  where
    or_false : (b : Bool) → (b || false) ≡ b
    or_false true = refl
    or_false false = refl
among-push (q ∷ rs) r x = ap (λ b. covers q x || b) (among-push rs r x) ∙ assoc (covers q x) (among rs x) (covers r x)
  where
    assoc : (a b c : Bool) → (a || (b || c)) ≡ ((a || b) || c)
    assoc true b c = refl
    assoc false b c = refl

-- nothing lies below the lower bound
none_step : (a x s e : ℕ) (rest : Bool) → a ≤ s → s < e → x < a → (x < e + 1 → rest ≡ false) → (nat_le s x && nat_lt x e || rest) ≡ false
none_step a x s e rest l m u h = grind (arith, nat_tests)

pub none_below : (a : ℕ) (rs : List Span) (b x : ℕ) → Between a rs b → x < a → among rs x ≡ false
none_below a [] b x h l = refl
none_below a (r ∷ rs) b x h l = none_step a x r.start r.end (among rs x) h.0 h.1 l (λ u. none_below (r.end + 1) rs b x h.2 u)

-- the size of a set in two parts
either_step : (n m k : ℕ) (p q : Bool) → (p ≡ true → q ≡ false) → n ≡ m + k → (cond (p || q) 1 0 + n) ≡ ((cond p 1 0 + m) + (cond q 1 0 + k))
either_step n m k true q h e = let q_no : q ≡ false = h refl in rw q_no (omega arith)
either_step n m k false true h e = omega arith
either_step n m k false false h e = omega arith

either : (p q : ℕ → Bool) (a b n : ℕ) → b ≤ a + n → ((x : ℕ) → p x ≡ true → q x ≡ false) → size_where (λ x. p x || q x) a b ≡ size_where p a b + size_where q a b
either p q a b zero l h = let e : b ≤ a = omega arith in omega (arith, size_where-none (λ x. p x || q x) a b e, size_where-none p a b e, size_where-none q a b e)
either p q a b (suc n) l h =
    elim (nat_lt a b) as (λ t. nat_lt a b ≡ t → size_where (λ x. p x || q x) a b ≡ size_where p a b + size_where q a b) [
      | true ↦ λ t. size_where-first (λ x. p x || q x) a b (lt t) ∙ either_step _ _ _ (p a) (q a) (h a) (either p q (a + 1) b n (omega arith) h)
          ∙ sym (λ i. size_where-first p a b (lt t) i + size_where-first q a b (lt t) i)
      | false ↦ λ t. let e : b ≤ a = ge t in omega (arith, size_where-none (λ x. p x || q x) a b e, size_where-none p a b e, size_where-none q a b e)
    ] refl
  where
    lt : nat_lt a b ≡ true → a < b
    lt t = grind (arith, nat_tests)

    ge : nat_lt a b ≡ false → b ≤ a
    ge t = grind (arith, nat_tests)

pub size_where-either : (p q : ℕ → Bool) (a b : ℕ) → ((x : ℕ) → p x ≡ true → q x ≡ false) → size_where (λ x. p x || q x) a b ≡ size_where p a b + size_where q a b
size_where-either p q a b h = either p q a b (b - a) (omega arith) h

inside_step : (s e f b n : ℕ) → f < b → e ≤ b → n ≡ e - max s (f + 1) → cond (nat_le s f && nat_lt f e) 1 0 + n ≡ e - max s f
inside_step s e f b n l u h = grind (arith, nat_tests)

size_span : (s e f b n : ℕ) → e ≤ b → b ≤ f + n → size_where (λ x. nat_le s x && nat_lt x e) f b ≡ e - max s f
size_span s e f b zero u l = size_where-none (λ x. nat_le s x && nat_lt x e) f b (omega arith) ∙ omega arith
size_span s e f b (suc n) u l =
    elim (nat_lt f b) as (λ t. nat_lt f b ≡ t → size_where (λ x. nat_le s x && nat_lt x e) f b ≡ e - max s f) [
      | true ↦ λ t. size_where-first (λ x. nat_le s x && nat_lt x e) f b (lt t) ∙ inside_step s e f b _ (lt t) u (size_span s e (f + 1) b n u (omega arith))
      | false ↦ λ t. let k : b ≤ f = ge t in size_where-none (λ x. nat_le s x && nat_lt x e) f b k ∙ omega arith
    ] refl
  where
    lt : nat_lt f b ≡ true → f < b
    lt t = grind (arith, nat_tests)

    ge : nat_lt f b ≡ false → b ≤ f
    ge t = grind (arith, nat_tests)

pub size_where-covers : (s e f b : ℕ) → e ≤ b → size_where (λ x. nat_le s x && nat_lt x e) f b ≡ e - max s f
size_where-covers s e f b u = size_span s e f b (b - f) u (omega arith)

pub Between-end : (a : ℕ) (rs : List Span) (b : ℕ) → Between a rs b → a ≤ b
Between-end a [] b h = h
Between-end a (r ∷ rs) b h = let k : r.end + 1 ≤ b = Between-end (r.end + 1) rs b h.2 in omega (arith, h.0, h.1)

-- how many octets of ranges lie at or above f
pub octets_of : (a : ℕ) (rs : List Span) (f top : ℕ) → Between a rs (top + 1) → size_where (among rs) f top ≡ sum_by (λ r. r.end - max r.start f) rs
octets_of a [] f top h = nothing f top (top - f) (omega arith)
  where
    nothing : (g t n : ℕ) → t ≤ g + n → size_where (λ x. false) g t ≡ 0
    nothing g t n l = size_where-same (λ x. false) (λ x. nat_le 0 x && nat_lt x 0) g t (λ x _ _. grind (arith, nat_tests)) ∙ size_where-covers 0 0 g t (omega arith) ∙ omega arith
octets_of a (r ∷ rs) f top h =
    let k : r.end + 1 ≤ top + 1 = Between-end (r.end + 1) rs (top + 1) h.2 in
    size_where-either (covers r) (among rs) f top (λ x i. none_below (r.end + 1) rs (top + 1) x h.2 (below x i))
    ∙ (λ i. size_where-covers r.start r.end f top (omega arith) i + octets_of (r.end + 1) rs f top h.2 i)
    ∙ sym (sum_by-cons (λ q. q.end - max q.start f) r rs)
  where
    below : (x : ℕ) → covers r x ≡ true → x < r.end + 1
    below x i = grind (arith, nat_tests)

abbrev starts_at : List Span → ℕ → Bool
starts_at rs x = list_any (λ r. nat_eq x r.start) rs

starts_step : (una a x s e : ℕ) (v v' w : Bool) → una ≤ a → a ≤ s → s < e → una ≤ x → (x < e + 1 → v ≡ false) → (x - 1 < e + 1 → v' ≡ false) → w ≡ (v && (nat_eq x una || not v'))
    → ((nat_le s x && nat_lt x e || v) && (nat_eq x una || not (nat_le s (x - 1) && nat_lt (x - 1) e || v'))) ≡ (nat_eq x s || w)
starts_step una a x s e v v' w l m u k h h' d = grind (arith, nat_tests)

first_starts : (una a : ℕ) (rs : List Span) (b x : ℕ) → una ≤ a → Between a rs b → una ≤ x → first_of (among rs) una x ≡ starts_at rs x
first_starts una a [] b x l h k = refl
first_starts una a (r ∷ rs) b x l h k =
    starts_step una a x r.start r.end (among rs x) (among rs (x - 1)) (starts_at rs x) l h.0 h.1 k
    (none_below (r.end + 1) rs b x h.2) (none_below (r.end + 1) rs b (x - 1) h.2)
    (sym (first_starts una (r.end + 1) rs b x (omega (arith, h.0, h.1)) h.2 k))

no_start : (a : ℕ) (rs : List Span) (b x : ℕ) → Between a rs b → x < a → starts_at rs x ≡ false
no_start a [] b x h l = refl
no_start a (r ∷ rs) b x h l = step x r.start (starts_at rs x) (omega (arith, h.0)) (no_start (r.end + 1) rs b x h.2 (omega (arith, h.0, h.1)))
  where
    step : (y s : ℕ) (w : Bool) → y < s → w ≡ false → (nat_eq y s || w) ≡ false
    step y s w u v = grind (arith, nat_tests)

one_start : (s f : ℕ) → (s + 1) - max s f ≡ cond (nat_le f s) 1 0
one_start s f = grind (arith, nat_tests)

starts_of : (a : ℕ) (rs : List Span) (f top : ℕ) → Between a rs (top + 1) → size_where (starts_at rs) f top ≡ count_by (λ r. nat_le f r.start) rs
starts_of a [] f top h = octets_of a [] f top h
starts_of a (r ∷ rs) f top h =
    let k : r.end + 1 ≤ top + 1 = Between-end (r.end + 1) rs (top + 1) h.2 in
    size_where-either (λ x. nat_eq x r.start) (starts_at rs) f top (λ x i. no_start (r.end + 1) rs (top + 1) x h.2 (below x i h.1))
    ∙ (λ i. (size_where-same (λ x. nat_eq x r.start) (λ x. nat_le r.start x && nat_lt x (r.start + 1)) f top (λ x _ _. same x) ∙ size_where-covers r.start (r.start + 1) f top (omega (arith, h.1)) ∙ one_start r.start f) i + starts_of (r.end + 1) rs f top h.2 i)
    ∙ sym (sum_by-cons (λ q. cond (nat_le f q.start) 1 0) r rs)
  where
    below : (x : ℕ) → nat_eq x r.start ≡ true → r.start < r.end → x < r.end + 1
    below x i l = grind (arith, nat_tests)

    same : (x : ℕ) → nat_eq x r.start ≡ (nat_le r.start x && nat_lt x (r.start + 1))
    same x = grind (arith, nat_tests)

-- how many runs begin at or above f
pub runs_of : (una a : ℕ) (rs : List Span) (f top : ℕ) → una ≤ a → una ≤ f → Between a rs (top + 1) → size_where (first_of (among rs) una) f top ≡ count_by (λ r. nat_le f r.start) rs
runs_of una a rs f top l u h = size_where-same _ _ f top (λ x m _. first_starts una a rs (top + 1) x l h (omega arith)) ∙ starts_of a rs f top h
