-- Members and sizes of sets of octets that pass a test.
use Rattle.std.proofs.Common.{◌≡◌, ℕ, zero, suc, ◌+◌, ◌-◌, ◌<◌, ◌≤◌, List, [], ◌∷◌, Bool, true, false, cond, not, ◌&&◌, ◌||◌, refl, sym, ap, ◌∙◌, zero-add, arith}
use Rattle.std.specs.Prelude.{nat_le, nat_lt, nat_eq}
use Rattle.std.specs.List.{range_with_len, count_by, filter, list_any}
use Rattle.std.proofs.lemmas.List.Sums.{sum_by-cons, count_by-le-length}
use Rattle.std.proofs.lemmas.List.FromFn.{length-range_with_len}
use Rattle.std.proofs.lemmas.Bool.Decides.{nat_tests}
use Rattle.pd_board.specs.Octets.{contains, interval, octets_where, size_where, begins_run}
use Rattle.pd_board.specs.Predicates.{first_of}

here : (a n q : ℕ) (pa pq ih : Bool) → (a ≡ q → pa ≡ pq) → ih ≡ (nat_le (a + 1) q && (nat_lt q (a + 1 + n) && pq)) → (nat_eq a q && pa || ih) ≡ (nat_le a q && (nat_lt q (a + suc n) && pq))
here a n q pa pq ih same h = grind (arith, nat_tests)

any_filter : (p : ℕ → Bool) (q a : ℕ) (xs : List ℕ) → list_any (λ y. nat_eq y q) (filter p (a ∷ xs)) ≡ (nat_eq a q && p a || list_any (λ y. nat_eq y q) (filter p xs))
any_filter p q a xs = elim (p a) as (λ b. list_any (λ y. nat_eq y q) (cond b (a ∷ filter p xs) (filter p xs)) ≡ (nat_eq a q && b || list_any (λ y. nat_eq y q) (filter p xs))) [
  | true ↦ elim (nat_eq a q) as (λ b. (b || list_any (λ y. nat_eq y q) (filter p xs)) ≡ (b && true || list_any (λ y. nat_eq y q) (filter p xs))) [ true ↦ refl | false ↦ refl ]
  | false ↦ elim (nat_eq a q) as (λ b. list_any (λ y. nat_eq y q) (filter p xs) ≡ (b && false || list_any (λ y. nat_eq y q) (filter p xs))) [ true ↦ refl | false ↦ refl ]
]

never : (a q : ℕ) (pq : Bool) → false ≡ (nat_le a q && (nat_lt q (a + 0) && pq))
never a q pq = grind (arith, nat_tests)

any_where : (p : ℕ → Bool) (a n q : ℕ) → list_any (λ y. nat_eq y q) (filter p (range_with_len a n)) ≡ (nat_le a q && (nat_lt q (a + n) && p q))
any_where p a zero q = never a q (p q)
any_where p a (suc n) q = any_filter p q a (range_with_len (a + 1) n) ∙ here a n q (p a) (p q) _ (ap p) (any_where p (a + 1) n q)

up_to : (a b q : ℕ) (pq : Bool) → (nat_le a q && (nat_lt q (a + (b - a)) && pq)) ≡ (nat_le a q && (nat_lt q b && pq))
up_to a b q pq = grind (arith, nat_tests)

-- what a set of the numbers that pass contains
pub contains-octets_where : (p : ℕ → Bool) (a b q : ℕ) → contains (octets_where p a b) q ≡ (nat_le a q && (nat_lt q b && p q))
unfolding octets_where
contains-octets_where p a b q = any_where p a (b - a) q ∙ up_to a b q (p q)

inside : (a b q : ℕ) (x : Bool) → a ≤ q → q < b → (nat_le a q && (nat_lt q b && x)) ≡ x
inside a b q x l u = grind (arith, nat_tests)

pub contains_in : (p : ℕ → Bool) (a b q : ℕ) → a ≤ q → q < b → contains (octets_where p a b) q ≡ p q
contains_in p a b q l u = contains-octets_where p a b q ∙ inside a b q (p q) l u

outside : (a b q : ℕ) (x : Bool) → q < a → (nat_le a q && (nat_lt q b && x)) ≡ false
outside a b q x l = grind (arith, nat_tests)

pub contains_below : (p : ℕ → Bool) (a b q : ℕ) → q < a → contains (octets_where p a b) q ≡ false
contains_below p a b q l = contains-octets_where p a b q ∙ outside a b q (p q) l

-- a test that agrees on the range gives the same set
filter_same : (p q : ℕ → Bool) (a n : ℕ) → ((x : ℕ) → a ≤ x → x < a + n → p x ≡ q x) → filter p (range_with_len a n) ≡ filter q (range_with_len a n)
filter_same p q a zero h = refl
filter_same p q a (suc n) h =
    let first : p a ≡ q a = h a (omega arith) (omega arith) in
    let rest : filter p (range_with_len (a + 1) n) ≡ filter q (range_with_len (a + 1) n) = filter_same p q (a + 1) n (λ x l u. h x (omega arith) (omega arith)) in
    (λ i. cond (first i) (a ∷ rest i) (rest i))

pub octets_where-same : (p q : ℕ → Bool) (a b : ℕ) → ((x : ℕ) → a ≤ x → x < b → p x ≡ q x) → octets_where p a b ≡ octets_where q a b
unfolding octets_where
octets_where-same p q a b h = filter_same p q a (b - a) (λ x l u. h x l (omega arith))

filter_none : (p : ℕ → Bool) (a n : ℕ) → ((x : ℕ) → a ≤ x → x < a + n → p x ≡ false) → filter p (range_with_len a n) ≡ []
filter_none p a zero h = refl
filter_none p a (suc n) h =
    ap (λ b. cond b (a ∷ filter p (range_with_len (a + 1) n)) (filter p (range_with_len (a + 1) n))) (h a (omega arith) (omega arith))
    ∙ filter_none p (a + 1) n (λ x l u. h x (omega arith) (omega arith))

pub octets_where-none : (p : ℕ → Bool) (a b : ℕ) → ((x : ℕ) → a ≤ x → x < b → p x ≡ false) → octets_where p a b ≡ []
unfolding octets_where
octets_where-none p a b h = filter_none p a (b - a) (λ x l u. h x l (omega arith))

-- what passes nowhere after a place is the set up to there
filter_longer : (p : ℕ → Bool) (a n k : ℕ) → n ≤ k → ((x : ℕ) → a + n ≤ x → x < a + k → p x ≡ false) → filter p (range_with_len a n) ≡ filter p (range_with_len a k)
filter_longer p a zero k l h = sym (filter_none p a k (λ x m u. h x (omega arith) u))
filter_longer p a (suc n) zero l h = absurd (omega arith)
filter_longer p a (suc n) (suc k) l h =
    let rest : filter p (range_with_len (a + 1) n) ≡ filter p (range_with_len (a + 1) k) = filter_longer p (a + 1) n k (omega arith) (λ x m u. h x (omega arith) (omega arith)) in
    ap (λ xs. cond (p a) (a ∷ xs) xs) rest

pub octets_where-longer : (p : ℕ → Bool) (a b c : ℕ) → b ≤ c → ((x : ℕ) → a ≤ x → b ≤ x → x < c → p x ≡ false) → octets_where p a b ≡ octets_where p a c
unfolding octets_where
octets_where-longer p a b c l h = filter_longer p a (b - a) (c - a) (omega arith) (λ x m u. h x (omega arith) (omega arith) (omega arith))

-- what is acknowledged leaves the set
pub cut : (p : ℕ → Bool) (a x b : ℕ) → a ≤ x → octets_where (contains (octets_where p a b)) x b ≡ octets_where p x b
cut p a x b h = octets_where-same _ _ x b (λ y l u. contains_in p a b y (omega arith) u)

pub size_where-first : (p : ℕ → Bool) (a b : ℕ) → a < b → size_where p a b ≡ cond (p a) 1 0 + size_where p (a + 1) b
unfolding size_where
size_where-first p a b h =
    let e : b - a ≡ suc (b - (a + 1)) = omega arith in
    rw e (sum_by-cons (λ x. cond (p x) 1 0) a (range_with_len (a + 1) (b - (a + 1))))

pub size_where-none : (p : ℕ → Bool) (a b : ℕ) → b ≤ a → size_where p a b ≡ 0
unfolding size_where
size_where-none p a b h =
    let e : b - a ≡ 0 = omega arith in
    rw e refl

size_same : (p q : ℕ → Bool) (a n : ℕ) → ((x : ℕ) → a ≤ x → x < a + n → p x ≡ q x) → count_by p (range_with_len a n) ≡ count_by q (range_with_len a n)
size_same p q a zero h = refl
size_same p q a (suc n) h =
    let first : p a ≡ q a = h a (omega arith) (omega arith) in
    let rest : count_by p (range_with_len (a + 1) n) ≡ count_by q (range_with_len (a + 1) n) = size_same p q (a + 1) n (λ x l u. h x (omega arith) (omega arith)) in
    sum_by-cons (λ x. cond (p x) 1 0) a (range_with_len (a + 1) n) ∙ (λ i. cond (first i) 1 0 + rest i) ∙ sym (sum_by-cons (λ x. cond (q x) 1 0) a (range_with_len (a + 1) n))

pub size_where-same : (p q : ℕ → Bool) (a b : ℕ) → ((x : ℕ) → a ≤ x → x < b → p x ≡ q x) → size_where p a b ≡ size_where q a b
unfolding size_where
size_where-same p q a b h = size_same p q a (b - a) (λ x l u. h x l (omega arith))

le_size : (p : ℕ → Bool) (a n : ℕ) → count_by p (range_with_len a n) ≤ n
le_size p a n = omega (arith, count_by-le-length p (range_with_len a n), length-range_with_len a n)

pub size_where-le : (p : ℕ → Bool) (a b : ℕ) → size_where p a b ≤ b - a
unfolding size_where
size_where-le p a b = le_size p a (b - a)

-- octets that do not pass are not counted
pub size_where-skip : (p : ℕ → Bool) (a m b n : ℕ) → a + n ≡ m → m ≤ b → ((x : ℕ) → a ≤ x → x < m → p x ≡ false) → size_where p a b ≡ size_where p m b
size_where-skip p a m b zero e l h = let e' : a ≡ m = omega arith in ap (λ k. size_where p k b) e'
size_where-skip p a m b (suc n) e l h =
    let no : p a ≡ false = h a (omega arith) (omega arith) in
    size_where-first p a b (omega arith) ∙ ap (λ v. cond v 1 0 + size_where p (a + 1) b) no ∙ zero-add _ ∙ size_where-skip p (a + 1) m b n (omega arith) l (λ x k u. h x (omega arith) u)

pub lt : (a b : ℕ) → nat_lt a b ≡ true → a < b
lt a b t = grind (arith, nat_tests)

pub ge : (a b : ℕ) → nat_lt a b ≡ false → b ≤ a
ge a b t = grind (arith, nat_tests)

-- from further on there are fewer
pub size_where-later : (p : ℕ → Bool) (a c b n : ℕ) → a + n ≡ c → size_where p c b ≤ size_where p a b
size_where-later p a c b zero e = let k : size_where p c b ≡ size_where p a b = ap (λ v. size_where p v b) (omega arith) in omega (arith, k)
size_where-later p a c b (suc n) e =
    elim (nat_lt a b) as (λ t. nat_lt a b ≡ t → size_where p c b ≤ size_where p a b) [
      | true ↦ λ t. omega (arith, size_where-first p a b (lt a b t), size_where-later p (a + 1) c b n (omega arith))
      | false ↦ λ t. let k : b ≤ a = ge a b t in omega (arith, size_where-none p c b (omega arith))
    ] refl

-- one that passes is counted
pub size_where-some : (p : ℕ → Bool) (a y b : ℕ) → a ≤ y → y < b → p y ≡ true → 0 < size_where p a b
size_where-some p a y b l u h =
    let one : cond {A = ℕ} (p y) 1 0 ≡ 1 = ap (λ v. cond v 1 0) h in
    omega (arith, size_where-first p y b u, one, size_where-later p a y b (y - a) (omega arith))

-- where fewer pass, fewer are counted
one_le : (x y : Bool) → (x ≡ true → y ≡ true) → cond {A = ℕ} x 1 0 ≤ cond {A = ℕ} y 1 0
one_le true true h = omega arith
one_le true false h = let e = h refl in absurd cc
one_le false true h = omega arith
one_le false false h = omega arith

size_fewer : (p q : ℕ → Bool) (a n : ℕ) → ((x : ℕ) → p x ≡ true → q x ≡ true) → count_by p (range_with_len a n) ≤ count_by q (range_with_len a n)
size_fewer p q a zero h = omega arith
size_fewer p q a (suc n) h =
    omega (arith, sum_by-cons (λ x. cond (p x) 1 0) a (range_with_len (a + 1) n), sum_by-cons (λ x. cond (q x) 1 0) a (range_with_len (a + 1) n), size_fewer p q (a + 1) n h, one_le (p a) (q a) (h a))

pub size_where-fewer : (p q : ℕ → Bool) (a b : ℕ) → ((x : ℕ) → p x ≡ true → q x ≡ true) → size_where p a b ≤ size_where q a b
unfolding size_where
size_where-fewer p q a b h = size_fewer p q a (b - a) h

first_test : (a x : ℕ) (now before before' : Bool) → a ≤ x → (a < x → before ≡ before') → (x ≡ a → 0 < x → before' ≡ false) → (now && (nat_eq x 0 || not before')) ≡ (now && (nat_eq x a || not before))
first_test a x now before before' l same none = grind (arith, nat_tests)

pub begins_run_in : (p : ℕ → Bool) (a b x : ℕ) → a ≤ x → x < b → begins_run (octets_where p a b) x ≡ first_of p a x
begins_run_in p a b x l u =
    ap (λ h. h && (nat_eq x 0 || not (contains (octets_where p a b) (x - 1)))) (contains_in p a b x l u)
    ∙ first_test a x (p x) (p (x - 1)) (contains (octets_where p a b) (x - 1)) l (λ k. sym (contains_in p a b (x - 1) (omega arith) (omega arith))) before
  where
    before : x ≡ a → 0 < x → contains (octets_where p a b) (x - 1) ≡ false
    before e h = contains_below p a b (x - 1) (omega arith)

-- a set in two parts
pub size_where-parts : (p : ℕ → Bool) (a m b n : ℕ) → a + n ≡ m → m ≤ b → size_where p a b ≡ size_where p a m + size_where p m b
size_where-parts p a m b zero e l =
    let same : a ≡ m = omega arith in
    let all : size_where p a b ≡ size_where p m b = ap (λ k. size_where p k b) same in
    omega (arith, all, size_where-none p a m (omega arith))
size_where-parts p a m b (suc n) e l =
    omega (arith, size_where-first p a b (omega arith), size_where-first p a m (omega arith), size_where-parts p (a + 1) m b n (omega arith) l)

-- those that pass and those that don't are all
pub size_where-both : (p : ℕ → Bool) (a b n : ℕ) → a + n ≡ b → size_where p a b + size_where (λ x. not (p x)) a b ≡ n
size_where-both p a b zero e = omega (arith, size_where-none p a b (omega arith), size_where-none (λ x. not (p x)) a b (omega arith))
size_where-both p a b (suc n) e =
    omega (arith, size_where-first p a b (omega arith), size_where-first (λ x. not (p x)) a b (omega arith), one (p a), size_where-both p (a + 1) b n (omega arith))
  where
    one : (v : Bool) → cond {A = ℕ} v 1 0 + cond {A = ℕ} (not v) 1 0 ≡ 1
    one true = refl
    one false = refl

pub any-first : (p : ℕ → Bool) (a b : ℕ) → a < b → list_any p (interval a b) ≡ (p a || list_any p (interval (a + 1) b))
any-first p a b h =
    let e : b - a ≡ suc (b - (a + 1)) = omega arith in
    rw e refl

pub any-none : (p : ℕ → Bool) (a b : ℕ) → b ≤ a → list_any p (interval a b) ≡ false
any-none p a b h =
    let e : b - a ≡ 0 = omega arith in
    rw e refl

any_same : (p q : ℕ → Bool) (a n : ℕ) → ((x : ℕ) → a ≤ x → x < a + n → p x ≡ q x) → list_any p (range_with_len a n) ≡ list_any q (range_with_len a n)
any_same p q a zero h = refl
any_same p q a (suc n) h =
    let first : p a ≡ q a = h a (omega arith) (omega arith) in
    let rest : list_any p (range_with_len (a + 1) n) ≡ list_any q (range_with_len (a + 1) n) = any_same p q (a + 1) n (λ x l u. h x (omega arith) (omega arith)) in
    (λ i. first i || rest i)

pub any-same : (p q : ℕ → Bool) (a b : ℕ) → ((x : ℕ) → a ≤ x → x < b → p x ≡ q x) → list_any p (interval a b) ≡ list_any q (interval a b)
any-same p q a b h = any_same p q a (b - a) (λ x l u. h x l (omega arith))

any_false : (p : ℕ → Bool) (a n : ℕ) → ((x : ℕ) → a ≤ x → x < a + n → p x ≡ false) → list_any p (range_with_len a n) ≡ false
any_false p a zero h = refl
any_false p a (suc n) h =
    ap (λ b. b || list_any p (range_with_len (a + 1) n)) (h a (omega arith) (omega arith)) ∙ any_false p (a + 1) n (λ x l u. h x (omega arith) (omega arith))

pub any-false : (p : ℕ → Bool) (a b : ℕ) → ((x : ℕ) → a ≤ x → x < b → p x ≡ false) → list_any p (interval a b) ≡ false
any-false p a b h = any_false p a (b - a) (λ x l u. h x l (omega arith))

any_longer : (p : ℕ → Bool) (a n k : ℕ) → n ≤ k → ((x : ℕ) → a + n ≤ x → x < a + k → p x ≡ false) → list_any p (range_with_len a k) ≡ list_any p (range_with_len a n)
any_longer p a zero k l h = any_false p a k (λ x m u. h x (omega arith) u)
any_longer p a (suc n) zero l h = absurd (omega arith)
any_longer p a (suc n) (suc k) l h = ap (λ b. p a || b) (any_longer p (a + 1) n k (omega arith) (λ x m u. h x (omega arith) (omega arith)))

any_later : (p : ℕ → Bool) (a c b n : ℕ) → a + n ≡ c → c ≤ b → ((x : ℕ) → a ≤ x → x < c → p x ≡ false) → list_any p (interval a b) ≡ list_any p (interval c b)
any_later p a c b zero e l h = let e' : a ≡ c = omega arith in ap (λ k. list_any p (interval k b)) e'
any_later p a c b (suc n) e l h =
    any-first p a b (omega arith) ∙ ap (λ v. v || list_any p (interval (a + 1) b)) (h a (omega arith) (omega arith))
    ∙ any_later p (a + 1) c b n (omega arith) l (λ x k u. h x (omega arith) u)

-- what passes nowhere outside a part passes somewhere as it does in the part
pub any-part : (p : ℕ → Bool) (a c d b : ℕ) → a ≤ c → c ≤ d → d ≤ b → ((x : ℕ) → a ≤ x → x < c → p x ≡ false) → ((x : ℕ) → d ≤ x → x < b → p x ≡ false) → list_any p (interval a b) ≡ list_any p (interval c d)
any-part p a c d b l m u below above =
    any_later p a c b (c - a) (omega arith) (omega arith) below
    ∙ any_longer p c (d - c) (b - c) (omega arith) (λ x i j. above x (omega arith) (omega arith))

pub ruleset sizes = (size_where-first, size_where-none, size_where-le)
