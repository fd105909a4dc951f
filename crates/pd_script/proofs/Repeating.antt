-- Repetitions are read as they are spelled.
use Rattle.std.proofs.Common.{◌≡◌, ℕ, zero, suc, ◌+◌, ◌<◌, ◌≤◌, Bool, true, false, cond, List, [], ◌∷◌, ◌++◌, length, Ok, Err, refl, sym, ap, subst, ◌∙◌, arith, inl, inr}
use Rattle.std.specs.Prelude.{◌||◌}
use Rattle.std.proofs.lemmas.List.{append_cancel_right}
use Rattle.pd_lex.specs.Tokens.{Item}
use Rattle.pd_script.specs.Reader.{Read, Reader, then_read, ◌>>=◌, done, when, onto}
use Rattle.pd_script.specs.Spelling.{Spelling, made, in_turn, either, Repeats}
use Rattle.pd_script.specs.PacketReading.{repeated_within, repeated_at}
use Rattle.pd_script.proofs.Laws.{Took, Failed, Stops, Within, ok, then_ok}
use Rattle.pd_script.proofs.Apart.{or-left, or-right}
use Rattle.pd_script.proofs.Matches.{Reads, Reads-done, Reads-bind, Reads-when, Reads-widen, Reads-same}
use Rattle.pd_script.specs.Items.{next_is}

pub cons_is : {A : Type 0} (x : A) (r : Read (List A)) → then_read r (λ xs rest. Ok (x ∷ xs, rest)) ≡ onto (x ∷ []) r
cons_is x (Ok y) = refl
cons_is x (Err y) = refl

module _ {A : Type 0} (test : Item → Bool) (p : Reader A) (less : (ts : List Item) (v : A) (rest : List Item) → p ts ≡ ok v rest → length rest < length ts) where
  abbrev within : ℕ → Reader (List A)
  within n = repeated_within n test p

  abbrev one_more : ℕ → Reader (List A)
  one_more n = p >>= (λ x. repeated_within n test p >>= (λ xs. done (x ∷ xs)))

  more_by : (j k : ℕ) (ts : List Item) (r : Read A) → p ts ≡ r → length ts ≤ suc j → length ts ≤ suc k → ((us : List Item) → length us ≤ j → length us ≤ k → within j us ≡ within k us) → then_read r (λ x. within j >>= (λ xs. done (x ∷ xs))) ≡ then_read r (λ x. within k >>= (λ xs. done (x ∷ xs)))
  more_by j k ts (Err d) e h g ih = refl
  more_by j k ts (Ok x) e h g ih =
      let shorter : length x.1 < length ts = less ts x.0 x.1 e in
      let same : within j x.1 ≡ within k x.1 = ih x.1 (omega arith) (omega arith) in
      ap (λ (r : Read (List A)). then_read r (λ xs. done (x.0 ∷ xs))) same

  -- any allowance that is long enough
  enough : (j k : ℕ) (ts : List Item) → length ts ≤ j → length ts ≤ k → within j ts ≡ within k ts
  unfolding repeated_within
  enough zero zero ts h g = refl
  enough zero (suc k) [] h g = refl
  enough zero (suc k) (t ∷ ts) h g = absurd (omega arith)
  enough (suc j) zero [] h g = refl
  enough (suc j) zero (t ∷ ts) h g = absurd (omega arith)
  enough (suc j) (suc k) ts h g = by_test (next_is test ts) (more_by j k ts (p ts) refl h g (enough j k))
    where
      by_test : (b : Bool) → one_more j ts ≡ one_more k ts → cond b (one_more j ts) (done [] ts) ≡ cond b (one_more k ts) (done [] ts)
      by_test true same = same
      by_test false same = refl

  at_is : (n : ℕ) (ts : List Item) → length ts ≤ n → within n ts ≡ repeated_at test p ts
  unfolding repeated_at
  at_is n ts h = enough n (length ts) ts h (omega arith)

  -- ---- one step

  step : (xs : List Item) → repeated_at test p xs ≡ when test (one_more (length xs)) (done []) xs
  unfolding repeated_within
  step xs = sym (at_is (suc (length xs)) xs (omega arith))

  pub repeat_goes : (xs ys : List Item) (x : A) → next_is test xs ≡ true → p xs ≡ Ok (x, ys) → (repeated_at test p xs ≡ onto (x ∷ []) (repeated_at test p ys)) × (length ys < length xs)
  repeat_goes xs ys x h e =
      let shorter : length ys < length xs = less xs x ys e in
      (step xs ∙ rw (h, e) (cons_is x (within (length xs) ys) ∙ ap (λ (r : Read (List A)). onto (x ∷ []) r) (at_is (length xs) ys (omega arith))), shorter)

  pub repeat_err : (xs rest : List Item) → next_is test xs ≡ true → p xs ≡ Err rest → repeated_at test p xs ≡ Err rest
  repeat_err xs rest h e = step xs ∙ rw (h, e) refl

  pub repeat_stops : (xs : List Item) → next_is test xs ≡ false → repeated_at test p xs ≡ Ok ([], xs)
  repeat_stops xs h = step xs ∙ rw h refl

  -- ---- the law

  module _ (P : Spelling A) (sp s : Item → Bool) (rp : Reads p P test sp) (other : (t : Item) → s t ≡ true → test t ≡ false) (goes : Within (λ t. test t || s t) sp) where
    abbrev follows : Item → Bool
    follows t = test t || s t

    -- at most so many
    abbrev Few : ℕ → Spelling (List A)
    Few n v ts rest = Repeats P v ts rest × (length v ≤ n)

    abbrev Next : ℕ → Spelling (List A)
    Next n = in_turn P (λ x. in_turn (Few n) (λ xs. made (x ∷ xs)))

    none_few : (n : ℕ) (v : List A) (ts rest : List Item) → made [] v ts rest → Few n v ts rest
    none_few n [] ts rest h = (h.1, omega arith)
    none_few n (x ∷ v) ts rest h = absurd (let e = h.0 in cc)

    few_none : (v : List A) (ts rest : List Item) → Few zero v ts rest → made [] v ts rest
    few_none [] ts rest h = (refl, h.0)
    few_none (x ∷ v) ts rest h = absurd (omega (arith, h.1))

    next_few : (n : ℕ) (v : List A) (ts rest : List Item) → either (Next n) (made []) v ts rest → Few (suc n) v ts rest
    next_few n v ts rest (inl h) =
        let others = h.3 in
        let it : Repeats P (h.0 ∷ others.0) ts others.1 = (h.1, h.2, others.2.0) in
        let bound : length (h.0 ∷ others.0) ≤ suc n = omega (arith, others.2.1) in
        subst (λ (x : List A). Repeats P x ts rest × (length x ≤ suc n)) others.3.0 (subst (λ (r : List Item). Repeats P (h.0 ∷ others.0) ts r) others.3.1 it, bound)
    next_few n v ts rest (inr h) = none_few (suc n) v ts rest h

    few_next : (n : ℕ) (v : List A) (ts rest : List Item) → Few (suc n) v ts rest → either (Next n) (made []) v ts rest
    few_next n [] ts rest h = inr (refl, h.0)
    few_next n (x ∷ v) ts rest h = inl (x, h.0.0, h.0.1, (v, rest, (h.0.2, omega (arith, h.1)), (refl, refl)))

    nothing_more : (n : ℕ) (w : List A) (rest : List Item) → one_more n [] ≡ ok w rest → ⊥
    nothing_more n w rest e =
        let b = then_ok (p []) (λ x. repeated_within n test p >>= (λ xs. done (x ∷ xs))) (w, rest) e in
        omega (arith, less [] b.0.0 b.0.1 b.1)

    Reads-within : (n : ℕ) → Reads (within n) (Few n) follows s
    unfolding repeated_within
    Reads-within zero = Reads-same (Few zero) (Reads-widen s follows (Reads-done [] s) (λ t h. or-right (test t) (s t) h)) (none_few zero) few_none
    Reads-within (suc n) =
        Reads-same (Few (suc n))
        (Reads-when test (one_more n) (done []) (Next n) (made []) test s follows s
        (Reads-bind p _ P _ test sp follows s rp
        (λ x. Reads-bind (within n) (λ xs. done (x ∷ xs)) (Few n) (λ xs. made (x ∷ xs)) follows s s s (Reads-within n) (λ xs. Reads-done (x ∷ xs) s) (λ t h. h))
        goes)
        (Reads-done [] s)
        (λ t h. h)
        other
        (nothing_more n)
        (λ t h. or-left (test t) (s t) h)
        (λ t h. or-right (test t) (s t) h))
        (next_few n)
        (few_next n)

    abbrev rep : Reader (List A)
    rep = repeated_at test p

    -- what some allowance reads
    lift : (n : ℕ) (xs : List Item) (v : List A) (rest : List Item) → within n xs ≡ ok v rest → Stops s rest → rep xs ≡ ok v rest
    lift n xs v rest e stops =
        let S = (Reads-within n).sound xs v rest e in
        let N : ℕ = n + length xs in
        let bound : length v ≤ N = omega (arith, S.1) in
        sym (at_is N xs (omega arith)) ∙ (Reads-within N).complete xs v rest (S.0, bound) stops

    at_length : (ts : List Item) → rep ts ≡ within (length ts) ts
    at_length ts = sym (at_is (length ts) ts (omega arith))

    at_longer : (n : ℕ) (ts : List Item) → length ts ≤ n → rep ts ≡ within n ts
    at_longer n ts h = sym (at_is n ts h)

    rep_took : (ts : List Item) (v : List A) (rest : List Item) → rep ts ≡ ok v rest → Took rep s ts v rest
    rep_took ts v rest e =
        let T = (Reads-within (length ts)).laws.took ts v rest (sym (at_length ts) ∙ e) in
        record {
          front = T.front;
          parts = T.parts;
          same = λ t old more h. (let n : ℕ = length ts + length (T.front ++ t ∷ more) in
              let U = (Reads-within n).laws.took ts v rest (sym (at_longer n ts (omega arith)) ∙ e) in
              let same : U.front ≡ T.front = append_cancel_right U.front T.front rest (sym U.parts ∙ T.parts) in
              at_longer n (T.front ++ t ∷ more) (omega arith) ∙ subst (λ (x : List Item). within n (x ++ t ∷ more) ≡ ok v (t ∷ more)) same (U.same t old more h));
          again = λ more h. (let n : ℕ = length ts + length (T.front ++ more) in
              let U = (Reads-within n).laws.took ts v rest (sym (at_longer n ts (omega arith)) ∙ e) in
              let same : U.front ≡ T.front = append_cancel_right U.front T.front rest (sym U.parts ∙ T.parts) in
              at_longer n (T.front ++ more) (omega arith) ∙ subst (λ (x : List Item). within n (x ++ more) ≡ ok v more) same (U.again more h));
        }

    rep_failed : (ts rest : List Item) → rep ts ≡ Err rest → Failed rep s ts rest
    rep_failed ts rest e =
        let F = (Reads-within (length ts)).laws.failed ts rest (sym (at_length ts) ∙ e) in
        let L = F.live in
        record {
          front = F.front;
          parts = F.parts;
          again = λ t old more h. (let n : ℕ = length ts + length (F.front ++ t ∷ more) in
              let U = (Reads-within n).laws.failed ts rest (sym (at_longer n ts (omega arith)) ∙ e) in
              let same : U.front ≡ F.front = append_cancel_right U.front F.front rest (sym U.parts ∙ F.parts) in
              at_longer n (F.front ++ t ∷ more) (omega arith) ∙ subst (λ (x : List Item). within n (x ++ t ∷ more) ≡ Err (t ∷ more)) same (U.again t old more h));
          live = record { more = L.more; value = L.value; spelled = L.spelled; reads = λ tail h. lift (length ts) (F.front ++ (L.more ++ tail)) L.value tail (L.reads tail h) h };
        }

    pub Reads-repeated : Reads (repeated_at test p) (Repeats P) follows s
    Reads-repeated = record {
      laws = record {
        took = rep_took;
        failed = rep_failed;
        full = (let L = (Reads-within zero).laws.full in record { more = L.more; value = L.value; spelled = L.spelled; reads = λ tail h. lift zero (L.more ++ tail) L.value tail (L.reads tail h) h });
        begins = λ ts v rest e h. (Reads-within (length ts)).laws.begins ts v rest (sym (at_length ts) ∙ e) h;
      };
      sound = λ ts v rest e. ((Reads-within (length ts)).sound ts v rest (sym (at_length ts) ∙ e)).0;
      complete = λ ts v rest h stops. (let n : ℕ = length v + length ts in
          at_longer n ts (omega arith) ∙ (Reads-within n).complete ts v rest (h, omega arith) stops);
      takes = λ ts v rest h. (Reads-within (length v)).takes ts v rest (h, omega arith);
    }
