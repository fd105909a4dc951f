-- Every reader looks one item ahead, and where it meets a fault it could have gone on.
use Rattle.std.proofs.Common.{◌≡◌, Bool, true, false, cond, List, [], ◌∷◌, ◌++◌, Ok, Err, refl, sym, ap, subst, get_or, ◌∙◌, append_assoc, inl, inr}
use Rattle.std.specs.Prelude.{◌⊎◌}
use Rattle.std.specs.List.{list_all}
use Rattle.std.proofs.lemmas.List.Folds.{list_all-append}
use Rattle.pd_lex.specs.Tokens.{Item}
use Rattle.pd_script.proofs.Plain.{is_plain}
use Rattle.pd_script.specs.Reader.{Read, Reader, then_read, ◌>>=◌, done, one, when}
use Rattle.pd_script.specs.Items.{next_is}

-- nothing follows, or a item of these
abbrev pub Stops : (Item → Bool) → List Item → Type 0
Stops s [] = Unit {0}
Stops s (t ∷ ts) = s t ≡ true

abbrev pub ok : {A : Type 0} → A → List Item → Read A
ok v rest = Ok (v, rest)

abbrev pub fault : {A : Type 0} → List Item → Read A
fault rest = Err rest

-- what was read is read again before whatever may follow
pub record Took {A : Type 0} (p : Reader A) (s : Item → Bool) (ts : List Item) (v : A) (rest : List Item) : Type 0 where
  pub front : List Item
  pub parts : ts ≡ front ++ rest
  pub same : (t : Item) (old more : List Item) → rest ≡ t ∷ old → p (front ++ t ∷ more) ≡ ok v (t ∷ more)
  pub again : (more : List Item) → Stops s more → p (front ++ more) ≡ ok v more

-- items that are read before whatever may follow
pub record Full {A : Type 0} (p : Reader A) (s : Item → Bool) (front : List Item) : Type 0 where
  pub more : List Item
  pub value : A
  pub spelled : list_all is_plain more ≡ true
  pub reads : (tail : List Item) → Stops s tail → p (front ++ (more ++ tail)) ≡ ok value tail

-- a fault is known by its item, and what was read before it could have gone on
pub record Failed {A : Type 0} (p : Reader A) (s : Item → Bool) (ts rest : List Item) : Type 0 where
  pub front : List Item
  pub parts : ts ≡ front ++ rest
  pub again : (t : Item) (old more : List Item) → rest ≡ t ∷ old → p (front ++ t ∷ more) ≡ fault (t ∷ more)
  pub live : Full p s front

pub record Laws {A : Type 0} (p : Reader A) (f s : Item → Bool) : Type 0 where
  pub took : (ts : List Item) (v : A) (rest : List Item) → p ts ≡ ok v rest → Took p s ts v rest
  pub failed : (ts rest : List Item) → p ts ≡ fault rest → Failed p s ts rest
  pub full : Full p s []
  pub begins : (ts : List Item) (v : A) (rest : List Item) → p ts ≡ ok v rest → Stops s rest → Stops f ts

-- each item of the first kind is of the second
abbrev pub Within : (Item → Bool) → (Item → Bool) → Type 0
Within f s = (t : Item) → f t ≡ true → s t ≡ true

pub Stops-within : (f s : Item → Bool) (ts : List Item) → Within f s → Stops f ts → Stops s ts
Stops-within f s [] w h = tt
Stops-within f s (t ∷ ts) w h = w t h

Stops-same : (s : Item → Bool) (front : List Item) (t : Item) (old more : List Item) → Stops s (front ++ t ∷ old) → Stops s (front ++ t ∷ more)
Stops-same s [] t old more h = h
Stops-same s (a ∷ front) t old more h = h

pub next-same : (test : Item → Bool) (front : List Item) (t : Item) (old more : List Item) → next_is test (front ++ t ∷ old) ≡ next_is test (front ++ t ∷ more)
next-same test [] t old more = refl
next-same test (a ∷ front) t old more = refl

ok_is : {A : Type 0} (x y : A × List Item) → ok x.0 x.1 ≡ ok y.0 y.1 → x ≡ y
ok_is x y e = cc

pub value_is : {A : Type 0} (v w : A) (r s : List Item) → ok v r ≡ ok w s → v ≡ w
value_is {A = A} v w r s e = ap (λ (x : A × List Item). x.0) (ok_is (v, r) (w, s) e)

pub rest_is : {A : Type 0} (v w : A) (r s : List Item) → ok v r ≡ ok w s → r ≡ s
rest_is {A = A} v w r s e = ap (λ (x : A × List Item). x.1) (ok_is (v, r) (w, s) e)

-- what was read is read again before items that begin alike
Took-same : {A : Type 0} {p : Reader A} {s : Item → Bool} {ts : List Item} {v : A} {rest : List Item} → (P : Took p s ts v rest) → (front : List Item) (t : Item) (old more : List Item) → rest ≡ front ++ t ∷ old → p (P.front ++ (front ++ t ∷ more)) ≡ ok v (front ++ t ∷ more)
Took-same P [] t old more h = P.same t old more h
Took-same P (a ∷ front) t old more h = P.same a (front ++ t ∷ old) (front ++ t ∷ more) h

-- ---- one item

abbrev pub any : Item → Bool
any t = true

pub Stops-any : (ts : List Item) → Stops any ts
Stops-any [] = tt
Stops-any (t ∷ ts) = refl

module _ (test : Item → Bool) (t0 : Item) (passes : test t0 ≡ true) (plain : is_plain t0 ≡ true) where
  one_full : (front : List Item) → front ≡ [] → Full (one test) any front
  one_full front e = record { more = t0 ∷ []; value = t0; spelled = rw plain refl; reads = λ tail h. rw (e, passes) refl }

  one_took : (t : Item) (ts : List Item) (b : Bool) → test t ≡ b → (v : Item) (rest : List Item) → cond b (ok t ts) (fault (t ∷ ts)) ≡ ok v rest → Took (one test) any (t ∷ ts) v rest × (test t ≡ true)
  one_took t ts true is v rest e =
      let left : ts ≡ rest = rest_is t v ts rest e in
      let value : t ≡ v = value_is t v ts rest e in
      (record { front = t ∷ []; parts = ap (λ (x : List Item). t ∷ x) left; same = λ u old more h. rw (is, value) refl; again = λ more h. rw (is, value) refl }, is)
  one_took t ts false is v rest e = absurd cc

  one_failed : (t : Item) (ts : List Item) (b : Bool) → test t ≡ b → (rest : List Item) → cond b (ok t ts) (fault (t ∷ ts)) ≡ fault rest → Failed (one test) any (t ∷ ts) rest
  one_failed t ts true is rest e = absurd cc
  one_failed t ts false is rest e =
      let same : t ∷ ts ≡ rest = cc in
      record { front = []; parts = same; again = λ u old more h. let is2 : test u ≡ false = (let x : t ≡ u = ap (λ (l : List Item). get_or l 0 t) (same ∙ h) in rw (← x) is) in rw is2 refl; live = one_full [] refl }

  one_took_any : (ts : List Item) (v : Item) (rest : List Item) → one test ts ≡ ok v rest → Took (one test) any ts v rest × Stops test ts
  one_took_any [] v rest e = absurd cc
  one_took_any (t ∷ ts) v rest e = one_took t ts (test t) refl v rest e

  one_failed_any : (ts rest : List Item) → one test ts ≡ fault rest → Failed (one test) any ts rest
  one_failed_any [] rest e = record { front = []; parts = cc; again = λ t old more h. absurd cc; live = one_full [] refl }
  one_failed_any (t ∷ ts) rest e = one_failed t ts (test t) refl rest e

  pub Laws-one : Laws (one test) test any
  Laws-one = record {
    took = λ ts v rest e. (one_took_any ts v rest e).0;
    failed = one_failed_any;
    full = one_full [] refl;
    begins = λ ts v rest e h. (one_took_any ts v rest e).1;
  }

-- ---- nothing

pub Laws-done : {A : Type 0} (x : A) (s : Item → Bool) → Laws (done x) s s
Laws-done {A = A} x s = record {
  took = λ ts v rest e. record { front = []; parts = rest_is x v ts rest e; same = λ t old more h. ap (λ (y : A). ok y (t ∷ more)) (value_is x v ts rest e); again = λ more h. ap (λ (y : A). ok y more) (value_is x v ts rest e) };
  failed = λ ts rest e. absurd cc;
  full = record { more = []; value = x; spelled = refl; reads = λ tail h. refl };
  begins = λ ts v rest e h. subst (λ (r : List Item). Stops s r) (sym (rest_is x v ts rest e)) h;
}

-- ---- one after the other

pub then_ok : {A B : Type 0} (r : Read A) (f : A → Reader B) (y : B × List Item) → then_read r f ≡ Ok y → (x : A × List Item) × (r ≡ ok x.0 x.1) × (f x.0 x.1 ≡ Ok y)
then_ok (Ok x) f y e = (x, refl, e)
then_ok (Err d) f y e = absurd cc

then_fault : {A B : Type 0} (r : Read A) (f : A → Reader B) (rest : List Item) → then_read r f ≡ Err rest → (r ≡ Err rest) ⊎ ((x : A × List Item) × (r ≡ ok x.0 x.1) × (f x.0 x.1 ≡ Err rest))
then_fault (Ok x) f rest e = inr (x, refl, e)
then_fault (Err d) f rest e = inl cc

module _ {A B : Type 0} (p : Reader A) (q : A → Reader B) (G : A → Type 0) (fp sp fq sq : Item → Bool) (good : (ts : List Item) (v : A) (rest : List Item) → p ts ≡ ok v rest → G v) (lp : Laws p fp sp) (lq : (v : A) → G v → Laws (q v) fq sq) (goes : Within fq sp) where
  before : (v : A) → G v → (ts : List Item) (x : B) (rest : List Item) → q v ts ≡ ok x rest → Stops sq rest → Stops sp ts
  before v g ts x rest e h = Stops-within fq sp ts goes ((lq v g).begins ts x rest e h)

  bind_took : (ts : List Item) (v : B) (rest : List Item) → (p >>= q) ts ≡ ok v rest → Took (p >>= q) sq ts v rest
  bind_took ts v rest e =
      let b = then_ok (p ts) q (v, rest) e in
      let P = lp.took ts b.0.0 b.0.1 b.1 in
      let g = good ts b.0.0 b.0.1 b.1 in
      let Q = (lq b.0.0 g).took b.0.1 v rest b.2 in
      record {
        front = P.front ++ Q.front;
        parts = P.parts ∙ ap (λ (x : List Item). P.front ++ x) Q.parts ∙ sym (append_assoc P.front Q.front rest);
        same = λ t old more h. rw (append_assoc P.front Q.front (t ∷ more), Took-same P Q.front t old more (Q.parts ∙ ap (λ (x : List Item). Q.front ++ x) h)) (Q.same t old more h);
        again = λ more h. rw (append_assoc P.front Q.front more, P.again (Q.front ++ more) (before b.0.0 g (Q.front ++ more) v more (Q.again more h) h)) (Q.again more h);
      }

  bind_full : (front : List Item) → Full p sp front → Full (p >>= q) sq front
  bind_full front L =
      let g = good (front ++ (L.more ++ [])) L.value [] (L.reads [] tt) in
      let F = (lq L.value g).full in
      record {
        more = L.more ++ F.more;
        value = F.value;
        spelled = rw (list_all-append is_plain L.more F.more, L.spelled, F.spelled) refl;
        reads = λ tail h. rw (append_assoc L.more F.more tail, L.reads (F.more ++ tail) (before L.value g (F.more ++ tail) F.value tail (F.reads tail h) h)) (F.reads tail h);
      }

  bind_failed_in : (ts rest : List Item) (b : (x : A × List Item) × (p ts ≡ ok x.0 x.1) × (q x.0 x.1 ≡ Err rest)) → Failed (p >>= q) sq ts rest
  bind_failed_in ts rest b =
      let P = lp.took ts b.0.0 b.0.1 b.1 in
      let g = good ts b.0.0 b.0.1 b.1 in
      let Q = (lq b.0.0 g).failed b.0.1 rest b.2 in
      let L = Q.live in
      record {
        front = P.front ++ Q.front;
        parts = P.parts ∙ ap (λ (x : List Item). P.front ++ x) Q.parts ∙ sym (append_assoc P.front Q.front rest);
        again = λ t old more h. rw (append_assoc P.front Q.front (t ∷ more), Took-same P Q.front t old more (Q.parts ∙ ap (λ (x : List Item). Q.front ++ x) h)) (Q.again t old more h);
        live = record {
          more = L.more;
          value = L.value;
          spelled = L.spelled;
          reads = λ tail h. rw (append_assoc P.front Q.front (L.more ++ tail), P.again (Q.front ++ (L.more ++ tail)) (before b.0.0 g (Q.front ++ (L.more ++ tail)) L.value tail (L.reads tail h) h)) (L.reads tail h);
        };
      }

  bind_failed : (ts rest : List Item) → (p >>= q) ts ≡ fault rest → Failed (p >>= q) sq ts rest
  bind_failed ts rest e =
      elim (then_fault (p ts) q rest e) [
        | inl h ↦ (let P = lp.failed ts rest h in
            record { front = P.front; parts = P.parts; again = λ t old more g. rw (P.again t old more g) refl; live = bind_full P.front P.live })
        | inr b ↦ bind_failed_in ts rest b
      ]

  pub Laws-bind_if : Laws (p >>= q) fp sq
  Laws-bind_if = record {
    took = bind_took;
    failed = bind_failed;
    full = bind_full [] lp.full;
    begins = λ ts v rest e h. let b = then_ok (p ts) q (v, rest) e in lp.begins ts b.0.0 b.0.1 b.1 (before b.0.0 (good ts b.0.0 b.0.1 b.1) b.0.1 v rest b.2 h);
  }

pub Laws-bind : {A B : Type 0} (p : Reader A) (q : A → Reader B) (fp sp fq sq : Item → Bool) (lp : Laws p fp sp) (lq : (v : A) → Laws (q v) fq sq) → Within fq sp → Laws (p >>= q) fp sq
Laws-bind p q fp sp fq sq lp lq goes = Laws-bind_if p q (λ v. Unit {0}) fp sp fq sq (λ ts v rest e. tt) lp (λ v g. lq v) goes

-- ---- one or the other, by the next item

pick : {A : Type 0} (test : Item → Bool) (p q : Reader A) (ts : List Item) (b : Bool) → next_is test ts ≡ b → when test p q ts ≡ cond b (p ts) (q ts)
pick test p q ts b h = rw h refl

pub next-yes : (test f : Item → Bool) (ts : List Item) → Within f test → (ts ≡ [] → ⊥) → Stops f ts → next_is test ts ≡ true
next-yes test f [] w h g = absurd (h refl)
next-yes test f (t ∷ ts) w h g = w t g

pub next-not : (test f : Item → Bool) (ts : List Item) → ((t : Item) → f t ≡ true → test t ≡ false) → Stops f ts → next_is test ts ≡ false
next-not test f [] w g = refl
next-not test f (t ∷ ts) w g = w t g

module _ {A : Type 0} (test : Item → Bool) (p q : Reader A) (fp fq f s : Item → Bool) (lp : Laws p fp s) (lq : Laws q fq s) (p_test : Within fp test) (q_test : (t : Item) → fq t ≡ true → test t ≡ false) (p_some : (v : A) (rest : List Item) → p [] ≡ ok v rest → ⊥) (p_f : Within fp f) (q_f : Within fq f) where
  pub goes_p : (ts : List Item) (v : A) (rest : List Item) → p ts ≡ ok v rest → Stops s rest → when test p q ts ≡ ok v rest
  goes_p ts v rest e h = pick test p q ts true (next-yes test fp ts p_test (λ g. p_some v rest (subst (λ (x : List Item). p x ≡ ok v rest) g e)) (lp.begins ts v rest e h)) ∙ e

  pub goes_q : (ts : List Item) (v : A) (rest : List Item) → q ts ≡ ok v rest → Stops s rest → when test p q ts ≡ ok v rest
  goes_q ts v rest e h = pick test p q ts false (next-not test fq ts q_test (lq.begins ts v rest e h)) ∙ e

  next_again : (b : Bool) (ts front rest : List Item) (t : Item) (old more : List Item) → next_is test ts ≡ b → ts ≡ front ++ rest → rest ≡ t ∷ old → next_is test (front ++ t ∷ more) ≡ b
  next_again b ts front rest t old more is parts h = sym (next-same test front t old more) ∙ ap (next_is test) (ap (λ (x : List Item). front ++ x) (sym h) ∙ sym parts) ∙ is

  when_took : (b : Bool) (ts : List Item) → next_is test ts ≡ b → (v : A) (rest : List Item) → cond b (p ts) (q ts) ≡ ok v rest → Took (when test p q) s ts v rest
  when_took true ts is v rest e =
      let P = lp.took ts v rest e in
      record { front = P.front; parts = P.parts; same = λ t old more h. pick test p q (P.front ++ t ∷ more) true (next_again true ts P.front rest t old more is P.parts h) ∙ P.same t old more h; again = λ more h. goes_p (P.front ++ more) v more (P.again more h) h }
  when_took false ts is v rest e =
      let P = lq.took ts v rest e in
      record { front = P.front; parts = P.parts; same = λ t old more h. pick test p q (P.front ++ t ∷ more) false (next_again false ts P.front rest t old more is P.parts h) ∙ P.same t old more h; again = λ more h. goes_q (P.front ++ more) v more (P.again more h) h }

  when_failed : (b : Bool) (ts : List Item) → next_is test ts ≡ b → (rest : List Item) → cond b (p ts) (q ts) ≡ fault rest → Failed (when test p q) s ts rest
  when_failed true ts is rest e =
      let P = lp.failed ts rest e in
      let L = P.live in
      record { front = P.front; parts = P.parts; again = λ t old more h. pick test p q (P.front ++ t ∷ more) true (next_again true ts P.front rest t old more is P.parts h) ∙ P.again t old more h; live = record { more = L.more; value = L.value; spelled = L.spelled; reads = λ tail h. goes_p (P.front ++ (L.more ++ tail)) L.value tail (L.reads tail h) h } }
  when_failed false ts is rest e =
      let P = lq.failed ts rest e in
      let L = P.live in
      record { front = P.front; parts = P.parts; again = λ t old more h. pick test p q (P.front ++ t ∷ more) false (next_again false ts P.front rest t old more is P.parts h) ∙ P.again t old more h; live = record { more = L.more; value = L.value; spelled = L.spelled; reads = λ tail h. goes_q (P.front ++ (L.more ++ tail)) L.value tail (L.reads tail h) h } }

  when_begins : (b : Bool) (ts : List Item) (v : A) (rest : List Item) → cond b (p ts) (q ts) ≡ ok v rest → Stops s rest → Stops f ts
  when_begins true ts v rest e h = Stops-within fp f ts p_f (lp.begins ts v rest e h)
  when_begins false ts v rest e h = Stops-within fq f ts q_f (lq.begins ts v rest e h)

  pub Laws-when : Laws (when test p q) f s
  Laws-when = record {
    took = λ ts v rest e. when_took (next_is test ts) ts refl v rest e;
    failed = λ ts rest e. when_failed (next_is test ts) ts refl rest e;
    full = (let F = lp.full in record { more = F.more; value = F.value; spelled = F.spelled; reads = λ tail h. goes_p (F.more ++ tail) F.value tail (F.reads tail h) h });
    begins = λ ts v rest e h. when_begins (next_is test ts) ts v rest e h;
  }

pub widen : {A : Type 0} {p : Reader A} {s : Item → Bool} (f g : Item → Bool) → Laws p f s → Within f g → Laws p g s
widen f g l w = record { took = l.took; failed = l.failed; full = l.full; begins = λ ts v rest e h. Stops-within f g ts w (l.begins ts v rest e h) }

-- before less

Took-narrow : {A : Type 0} {p : Reader A} (s r : Item → Bool) (ts : List Item) (v : A) (rest : List Item) → Within r s → Took p s ts v rest → Took p r ts v rest
Took-narrow s r ts v rest w T = record { front = T.front; parts = T.parts; same = T.same; again = λ more h. T.again more (Stops-within r s more w h) }

Full-narrow : {A : Type 0} {p : Reader A} (s r : Item → Bool) (front : List Item) → Within r s → Full p s front → Full p r front
Full-narrow s r front w F = record { more = F.more; value = F.value; spelled = F.spelled; reads = λ tail h. F.reads tail (Stops-within r s tail w h) }

pub narrow : {A : Type 0} {p : Reader A} {f : Item → Bool} (s r : Item → Bool) → Laws p f s → Within r s → Laws p f r
narrow s r l w = record {
  took = λ ts v rest e. Took-narrow s r ts v rest w (l.took ts v rest e);
  failed = λ ts rest e. (let F = l.failed ts rest e in record { front = F.front; parts = F.parts; again = F.again; live = Full-narrow s r F.front w F.live });
  full = Full-narrow s r [] w l.full;
  begins = λ ts v rest e h. l.begins ts v rest e (Stops-within r s rest w h);
}
