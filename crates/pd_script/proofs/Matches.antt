-- A reader of a spelling keeps its law: it reads exactly the items that are spelled so.
use Rattle.std.proofs.Common.{◌≡◌, Bool, true, false, cond, List, [], ◌∷◌, ◌++◌, Err, refl, sym, ap, ◌∙◌, inl, inr, append_assoc}
use Rattle.std.specs.Prelude.{◌||◌}
use Rattle.std.specs.List.{list_all}
use Rattle.std.proofs.lemmas.List.Folds.{list_all-append}
use Rattle.pd_lex.specs.declared.token.TokenKind.{TokenKind}
use Rattle.pd_lex.specs.Tokens.{Item}
use Rattle.pd_script.proofs.Plain.{is_plain}
use Rattle.pd_script.specs.Reader.{Reader, ◌>>=◌, done, one, when}
use Rattle.pd_script.specs.Spelling.{Spelling, token, made, in_turn, either}
use Rattle.pd_script.proofs.Apart.{IsOf, is_lexeme, lexical, or-left, or-right}
use Rattle.pd_script.proofs.Laws.{Laws, Laws-one, Laws-done, Laws-bind_if, Laws-when, goes_p, goes_q, Stops, Stops-within, Within, any, then_ok, ok, widen, narrow, value_is, rest_is}
use Rattle.pd_script.specs.Items.{next_is}

-- what is spelled takes tokens alone
abbrev pub Takes : {A : Type 0} → Spelling A → Type 0
Takes {A = A} P = (ts : List Item) (v : A) (rest : List Item) → P v ts rest → (front : List Item) × (ts ≡ front ++ rest) × (list_all is_lexeme front ≡ true)

pub record Reads {A : Type 0} (p : Reader A) (P : Spelling A) (f s : Item → Bool) : Type 0 where
  pub laws : Laws p f s
  pub sound : (ts : List Item) (v : A) (rest : List Item) → p ts ≡ ok v rest → P v ts rest
  pub complete : (ts : List Item) (v : A) (rest : List Item) → P v ts rest → Stops s rest → p ts ≡ ok v rest
  pub takes : Takes P

-- ---- one token

one_sound : (test : Item → Bool) (ts : List Item) (v : Item) (rest : List Item) → one test ts ≡ ok v rest → token test v ts rest
one_sound test [] v rest e = absurd cc
one_sound test (t ∷ ts) v rest e = by_test (test t) refl e
  where
    by_test : (b : Bool) → test t ≡ b → cond b (ok t ts) (Err (t ∷ ts)) ≡ ok v rest → token test v (t ∷ ts) rest
    by_test true is e = let same : t ≡ v = value_is t v ts rest e in let left : ts ≡ rest = rest_is t v ts rest e in (cc, ap test (sym same) ∙ is)
    by_test false is e = absurd cc

pub Reads-one : (f : TokenKind → Bool) (test : Item → Bool) (t : Item) → IsOf f test → test t ≡ true → is_plain t ≡ true → Reads (one test) (token test) test any
Reads-one f test t kind passes plain = record {
  laws = Laws-one test t passes plain;
  sound = one_sound test;
  complete = λ ts v rest h stops. rw (h.0, h.1) refl;
  takes = λ ts v rest h. (v ∷ [], h.0, rw (lexical f test kind v h.1) refl);
}

-- ---- a value without a token

pub Reads-done : {A : Type 0} (x : A) (s : Item → Bool) → Reads (done x) (made x) s s
Reads-done x s = record {
  laws = Laws-done x s;
  sound = λ ts v rest e. (value_is x v ts rest e, rest_is x v ts rest e);
  complete = λ ts v rest h stops. rw (h.0, h.1) refl;
  takes = λ ts v rest h. ([], h.1, refl);
}

-- ---- one after the other

module _ {A B : Type 0} (p : Reader A) (q : A → Reader B) (P : Spelling A) (Q : A → Spelling B) (G : A → Type 0) (fp sp fq sq : Item → Bool) (good : (ts : List Item) (v : A) (rest : List Item) → P v ts rest → G v) (rp : Reads p P fp sp) (rq : (v : A) → G v → Reads (q v) (Q v) fq sq) (goes : Within fq sp) where
  bind_sound : (ts : List Item) (v : B) (rest : List Item) → (p >>= q) ts ≡ ok v rest → in_turn P Q v ts rest
  bind_sound ts v rest e =
      let b = then_ok (p ts) q (v, rest) e in
      let first = rp.sound ts b.0.0 b.0.1 b.1 in
      (b.0.0, b.0.1, first, (rq b.0.0 (good ts b.0.0 b.0.1 first)).sound b.0.1 v rest b.2)

  bind_complete : (ts : List Item) (v : B) (rest : List Item) → in_turn P Q v ts rest → Stops sq rest → (p >>= q) ts ≡ ok v rest
  bind_complete ts v rest h stops =
      let r = rq h.0 (good ts h.0 h.1 h.2) in
      let second : q h.0 h.1 ≡ ok v rest = r.complete h.1 v rest h.3 stops in
      let first : p ts ≡ ok h.0 h.1 = rp.complete ts h.0 h.1 h.2 (Stops-within fq sp h.1 goes (r.laws.begins h.1 v rest second stops)) in
      rw first second

  bind_takes : Takes (in_turn P Q)
  bind_takes ts v rest h =
      let first = rp.takes ts h.0 h.1 h.2 in
      let second = (rq h.0 (good ts h.0 h.1 h.2)).takes h.1 v rest h.3 in
      (first.0 ++ second.0, first.1 ∙ ap (λ (x : List Item). first.0 ++ x) second.1 ∙ sym (append_assoc first.0 second.0 rest), rw (list_all-append is_lexeme first.0 second.0, first.2, second.2) refl)

  pub Reads-bind_if : Reads (p >>= q) (in_turn P Q) fp sq
  Reads-bind_if = record {
    laws = Laws-bind_if p q G fp sp fq sq (λ ts v rest e. good ts v rest (rp.sound ts v rest e)) rp.laws (λ v g. (rq v g).laws) goes;
    sound = bind_sound;
    complete = bind_complete;
    takes = bind_takes;
  }

pub Reads-bind : {A B : Type 0} (p : Reader A) (q : A → Reader B) (P : Spelling A) (Q : A → Spelling B) (fp sp fq sq : Item → Bool) → Reads p P fp sp → ((v : A) → Reads (q v) (Q v) fq sq) → Within fq sp → Reads (p >>= q) (in_turn P Q) fp sq
Reads-bind p q P Q fp sp fq sq rp rq goes = Reads-bind_if p q P Q (λ v. Unit {0}) fp sp fq sq (λ ts v rest h. tt) rp (λ v g. rq v) goes

-- ---- one or the other, by the next token

module _ {A : Type 0} (test : Item → Bool) (p q : Reader A) (P Q : Spelling A) (fp fq f s : Item → Bool) (rp : Reads p P fp s) (rq : Reads q Q fq s) (p_test : Within fp test) (q_test : (t : Item) → fq t ≡ true → test t ≡ false) (p_some : (v : A) (rest : List Item) → p [] ≡ ok v rest → ⊥) (p_f : Within fp f) (q_f : Within fq f) where
  when_sound : (b : Bool) (ts : List Item) → (v : A) (rest : List Item) → cond b (p ts) (q ts) ≡ ok v rest → either P Q v ts rest
  when_sound true ts v rest e = inl (rp.sound ts v rest e)
  when_sound false ts v rest e = inr (rq.sound ts v rest e)

  when_complete : (ts : List Item) (v : A) (rest : List Item) → either P Q v ts rest → Stops s rest → when test p q ts ≡ ok v rest
  when_complete ts v rest (inl h) stops = goes_p test p q fp fq f s rp.laws rq.laws p_test q_test p_some p_f q_f ts v rest (rp.complete ts v rest h stops) stops
  when_complete ts v rest (inr h) stops = goes_q test p q fp fq f s rp.laws rq.laws p_test q_test p_some p_f q_f ts v rest (rq.complete ts v rest h stops) stops

  when_takes : Takes (either P Q)
  when_takes ts v rest (inl h) = rp.takes ts v rest h
  when_takes ts v rest (inr h) = rq.takes ts v rest h

  pub Reads-when : Reads (when test p q) (either P Q) f s
  Reads-when = record {
    laws = Laws-when test p q fp fq f s rp.laws rq.laws p_test q_test p_some p_f q_f;
    sound = λ ts v rest e. when_sound (next_is test ts) ts v rest e;
    complete = when_complete;
    takes = when_takes;
  }

pub Reads-widen : {A : Type 0} {p : Reader A} {P : Spelling A} {s : Item → Bool} (f g : Item → Bool) → Reads p P f s → Within f g → Reads p P g s
Reads-widen f g r w = record { laws = widen f g r.laws w; sound = r.sound; complete = r.complete; takes = r.takes }

pub Reads-narrow : {A : Type 0} {p : Reader A} {P : Spelling A} {f : Item → Bool} (s r : Item → Bool) → Reads p P f s → Within r s → Reads p P f r
Reads-narrow s r l w = record { laws = narrow s r l.laws w; sound = l.sound; complete = λ ts v rest h stops. l.complete ts v rest h (Stops-within r s rest w stops); takes = l.takes }

-- a part that may be left out before certain items
pub Reads-optional : {A : Type 0} (test s : Item → Bool) (p : Reader A) (P : Spelling A) (v : A) → Reads p P test s → ((t : Item) → s t ≡ true → test t ≡ false) → ((w : A) (rest : List Item) → p [] ≡ ok w rest → ⊥) → Reads (when test p (done v)) (either P (made v)) (λ t. test t || s t) s
Reads-optional test s p P v r other some = Reads-when test p (done v) P (made v) test s (λ t. test t || s t) s r (Reads-done v s) (λ t h. h) other some (λ t h. or-left (test t) (s t) h) (λ t h. or-right (test t) (s t) h)

-- of spellings that mean the same
pub Reads-same : {A : Type 0} {p : Reader A} {P : Spelling A} {f s : Item → Bool} (Q : Spelling A) → Reads p P f s → ((v : A) (ts rest : List Item) → P v ts rest → Q v ts rest) → ((v : A) (ts rest : List Item) → Q v ts rest → P v ts rest) → Reads p Q f s
Reads-same Q r to from = record {
  laws = r.laws;
  sound = λ ts v rest e. to v ts rest (r.sound ts v rest e);
  complete = λ ts v rest h stops. r.complete ts v rest (from v ts rest h) stops;
  takes = λ ts v rest h. r.takes ts v rest (from v ts rest h);
}
