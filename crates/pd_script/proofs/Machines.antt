-- The law of a machine: it needs no item after its last, and where it is stuck it could have gone on.
use Rattle.std.proofs.Common.{◌≡◌, List, [], ◌∷◌, ◌++◌, get_or, Ok, Err, refl, ap, ◌∙◌}
use Rattle.pd_lex.specs.Tokens.{Item}
use Rattle.pd_script.specs.Reader.{Read, Reader, Move, stuck, ends, goes, onto, moved, machine_at}
use Rattle.pd_script.proofs.Laws.{Laws, Took, Failed, Full, ok, fault, any, value_is, rest_is, Stops-any}

pub onto_ok : {A : Type 0} (front : List A) (r : Read (List A)) (v : List A) (rest : List Item) → onto front r ≡ ok v rest → (w : List A) × (r ≡ ok w rest) × (front ++ w ≡ v)
onto_ok {A = A} front (Ok x) v rest e =
    (x.0, ap (λ (y : List Item). ok x.0 y) (rest_is (front ++ x.0) v x.1 rest e), value_is (front ++ x.0) v x.1 rest e)
onto_ok front (Err f) v rest e = absurd cc

onto_fault : {A : Type 0} (front : List A) (r : Read (List A)) (rest : List Item) → onto front r ≡ fault rest → r ≡ fault rest
onto_fault front (Ok x) rest e = absurd cc
onto_fault front (Err f) rest e = cc

module _ {S A : Type 0} (move : S → Item → Move S A) where
  abbrev at_state : S → Reader (List A)
  at_state s = machine_at move s

  took_by : (t : Item) (ts : List Item) (s : S) (m : Move S A) → move s t ≡ m → (v : List A) (rest : List Item) → moved (λ j. machine_at move j ts) t ts m ≡ ok v rest → ((j : S) (w : List A) → machine_at move j ts ≡ ok w rest → Took (machine_at move j) any ts w rest) → Took (machine_at move s) any (t ∷ ts) v rest
  unfolding machine_at
  took_by t ts s stuck is v rest e ih = absurd cc
  took_by t ts s (ends last) is v rest e ih =
      let left : ts ≡ rest = rest_is last v ts rest e in
      let value : last ≡ v = value_is last v ts rest e in
      record { front = t ∷ []; parts = ap (λ (x : List Item). t ∷ x) left; same = λ u old more h. rw (is, value) refl; again = λ more h. rw (is, value) refl }
  took_by t ts s (goes j values) is v rest e ih =
      let O = onto_ok values (machine_at move j ts) v rest e in
      let T = ih j O.0 O.1 in
      record { front = t ∷ T.front; parts = ap (λ (x : List Item). t ∷ x) T.parts; same = λ u old more h. rw (is, T.same u old more h, O.2) refl; again = λ more h. rw (is, T.again more h, O.2) refl }

  took_at : (ts : List Item) (s : S) (v : List A) (rest : List Item) → machine_at move s ts ≡ ok v rest → Took (machine_at move s) any ts v rest
  unfolding machine_at
  took_at [] s v rest e = absurd cc
  took_at (t ∷ ts) s v rest e = took_by t ts s (move s t) refl v rest e (λ j w h. took_at ts j w rest h)

  module _ (full : (s : S) → Full (machine_at move s) any []) where
    failed_by : (t : Item) (ts : List Item) (s : S) (m : Move S A) → move s t ≡ m → (rest : List Item) → moved (λ j. machine_at move j ts) t ts m ≡ fault rest → ((j : S) → machine_at move j ts ≡ fault rest → Failed (machine_at move j) any ts rest) → Failed (machine_at move s) any (t ∷ ts) rest
    unfolding machine_at
    failed_by t ts s stuck is rest e ih =
        let left : t ∷ ts ≡ rest = cc in
        record { front = []; parts = left; again = λ u old more h. (let x : t ≡ u = ap (λ (l : List Item). get_or l 0 t) (left ∙ h) in rw (← x, is) refl); live = full s }
    failed_by t ts s (ends last) is rest e ih = absurd cc
    failed_by t ts s (goes j values) is rest e ih =
        let T = ih j (onto_fault values (machine_at move j ts) rest e) in
        let L = T.live in
        record { front = t ∷ T.front; parts = ap (λ (x : List Item). t ∷ x) T.parts; again = λ u old more h. rw (is, T.again u old more h) refl; live = record { more = L.more; value = values ++ L.value; spelled = L.spelled; reads = λ tail h. rw (is, L.reads tail h) refl } }

    failed_at : (ts : List Item) (s : S) (rest : List Item) → machine_at move s ts ≡ fault rest → Failed (machine_at move s) any ts rest
    unfolding machine_at
    failed_at [] s rest e = record { front = []; parts = cc; again = λ t old more h. absurd cc; live = full s }
    failed_at (t ∷ ts) s rest e = failed_by t ts s (move s t) refl rest e (λ j h. failed_at ts j rest h)

    pub Laws-machine : (s : S) → Laws (machine_at move s) any any
    Laws-machine s = record {
      took = λ ts v rest e. took_at ts s v rest e;
      failed = λ ts rest e. failed_at ts s rest e;
      full = full s;
      begins = λ ts v rest e h. Stops-any ts;
    }
