-- Facts that are added one after the other.
use Rattle.std.proofs.Common.{◌≡◌, ◌+◌, ◌<◌, ℕ, List, [], ◌∷◌, ◌++◌, get_or, length, map, take, Option, refl, sym, ap, subst, ◌∙◌, append_assoc, append-nil}
use Rattle.std.proofs.lemmas.List.{map-append, take_more}
use Rattle.std.proofs.lemmas.List.Concat.{flat_map-append}
use Rattle.pd_explain.specs.declared.render.facts.Fact.{Fact}
use Rattle.pd_explain.specs.Inner.{AddsFacts, AddsNumbers, AddsTexts, BeginsWith, fact_texts, key_and_number, texts_of_fact}
use Rattle.pd_explain.proofs.BlockLemmas.{then_texts}

-- any
pub any_facts : (old more new : List Fact) → new ≡ old ++ more → AddsFacts [] old new
any_facts old more new e = record { more = more; begins = (fact_texts more, refl); added = e }

-- with just these texts
pub whole_facts : (first : List (List ℕ)) (old more new : List Fact) → fact_texts more ≡ first → new ≡ old ++ more → AddsFacts first old new
whole_facts first old more new t e = record { more = more; begins = ([], t ∙ sym (append-nil first)); added = e }

-- none
pub no_facts : (old : List Fact) → AddsFacts [] old old
no_facts old = record { more = []; begins = ([], refl); added = sym (append-nil old) }

texts_more : (first : List (List ℕ)) (xs ys : List Fact) → BeginsWith first (fact_texts xs) → BeginsWith first (fact_texts (xs ++ ys))
texts_more first xs ys h =
    (h.0 ++ fact_texts ys, flat_map-append _ xs ys ∙ (ap (λ (l : List (List ℕ)). l ++ fact_texts ys) h.1 ∙ append_assoc first h.0 (fact_texts ys)))

-- some, and then some more
pub then_facts : (first : List (List ℕ)) (old mid new : List Fact) → AddsFacts first old mid → AddsFacts [] mid new → AddsFacts first old new
then_facts first old mid new a b =
    record { more = a.more ++ b.more; begins = texts_more first a.more b.more a.begins; added = b.added ∙ (ap (λ (l : List Fact). l ++ b.more) a.added ∙ append_assoc old a.more b.more) }

-- all of them
pub all_facts : (first : List (List ℕ)) (new : List Fact) → AddsFacts first [] new → BeginsWith first (fact_texts new)
all_facts first new a = (a.begins.0, ap fact_texts a.added ∙ a.begins.1)

-- the lines of the facts so far, and then that of the next one
pub next_fact : (facts : List Fact) (i : ℕ) (d : Fact) (old mid new : List ℕ) → i < length facts → AddsTexts (fact_texts (take i facts)) old mid → AddsTexts (texts_of_fact (get_or facts i d)) mid new → AddsTexts (fact_texts (take (i + 1) facts)) old new
next_fact facts i d old mid new h a b =
    let one : fact_texts (get_or facts i d ∷ []) ≡ texts_of_fact (get_or facts i d) = append-nil (texts_of_fact (get_or facts i d)) in
    let all = ap fact_texts (take_more facts i d h) ∙ (flat_map-append texts_of_fact (take i facts) (get_or facts i d ∷ []) ∙ ap (λ (l : List (List ℕ)). fact_texts (take i facts) ++ l) one) in
    subst (λ (texts : List (List ℕ)). AddsTexts texts old new) (sym all) (then_texts (fact_texts (take i facts)) (texts_of_fact (get_or facts i d)) old mid new a b)

-- no number
pub no_numbers : (old : List Fact) → AddsNumbers [] old old
no_numbers old = record { more = []; are = refl; added = sym (append-nil old) }

-- just these
pub whole_numbers : (numbers : List (List ℕ × Option ℕ)) (old more new : List Fact) → map key_and_number more ≡ numbers → new ≡ old ++ more → AddsNumbers numbers old new
whole_numbers numbers old more new n e = record { more = more; are = n; added = e }

-- some, and then some more
pub then_numbers : (first rest : List (List ℕ × Option ℕ)) (old mid new : List Fact) → AddsNumbers first old mid → AddsNumbers rest mid new → AddsNumbers (first ++ rest) old new
then_numbers first rest old mid new a b = record {
  more = a.more ++ b.more;
  are = map-append key_and_number a.more b.more ∙ (ap (λ (l : List (List ℕ × Option ℕ)). l ++ map key_and_number b.more) a.are ∙ ap (λ (l : List (List ℕ × Option ℕ)). first ++ l) b.are);
  added = b.added ∙ (ap (λ (l : List Fact). l ++ b.more) a.added ∙ append_assoc old a.more b.more);
}
