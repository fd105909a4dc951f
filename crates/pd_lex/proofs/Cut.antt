-- The items of a text are the ones that the longest piece at each place gives.
use Rattle.std.proofs.Common.{◌≡◌, ℕ, zero, suc, ◌<◌, ◌≤◌, List, [], ◌∷◌, length, take, max, Option, Some, refl, sym, ap, subst, ◌∙◌, arith}
use Rattle.std.proofs.Math.Seq.{take-append_seam, drop-append_seam}
use Rattle.std.specs.Prelude.{drop}
use Rattle.pd_lex.specs.declared.token.TokenKind.{TokenKind}
use Rattle.pd_lex.specs.declared.token.Place.{Place}
use Rattle.pd_lex.specs.Places.{first_place, joined, octets_from, place_after, before, IsPlace}
use Rattle.pd_lex.specs.Pieces.{Front, nothing, gap, token, stray, front}
use Rattle.pd_lex.specs.Spellings.{IsPiece, Fits, IsLongest}
use Rattle.pd_lex.specs.Tokens.{Item, lexeme, AreItems, at_end, after_gap, at_token, at_stuck, AreItemsOf}
use Rattle.pd_lex.specs.Lexing.{followed, items_within, items}
use Rattle.pd_lex.proofs.Bounds.{bound}
use Rattle.pd_lex.proofs.Fronts.{IsRest-shorter, LeavesRest, front_leaves}
use Rattle.pd_lex.proofs.Longest.{longest_gap, longest_token, stuck_at}
use Rattle.pd_lex.proofs.Order.{nothing_left}
use Rattle.pd_lex.proofs.Rests.{clamped_of_place}

-- ---- what the scanner gives

module _ (last : ℕ) where
  cut_by : (k : ℕ) (p : Place) (s : List ℕ) (f : Front) → front s ≡ f → ((q : Place) (r : List ℕ) → length r < length s → AreItems last q r (items_within k last q r)) → AreItems last p s (followed (items_within k last) last p s f)
  cut_by k p s nothing e ih = rw (nothing_left s e) at_end
  cut_by k p s (gap rest) e ih = after_gap (longest_gap s rest e) (ih (place_after p (before s rest)) rest (IsRest-shorter s rest (subst (LeavesRest s) e (front_leaves s))))
  cut_by k p s (token kind rest) e ih = at_token (longest_token s rest kind e) (ih (place_after p (before s rest)) rest (IsRest-shorter s rest (subst (LeavesRest s) e (front_leaves s))))
  cut_by k p s stray e ih = at_stuck (stuck_at s e)

  within_cut : (k : ℕ) (p : Place) (s : List ℕ) → length s ≤ k → AreItems last p s (items_within k last p s)
  unfolding items_within
  within_cut zero p [] le = at_end
  within_cut zero p (b ∷ s) le = absurd (omega arith)
  within_cut (suc k) p s le = cut_by k p s (front s) refl (λ q r lt. within_cut k q r (omega (arith, lt, le)))

first_is_place : (lines : List (List ℕ)) → IsPlace lines first_place
first_is_place lines = record { from_one = omega arith; within = omega arith; at = omega arith }

octets_of_all : (lines : List (List ℕ)) → octets_from lines first_place ≡ joined lines
unfolding octets_from
octets_of_all lines = rw (clamped_of_place lines first_place (first_is_place lines)) refl

pub items_cut : (lines : List (List ℕ)) → AreItemsOf lines (items lines first_place)
unfolding items
items_cut lines = rw (clamped_of_place lines first_place (first_is_place lines), octets_of_all lines) (within_cut (max 1 (length lines)) (length (joined lines)) first_place (joined lines) (omega arith))

-- ---- nothing else is cut so

nothing_fits : (kind : Option TokenKind) (text : List ℕ) → Fits [] kind text → ⊥
unfolding front
nothing_fits kind text fits = bound [] kind text fits

-- what is the longest piece, and what is left after it
record Same (kind other : Option TokenKind) (text words rest after : List ℕ) : Type 0 where
  kinds : kind ≡ other
  texts : text ≡ words
  rests : rest ≡ after

one_longest : (s text words rest after : List ℕ) (kind other : Option TokenKind) → IsLongest s kind text rest → IsLongest s other words after → Same kind other text words rest after
one_longest s text words rest after kind other h g =
    let n : length text ≡ length words = omega (arith, h.longest other words g.fits, g.longest kind text h.fits) in
    let t : text ≡ words = sym (take-append_seam text rest) ∙ ap (take (length text)) (sym h.cut ∙ g.cut) ∙ rw n (take-append_seam words after) in
    let r : rest ≡ after = sym (drop-append_seam text rest) ∙ ap (drop (length text)) (sym h.cut ∙ g.cut) ∙ rw n (drop-append_seam words after) in
    record { kinds = g.only kind (subst (λ (x : List ℕ). IsPiece kind x) t h.fits.spelled); texts = t; rests = r }

same_kind : (a b : TokenKind) → ◌≡◌ {A = Option TokenKind} (Some a) (Some b) → a ≡ b
same_kind a b is = cc

same_token : (kind other : TokenKind) (text words : List ℕ) (p : Place) (more others : List Item) → ◌≡◌ {A = Option TokenKind} (Some kind) (Some other) → text ≡ words → more ≡ others → ◌≡◌ {A = List Item} (lexeme (record { kind = kind; text = text; from = p }) ∷ more) (lexeme (record { kind = other; text = words; from = p }) ∷ others)
same_token kind other text words p more others k t m = rw (same_kind kind other k, t, m) refl

pub one_cut : {last : ℕ} {p : Place} {s : List ℕ} {xs ys : List Item} → AreItems last p s xs → AreItems last p s ys → xs ≡ ys
one_cut at_end at_end = refl
one_cut at_end (after_gap cut more) = absurd (nothing_fits _ _ cut.fits)
one_cut at_end (at_token cut more) = absurd (nothing_fits _ _ cut.fits)
one_cut at_end (at_stuck stuck) = absurd (omega (arith, stuck.some))
one_cut (after_gap cut more) at_end = absurd (nothing_fits _ _ cut.fits)
one_cut (at_token cut more) at_end = absurd (nothing_fits _ _ cut.fits)
one_cut (at_stuck stuck) at_end = absurd (omega (arith, stuck.some))
one_cut (at_stuck stuck) (at_stuck other) = refl
one_cut (at_stuck stuck) (after_gap cut more) = absurd (stuck.none _ _ cut.fits)
one_cut (at_stuck stuck) (at_token cut more) = absurd (stuck.none _ _ cut.fits)
one_cut (after_gap cut more) (at_stuck stuck) = absurd (stuck.none _ _ cut.fits)
one_cut (at_token cut more) (at_stuck stuck) = absurd (stuck.none _ _ cut.fits)
one_cut (after_gap cut more) (after_gap other others) =
    let S = one_longest _ _ _ _ _ _ _ cut other in
    one_cut more (rw (S.texts, S.rests) others)
one_cut (at_token cut more) (at_token other others) =
    let S = one_longest _ _ _ _ _ _ _ cut other in
    same_token _ _ _ _ _ _ _ S.kinds S.texts (one_cut more (rw (S.texts, S.rests) others))
one_cut (after_gap cut more) (at_token other others) = absurd (let S = one_longest _ _ _ _ _ _ _ cut other in let e = S.kinds in cc)
one_cut (at_token cut more) (after_gap other others) = absurd (let S = one_longest _ _ _ _ _ _ _ cut other in let e = S.kinds in cc)
