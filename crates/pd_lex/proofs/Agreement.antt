-- Texts that are equal in their first lines have the same tokens there.
use Rattle.std.proofs.Common.{◌≡◌, ℕ, zero, suc, ◌-◌, ◌<◌, ◌≤◌, Bool, true, false, cond, ◌==◌, List, [], ◌∷◌, ◌++◌, length, take, drop, min, max, Option, Some, None, refl, sym, ap, subst, ◌∙◌, arith, length-append, append_assoc, ◌⊎◌, inl, inr}
use Rattle.std.specs.List.{list_all}
use Rattle.std.proofs.lemmas.List.{drop-append-le, length-drop, append_cancel_right, get_or_append_left, nil_from_length, take-append-drop, length-take-le}
use Rattle.std.proofs.lemmas.Bool.Decides.{nat_tests}
use Rattle.pd_text.specs.Text.{has_no_newline}
use Rattle.pd_lex.specs.declared.token.Place.{Place}
use Rattle.pd_lex.specs.declared.scan.Piece.{Piece}
use Rattle.pd_lex.specs.declared.scan.Piece.TheVariants.{Blank, Whole, Open, Stray}
use Rattle.pd_lex.specs.declared.scan.Opener.{Opener}
use Rattle.pd_lex.specs.declared.scan.Opener.TheVariants.{Comment, Quote, Backquote, Brace}
use Rattle.pd_lex.specs.Places.{first_place, joined, line_at, clamped_place, octets_from, place_after, before, IsPlace}
use Rattle.pd_lex.specs.Pieces.{piece, rest_after_closing, opener_len, Front, nothing, gap, token, stray, closed, parted, front}
use Rattle.pd_lex.specs.Tokens.{Item, lexeme, ending, bad}
use Rattle.pd_lex.specs.Lexing.{items}
use Rattle.pd_lex.specs.Scanned.{piece_len}
use Rattle.pd_lex.specs.Agreement.{IsInOrder, AgreeTo}
use Rattle.pd_lex.proofs.InLine.{piece_in_line}
use Rattle.pd_lex.proofs.Endings.{end_in_line, end_past_line, end_suffix}
use Rattle.pd_lex.proofs.Items.{items_from, items_past, items_at_end, items_at_stray}
use Rattle.pd_lex.proofs.Texts.{clamped_is_place}
use Rattle.pd_lex.proofs.Spelled.{before_is}
use Rattle.pd_lex.proofs.Rests.{octets_in_line}
use Rattle.pd_lex.proofs.Fronts.{piece_within, IsRest, IsRest-cut, IsRest-shorter}
use Rattle.pd_lex.proofs.Order.{by_line, left_after, gap_rest, token_rest, items_after_gap, items_after_token, nothing_left, items_rise, clamped_rises}

-- the front of a text that goes on after a newline: the piece ends before it, whatever follows, or after it
abbrev pub GoesOn : List ℕ → List ℕ → Front → Front → Type 0
GoesOn x y nothing f = Unit {0}
GoesOn x y (gap rest) f = (length rest ≤ length x) ⊎ ((r : List ℕ) × (rest ≡ r ++ 10 ∷ x) × (f ≡ gap (r ++ 10 ∷ y)))
GoesOn x y (token kind rest) f = (length rest ≤ length x) ⊎ ((r : List ℕ) × (rest ≡ r ++ 10 ∷ x) × (f ≡ token kind (r ++ 10 ∷ y)))
GoesOn x y stray f = Unit {0}

open_goes_on : (x y : List ℕ) (o : Opener) (r s : Option (List ℕ)) → ((rest : List ℕ) → r ≡ Some rest → (length rest ≤ length x) ⊎ ((q : List ℕ) × (rest ≡ q ++ 10 ∷ x) × (s ≡ Some (q ++ 10 ∷ y)))) → GoesOn x y (closed o r) (closed o s)
open_goes_on x y o None s h = tt
open_goes_on x y o (Some rest) s h = either o (h rest refl)
  where
    either : (o : Opener) → ((length rest ≤ length x) ⊎ ((q : List ℕ) × (rest ≡ q ++ 10 ∷ x) × (s ≡ Some (q ++ 10 ∷ y)))) → GoesOn x y (closed o (Some rest)) (closed o s)
    either Comment (inl le) = inl le
    either Quote (inl le) = inl le
    either Backquote (inl le) = inl le
    either Brace (inl le) = inl le
    either Comment (inr (q, e, f)) = inr (q, e, rw f refl)
    either Quote (inr (q, e, f)) = inr (q, e, rw f refl)
    either Backquote (inr (q, e, f)) = inr (q, e, rw f refl)
    either Brace (inr (q, e, f)) = inr (q, e, rw f refl)

end_goes_on : (x y : List ℕ) (o : Opener) (c : List ℕ) (r : Option (List ℕ)) → rest_after_closing o c ≡ r → (rest : List ℕ) → rest_after_closing o (c ++ 10 ∷ x) ≡ Some rest → (length rest ≤ length x) ⊎ ((q : List ℕ) × (rest ≡ q ++ 10 ∷ x) × (rest_after_closing o (c ++ 10 ∷ y) ≡ Some (q ++ 10 ∷ y)))
end_goes_on x y o c None e rest h =
    let last = end_suffix o x rest (sym (end_past_line o c x e) ∙ h) in
    inl (omega (arith, last.1, ap length last.2, length-drop last.0 x))
end_goes_on x y o c (Some q) e rest h = inr (q, same_some (sym h ∙ end_in_line o c x q e), end_in_line o c y q e)
  where
    same_some : {a b : List ℕ} → ◌≡◌ {A = Option (List ℕ)} (Some a) (Some b) → a ≡ b
    same_some e = cc

piece_goes_on : (x y s : List ℕ) (p : Piece) → piece_len p ≤ length s → GoesOn x y (parted (s ++ 10 ∷ x) p) (parted (s ++ 10 ∷ y) p)
piece_goes_on x y s (Blank n) le = inr (drop n s, drop-append-le n s (10 ∷ x) le, ap gap (drop-append-le n s (10 ∷ y) le))
piece_goes_on x y s (Whole kind n) le = inr (drop n s, drop-append-le n s (10 ∷ x) le, ap (token kind) (drop-append-le n s (10 ∷ y) le))
piece_goes_on x y s (Open o) le =
    open_goes_on x y o (rest_after_closing o (drop (opener_len o) (s ++ 10 ∷ x))) (rest_after_closing o (drop (opener_len o) (s ++ 10 ∷ y)))
    (rw (drop-append-le (opener_len o) s (10 ∷ x) le, drop-append-le (opener_len o) s (10 ∷ y) le) (end_goes_on x y o (drop (opener_len o) s) (rest_after_closing o (drop (opener_len o) s)) refl))
piece_goes_on x y s Stray le = tt

front_goes_on : (x y c : List ℕ) → GoesOn x y (front (c ++ 10 ∷ x)) (front (c ++ 10 ∷ y))
unfolding front piece
front_goes_on x y [] = inl (omega arith)
front_goes_on x y (b ∷ c) =
    let w = piece_within b c in
    rw (piece_in_line b c x, piece_in_line b c y) (piece_goes_on x y (b ∷ c) (piece (b ∷ c)) w.fits)

-- long after the first lines nothing is claimed
far : (same n last : ℕ) (xs others : List Item) → same < n → IsInOrder n last xs → AgreeTo same xs others
far same n last [] others lt h = tt
far same n last (lexeme x ∷ xs) others lt h = λ le. absurd (omega (arith, h.0, h.2))
far same n last (ending line ∷ xs) others lt h = tt
far same n last (bad line ∷ xs) others lt h = tt

-- a text in two parts
joined-append : (xs ys : List (List ℕ)) → joined (xs ++ ys) ≡ joined xs ++ joined ys
joined-append [] ys = refl
joined-append (l ∷ xs) ys = rw (joined-append xs ys) (sym (append_assoc l (10 ∷ joined xs) (joined ys)))

joined_end : (s : List ℕ) (lines : List (List ℕ)) → (c : List ℕ) × (s ++ 10 ∷ joined lines ≡ c ++ 10 ∷ [])
joined_end s [] = (s, refl)
joined_end s (l ∷ lines) =
    let more = joined_end (s ++ 10 ∷ l) lines in
    (more.0, sym (append_assoc s (10 ∷ l) (10 ∷ joined lines)) ∙ more.1)

line_in_front : (xs ys : List (List ℕ)) (n : ℕ) → 1 ≤ n → n ≤ length xs → line_at (xs ++ ys) n ≡ line_at xs n
line_in_front xs ys n one le = get_or_append_left xs ys [] (n - 1) (omega arith)

place_in_front : (xs ys : List (List ℕ)) (p : Place) → IsPlace (xs ++ ys) p → p.line ≤ length xs → IsPlace xs p
place_in_front xs ys p h le = record { from_one = h.from_one; within = omega arith; at = rw (line_in_front xs ys p.line h.from_one le) at h.at }

place_in_whole : (xs ys : List (List ℕ)) (p : Place) → IsPlace xs p → p.line ≤ length xs → IsPlace (xs ++ ys) p
place_in_whole xs ys p h le = record { from_one = h.from_one; within = omega (arith, length-append xs ys); at = rw (line_in_front xs ys p.line h.from_one le) h.at }

octets_in_front : (xs ys : List (List ℕ)) (p : Place) → IsPlace xs p → p.line ≤ length xs → octets_from (xs ++ ys) p ≡ octets_from xs p ++ joined ys
octets_in_front xs ys p h le =
    let all = octets_in_line (xs ++ ys) p (place_in_whole xs ys p h le) (omega (arith, length-append xs ys)) in
    let s = drop p.at (line_at xs p.line) in
    all ∙ rw (line_in_front xs ys p.line h.from_one le, drop-append-le p.line xs ys le, joined-append (drop p.line xs) ys, octets_in_line xs p h le) (sym (append_assoc s (10 ∷ joined (drop p.line xs)) (joined ys)))

front_end : (xs : List (List ℕ)) (p : Place) → IsPlace xs p → p.line ≤ length xs → (c : List ℕ) × (octets_from xs p ≡ c ++ 10 ∷ [])
front_end xs p h le =
    let e = joined_end (drop p.at (line_at xs p.line)) (drop p.line xs) in
    (e.0, octets_in_line xs p h le ∙ e.1)

octets_then : (xs ys : List (List ℕ)) (p : Place) → IsPlace xs p → p.line ≤ length xs → (c : List ℕ) → octets_from xs p ≡ c ++ 10 ∷ [] → octets_from (xs ++ ys) p ≡ c ++ 10 ∷ joined ys
octets_then xs ys p h le c e = octets_in_front xs ys p h le ∙ rw e (append_assoc c (10 ∷ []) (joined ys))

-- two texts with the same first lines
module _ (cs xs ys : List (List ℕ)) (plain_x : list_all has_no_newline (cs ++ xs) ≡ true) (plain_y : list_all has_no_newline (cs ++ ys) ≡ true) where
  cut_same : (c text r : List ℕ) → c ++ 10 ∷ joined xs ≡ text ++ (r ++ 10 ∷ joined xs) → c ≡ text ++ r
  cut_same c text r e = append_cancel_right c (text ++ r) (10 ∷ joined xs) (e ∙ sym (append_assoc text r (10 ∷ joined xs)))

  some_left : (q : Place) (rest : List ℕ) → IsPlace cs q → q.line ≤ length cs → octets_from (cs ++ xs) q ≡ rest → length rest ≤ length (joined xs) → ⊥
  some_left q rest h le left short =
      let e = front_end cs q h le in
      let s = octets_then cs xs q h le e.0 e.1 in
      omega (arith, ap length s, ap length left, length-append e.0 (10 ∷ joined xs))

  -- a piece that ends in the first lines ends at the same place in both
  same_after : (p : Place) (rest : List ℕ) (A : List ℕ → Type 0) → IsPlace cs p → p.line ≤ length cs → IsRest (octets_from (cs ++ xs) p) rest → (place_after p (before (octets_from (cs ++ xs) p) rest)).line ≤ length cs → ((length rest ≤ length (joined xs)) ⊎ ((r : List ℕ) × (rest ≡ r ++ 10 ∷ joined xs) × A (r ++ 10 ∷ joined ys))) → (other : List ℕ) × A other × (before (octets_from (cs ++ ys) p) other ≡ before (octets_from (cs ++ xs) p) rest)
  same_after p rest A h le left near (inl short) =
      let q = left_after (cs ++ xs) plain_x p (place_in_whole cs xs p h le) rest left in
      absurd (some_left (place_after p (before (octets_from (cs ++ xs) p) rest)) rest (place_in_front cs xs (place_after p (before (octets_from (cs ++ xs) p) rest)) q.place near) near q.left short)
  same_after p rest A h le left near (inr (r, is, a)) =
      let e = front_end cs p h le in
      let sx = octets_then cs xs p h le e.0 e.1 in
      let sy = octets_then cs ys p h le e.0 e.1 in
      let text = before (octets_from (cs ++ xs) p) rest in
      let cut : octets_from (cs ++ xs) p ≡ text ++ rest = IsRest-cut (octets_from (cs ++ xs) p) rest left in
      let c : e.0 ≡ text ++ r = cut_same e.0 text r (sym sx ∙ cut ∙ ap (λ (l : List ℕ). text ++ l) is) in
      let there : octets_from (cs ++ ys) p ≡ text ++ (r ++ 10 ∷ joined ys) = sy ∙ ap (λ (l : List ℕ). l ++ 10 ∷ joined ys) c ∙ append_assoc text r (10 ∷ joined ys) in
      (r ++ 10 ∷ joined ys, a, before_is (octets_from (cs ++ ys) p) text (r ++ 10 ∷ joined ys) there)

  goes_on : (p : Place) → IsPlace cs p → p.line ≤ length cs → (f : Front) → front (octets_from (cs ++ xs) p) ≡ f → GoesOn (joined xs) (joined ys) f (front (octets_from (cs ++ ys) p))
  goes_on p h le f is =
      let e = front_end cs p h le in
      let sx = octets_then cs xs p h le e.0 e.1 in
      let sy = octets_then cs ys p h le e.0 e.1 in
      let g = front_goes_on (joined xs) (joined ys) e.0 in
      let g2 : GoesOn (joined xs) (joined ys) (front (octets_from (cs ++ xs) p)) (front (octets_from (cs ++ ys) p)) = rw (sx, sy) g in
      subst (λ (x : Front). GoesOn (joined xs) (joined ys) x (front (octets_from (cs ++ ys) p))) is g2

  agree_by : (k : ℕ) (p : Place) → IsPlace cs p → p.line ≤ length cs → length (octets_from (cs ++ xs) p) ≤ suc k → ((q : Place) → IsPlace cs q → q.line ≤ length cs → length (octets_from (cs ++ xs) q) ≤ k → AgreeTo (length cs) (items (cs ++ xs) q) (items (cs ++ ys) q)) → (f : Front) → front (octets_from (cs ++ xs) p) ≡ f → AgreeTo (length cs) (items (cs ++ xs) p) (items (cs ++ ys) p)
  agree_by k p h le short ih nothing e = rw (items_at_end (cs ++ xs) plain_x p (place_in_whole cs xs p h le) (nothing_left (octets_from (cs ++ xs) p) e)) tt
  agree_by k p h le short ih (gap rest) e =
      let hx = place_in_whole cs xs p h le in
      let hy = place_in_whole cs ys p h le in
      let r = gap_rest (cs ++ xs) plain_x p hx rest e in
      let less = IsRest-shorter (octets_from (cs ++ xs) p) rest r in
      let q = left_after (cs ++ xs) plain_x p hx rest r in
      let there = place_after p (before (octets_from (cs ++ xs) p) rest) in
      let is = items_after_gap (cs ++ xs) plain_x p hx rest e in
      let near : there.line ≤ length cs → AgreeTo (length cs) (items (cs ++ xs) there) (items (cs ++ ys) p) = λ near.
      let b = same_after p rest (λ (o : List ℕ). front (octets_from (cs ++ ys) p) ≡ gap o) h le r near (goes_on p h le (gap rest) e) in
      let other = items_after_gap (cs ++ ys) plain_y p hy b.0 b.1 in
      rw (other, b.2) (ih there (place_in_front cs xs there q.place near) near (omega (arith, ap length q.left)))
      in
      let beyond : length cs < there.line → AgreeTo (length cs) (items (cs ++ xs) there) (items (cs ++ ys) p) = λ lt. far (length cs) there.line (max 1 (length (cs ++ xs))) (items (cs ++ xs) there) (items (cs ++ ys) p) lt (items_rise (cs ++ xs) plain_x there q.place) in
      rw is (by_line (length cs) there.line (AgreeTo (length cs) (items (cs ++ xs) there) (items (cs ++ ys) p)) beyond near)
  agree_by k p h le short ih (token kind rest) e =
      let hx = place_in_whole cs xs p h le in
      let hy = place_in_whole cs ys p h le in
      let r = token_rest (cs ++ xs) plain_x p hx rest kind e in
      let less = IsRest-shorter (octets_from (cs ++ xs) p) rest r in
      let q = left_after (cs ++ xs) plain_x p hx rest r in
      let there = place_after p (before (octets_from (cs ++ xs) p) rest) in
      let is = items_after_token (cs ++ xs) plain_x p hx rest kind e in
      rw is (λ near.
      let b = same_after p rest (λ (o : List ℕ). front (octets_from (cs ++ ys) p) ≡ token kind o) h le r near (goes_on p h le (token kind rest) e) in
      let other = items_after_token (cs ++ ys) plain_y p hy b.0 kind b.1 in
      (items (cs ++ ys) there, other ∙ rw b.2 refl, ih there (place_in_front cs xs there q.place near) near (omega (arith, ap length q.left))))
  agree_by k p h le short ih stray e = rw (items_at_stray (cs ++ xs) plain_x p (place_in_whole cs xs p h le) e) tt

  agree_within : (k : ℕ) (p : Place) → IsPlace cs p → p.line ≤ length cs → length (octets_from (cs ++ xs) p) ≤ k → AgreeTo (length cs) (items (cs ++ xs) p) (items (cs ++ ys) p)
  agree_within zero p h le short = rw (items_at_end (cs ++ xs) plain_x p (place_in_whole cs xs p h le) (nil_from_length (octets_from (cs ++ xs) p) (omega arith))) tt
  agree_within (suc k) p h le short = agree_by k p h le short (agree_within k) (front (octets_from (cs ++ xs) p)) refl

  -- any place
  clamped_same : (p : Place) → p.line ≤ length cs → clamped_place (cs ++ xs) p ≡ clamped_place (cs ++ ys) p
  unfolding clamped_place
  clamped_same p le = by_test (p.line == 0) refl
    where
      is_positive : (n : ℕ) → (n == 0) ≡ false → 1 ≤ n
      is_positive n h = grind (arith, nat_tests)

      by_test : (t : Bool) → (p.line == 0) ≡ t → cond t first_place (record { line = p.line; at = min p.at (length (line_at (cs ++ xs) p.line)) }) ≡ cond t first_place (record { line = p.line; at = min p.at (length (line_at (cs ++ ys) p.line)) })
      by_test true e = refl
      by_test false e = rw (line_in_front cs xs p.line (is_positive p.line e) le, line_in_front cs ys p.line (is_positive p.line e) le) refl

  agree_from : (p : Place) → AgreeTo (length cs) (items (cs ++ xs) p) (items (cs ++ ys) p)
  agree_from p = by_line (length (cs ++ xs)) p.line (AgreeTo (length cs) (items (cs ++ xs) p) (items (cs ++ ys) p)) past within
    where
      past : length (cs ++ xs) < p.line → AgreeTo (length cs) (items (cs ++ xs) p) (items (cs ++ ys) p)
      past lt = rw (items_past (cs ++ xs) plain_x p lt) tt

      within : p.line ≤ length (cs ++ xs) → AgreeTo (length cs) (items (cs ++ xs) p) (items (cs ++ ys) p)
      within le =
          let q = clamped_place (cs ++ xs) p in
          let h : IsPlace (cs ++ xs) q = clamped_is_place (cs ++ xs) p le in
          let is = items_from (cs ++ xs) p q h refl in
          let beyond : length cs < q.line → AgreeTo (length cs) (items (cs ++ xs) q) (items (cs ++ ys) p) = λ lt. far (length cs) q.line (max 1 (length (cs ++ xs))) (items (cs ++ xs) q) (items (cs ++ ys) p) lt (items_rise (cs ++ xs) plain_x q h) in
          let near : q.line ≤ length cs → AgreeTo (length cs) (items (cs ++ xs) q) (items (cs ++ ys) p) = λ close.
          let front = place_in_front cs xs q h close in
          let same = clamped_same p (omega (arith, clamped_rises (cs ++ xs) p)) in
          let other = items_from (cs ++ ys) p q (place_in_whole cs ys q front close) same in
          rw other (agree_within (length (octets_from (cs ++ xs) q)) q front close (omega arith))
          in
          rw is (by_line (length cs) q.line (AgreeTo (length cs) (items (cs ++ xs) q) (items (cs ++ ys) p)) beyond near)

pub agree : (lines others : List (List ℕ)) (same : ℕ) (p : Place) → list_all has_no_newline lines ≡ true → list_all has_no_newline others ≡ true → same ≤ length lines → take same lines ≡ take same others → AgreeTo same (items lines p) (items others p)
agree lines others same p plain_x plain_y le e =
    let cs = take same lines in
    let wx : cs ++ drop same lines ≡ lines = take-append-drop same lines in
    let wy : cs ++ drop same others ≡ others = ap (λ (l : List (List ℕ)). l ++ drop same others) e ∙ take-append-drop same others in
    let n = length-take-le same lines le in
    let a = agree_from cs (drop same lines) (drop same others) (rw wx plain_x) (rw wy plain_y) p in
    rw (n, wx, wy) at a
