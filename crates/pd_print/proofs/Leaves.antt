-- Tokens are read one after the other, each as what was written.
use Rattle.std.proofs.Common.{◌≡◌, ℕ, ◌+◌, ◌-◌, ◌^◌, ◌<◌, ◌≤◌, Bool, true, false, cond, not, nat_le, ◌==◌, List, [], ◌∷◌, ◌++◌, length, refl, sym, ap, ◌∙◌, arith}
use Rattle.std.specs.Prelude.{⊤}
use Rattle.std.specs.List.{list_all}
use Rattle.std.specs.Str.{bytes_eq}
use Rattle.std.specs.Fmt.{decimal}
use Rattle.std.proofs.Math.Seq.{take-append_seam}
use Rattle.std.proofs.lemmas.List.{length-append}
use Rattle.std.proofs.lemmas.Bool.Decides.{nat_tests}
use Rattle.pd_text.specs.Text.{has_no_newline}
use Rattle.pd_lex.specs.declared.token.Place.{Place}
use Rattle.pd_lex.specs.declared.token.TokenKind.{TokenKind}
use Rattle.pd_lex.specs.declared.token.TokenKind.TheVariants.{Int, Word, Symbol}
use Rattle.pd_lex.specs.Octets.{is_digit, is_word}
use Rattle.pd_lex.specs.Pieces.{front, gap, token}
use Rattle.pd_lex.specs.Places.{octets_from, place_after, before}
use Rattle.pd_lex.specs.Scanned.{IsLeftAt, begins_name}
use Rattle.pd_lex.specs.Tokens.{Item, lexeme, line_of}
use Rattle.pd_lex.specs.Lexing.{items}
use Rattle.pd_lex.proofs.Items.{items_over_gap, items_at_token}
use Rattle.pd_lex.proofs.Rests.{advance}
use Rattle.pd_script.specs.Items.{is_next_int_within_u32, is_int_from, is_int_of, is_small, is_symbol, is_named, text_of}
use Rattle.pd_script.specs.Values.{number}
use Rattle.pd_script.specs.Spelling.{Spelling, one_of, IsInt}
use Rattle.pd_script.specs.PacketGrammar.{IsIntFrom, IsIntOf, IsNamed}
use Rattle.pd_script.proofs.Apart.{and-left, and-right, not-true}
use Rattle.pd_print.proofs.DigitLemmas.{decimal_written}
use Rattle.pd_print.proofs.Lexemes.{ends_word, ends_number, int_front, word_front, space_front}

-- octets without a newline lead on in their line
line_stays : (p : Place) (text : List ℕ) → has_no_newline text ≡ true → (place_after p text).line ≡ p.line
line_stays p [] h = refl
line_stays p (b ∷ s) h =
    let next : Place = record { line = p.line + 1; at = 0 } in
    let on : Place = record { line = p.line; at = p.at + 1 } in
    let inside : (b == 10) ≡ false = not-true (b == 10) (and-left (not (b == 10)) (has_no_newline s) h) in
    ap (λ (t : Bool). (place_after (cond t next on) s).line) inside ∙ line_stays on s (and-right (not (b == 10)) (has_no_newline s) h)

digit_inside : (b : ℕ) → is_digit b ≡ true → (b == 10) ≡ false
digit_inside b h = grind (arith, nat_tests)

pub digits_inside : (ds : List ℕ) → list_all is_digit ds ≡ true → has_no_newline ds ≡ true
digits_inside [] h = refl
digits_inside (b ∷ ds) h = rw (digit_inside b (and-left (is_digit b) (list_all is_digit ds) h), digits_inside ds (and-right (is_digit b) (list_all is_digit ds) h)) refl

word_inside : (b : ℕ) → is_word b ≡ true → (b == 10) ≡ false
word_inside b h = grind (arith, nat_tests)

pub words_inside : (w : List ℕ) → list_all is_word w ≡ true → has_no_newline w ≡ true
words_inside [] h = refl
words_inside (b ∷ w) h = rw (word_inside b (and-left (is_word b) (list_all is_word w) h), words_inside w (and-right (is_word b) (list_all is_word w) h)) refl

before-append : (text rest : List ℕ) → before (text ++ rest) rest ≡ text
before-append text rest =
    let n : length (text ++ rest) - length rest ≡ length text = omega (arith, length-append text rest) in
    rw n (take-append_seam text rest)

-- an item is at a place, and what is left after it is in the same line
pub record Passed (lines : List (List ℕ)) (p : Place) (t : Item) (rest : List ℕ) : Type 0 where
  pub to : Place
  pub line : to.line ≡ p.line
  pub left : IsLeftAt lines to rest
  pub items_are : items lines p ≡ t ∷ items lines to

-- a value is spelled from a place on, and what is left after it is in the same line
pub record ReadTo (lines : List (List ℕ)) (A : Type 0) (spelling : Spelling A) (v : A) (p : Place) (rest : List ℕ) : Type 0 where
  pub to : Place
  pub line : to.line ≡ p.line
  pub left : IsLeftAt lines to rest
  pub spelled : spelling v (items lines p) (items lines to)

-- a blank leads to a place with the same items
pub record Over (lines : List (List ℕ)) (p : Place) (rest : List ℕ) : Type 0 where
  pub to : Place
  pub line : to.line ≡ p.line
  pub left : IsLeftAt lines to rest
  pub same : items lines p ≡ items lines to

module _ (lines : List (List ℕ)) (plain : list_all has_no_newline lines ≡ true) where
  pub passed : (p : Place) (kind : TokenKind) (text rest : List ℕ) → IsLeftAt lines p (text ++ rest) → has_no_newline text ≡ true → front (text ++ rest) ≡ token kind rest → Passed lines p (lexeme (record { kind = kind; text = text; from = p })) rest
  passed p kind text rest h inside e =
      let on = advance lines plain p text rest h.place h.left in
      let here : front (octets_from lines p) ≡ token kind (octets_from lines (place_after p text)) = ap front h.left ∙ (e ∙ ap (token kind) (sym on.left)) in
      let same : before (octets_from lines p) (octets_from lines (place_after p text)) ≡ text = rw (h.left, on.left) (before-append text rest) in
      let at = items_at_token lines plain p (place_after p text) kind h.place on.place here in
      record { to = place_after p text; line = line_stays p text inside; left = on; items_are = at ∙ ap (λ (octets : List ℕ). lexeme (record { kind = kind; text = octets; from = p }) ∷ items lines (place_after p text)) same }

  pub over_space : (p : Place) (rest : List ℕ) → IsLeftAt lines p (32 ∷ rest) → Over lines p rest
  over_space p rest h =
      let on = advance lines plain p (32 ∷ []) rest h.place h.left in
      let here : front (octets_from lines p) ≡ gap (octets_from lines (place_after p (32 ∷ []))) = ap front h.left ∙ (space_front rest ∙ ap gap (sym on.left)) in
      record { to = place_after p (32 ∷ []); line = refl; left = on; same = items_over_gap lines plain p (place_after p (32 ∷ [])) h.place on.place here }

  -- what is spelled after a blank is spelled before it
  pub spaced : (A : Type 0) (spelling : Spelling A) (v : A) (p : Place) (after rest : List ℕ) (o : Over lines p after) → ReadTo lines A spelling v o.to rest → ReadTo lines A spelling v p rest
  spaced A spelling v p after rest o r = record { to = r.to; line = r.line ∙ o.line; left = r.left; spelled = rw o.same r.spelled }

  -- one token
  pub one_read : (A : Type 0) (test : Item → Bool) (value : Item → A) (v : A) (p : Place) (t : Item) (rest : List ℕ) → Passed lines p t rest → test t ≡ true → value t ≡ v → ReadTo lines A (one_of test value) v p rest
  one_read A test value v p t rest h passes is = record { to = h.to; line = h.line; left = h.left; spelled = (t, items lines h.to, (h.items_are, passes), (is, refl)) }

  -- a symbol
  pub symbol_passed : (b : ℕ) (p : Place) (rest : List ℕ) → IsLeftAt lines p (b ∷ rest) → (b == 10) ≡ false → front (b ∷ rest) ≡ token Symbol rest → Passed lines p (lexeme (record { kind = Symbol; text = b ∷ []; from = p })) rest
  symbol_passed b p rest h inside e = passed p Symbol (b ∷ []) rest h (rw inside refl) e

  pub symbol_read : (b : ℕ) (p : Place) (rest : List ℕ) → IsLeftAt lines p (b ∷ rest) → (b == 10) ≡ false → bytes_eq (b ∷ []) (b ∷ []) ≡ true → front (b ∷ rest) ≡ token Symbol rest → ReadTo lines ℕ (one_of (is_symbol b) line_of) p.line p rest
  symbol_read b p rest h inside same e = one_read ℕ (is_symbol b) line_of p.line p (lexeme (record { kind = Symbol; text = b ∷ []; from = p })) rest (symbol_passed b p rest h inside e) same refl

  -- a number
  int_passed : (n : ℕ) (p : Place) (rest : List ℕ) → n < 2 ^ 64 → ends_number rest ≡ true → IsLeftAt lines p (decimal n ++ rest) → Passed lines p (lexeme (record { kind = Int; text = decimal n; from = p })) rest
  int_passed n p rest small ends h =
      let w = decimal_written n small in
      passed p Int (decimal n) rest h (digits_inside (decimal n) w.digits) (int_front (decimal n) rest n w ends)

  small_is : (n : ℕ) → n ≤ 4294967295 → is_small n ≡ true
  small_is n h = grind (arith, nat_tests)

  from_is : (least n : ℕ) → least ≤ n → nat_le least n ≡ true
  from_is least n h = grind (arith, nat_tests)

  same_is : (n : ℕ) → (n == n) ≡ true
  same_is n = grind (arith, nat_tests)

  pub int_read : (n : ℕ) (p : Place) (rest : List ℕ) → n ≤ 4294967295 → ends_number rest ≡ true → IsLeftAt lines p (decimal n ++ rest) → ReadTo lines ℕ IsInt n p rest
  int_read n p rest small ends h =
      let w = decimal_written n (omega arith) in
      one_read ℕ is_next_int_within_u32 (λ t. number (text_of t)) n p (lexeme (record { kind = Int; text = decimal n; from = p })) rest (int_passed n p rest (omega arith) ends h) (rw w.value (small_is n small)) w.value

  pub int_from_read : (least n : ℕ) (p : Place) (rest : List ℕ) → least ≤ n → n ≤ 4294967295 → ends_number rest ≡ true → IsLeftAt lines p (decimal n ++ rest) → ReadTo lines ℕ (IsIntFrom least) n p rest
  int_from_read least n p rest order small ends h =
      let w = decimal_written n (omega arith) in
      one_read ℕ (is_int_from least) (λ t. number (text_of t)) n p (lexeme (record { kind = Int; text = decimal n; from = p })) rest (int_passed n p rest (omega arith) ends h) (rw (w.value, small_is n small, from_is least n order) refl) w.value

  pub int_of_read : (n : ℕ) (p : Place) (rest : List ℕ) → n ≤ 4294967295 → ends_number rest ≡ true → IsLeftAt lines p (decimal n ++ rest) → ReadTo lines ℕ (IsIntOf n) n p rest
  int_of_read n p rest small ends h =
      let w = decimal_written n (omega arith) in
      one_read ℕ (is_int_of n) (λ t. number (text_of t)) n p (lexeme (record { kind = Int; text = decimal n; from = p })) rest (int_passed n p rest (omega arith) ends h) (rw (w.value, small_is n small, same_is n) refl) w.value

  -- a word
  pub word_passed : (w : List ℕ) (p : Place) (rest : List ℕ) → begins_name w ≡ true → list_all is_word w ≡ true → ends_word rest ≡ true → IsLeftAt lines p (w ++ rest) → Passed lines p (lexeme (record { kind = Word; text = w; from = p })) rest
  word_passed w p rest begins all ends h = passed p Word w rest h (words_inside w all) (word_front w rest begins all ends)

  pub named_read : (w : List ℕ) (p : Place) (rest : List ℕ) → begins_name w ≡ true → list_all is_word w ≡ true → bytes_eq w w ≡ true → ends_word rest ≡ true → IsLeftAt lines p (w ++ rest) → ReadTo lines ⊤ (IsNamed w) tt p rest
  named_read w p rest begins all same ends h = one_read ⊤ (is_named w) (λ t. tt) tt p (lexeme (record { kind = Word; text = w; from = p })) rest (word_passed w p rest begins all ends h) same refl
