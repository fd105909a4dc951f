-- Symbols outside of brackets, token by token.
use Rattle.std.proofs.Common.{◌≡◌, ◌≢◌, ◌∙◌, ℕ, zero, suc, ◌+◌, ◌-◌, ◌≤◌, ◌==◌, ◌&&◌, Bool, true, false, List, [], ◌∷◌, ◌++◌, length, drop, max, Option, Some, None, is_some, if◌then◌else◌, refl, sym, ap, arith, length-drop, length-append}
use Rattle.std.proofs.lemmas.Bool.Decides.{nat_tests}
use Rattle.std.proofs.lemmas.List.Sums.{sum_by-cons}
use Rattle.pd_text.specs.Text.{FitsText, octets_of}
use Rattle.pd_lex.specs.declared.token.Place.{Place}
use Rattle.pd_lex.specs.declared.token.Token.{Token}
use Rattle.pd_lex.specs.declared.token.Lexed.{Lexed}
use Rattle.pd_lex.specs.declared.token.Lexed.TheVariants as lexed
use Rattle.pd_lex.specs.Kinds.{stays_in_line}
use Rattle.pd_lex.specs.Lexing.{followed, items_within, items, lexeme_of, IsNext}
use Rattle.pd_lex.specs.Pieces.{Front, nothing, gap, token, stray, front}
use Rattle.pd_lex.specs.Places.{clamped_place, octets_from, joined, place_after, before, between}
use Rattle.pd_lex.specs.Tokens.{Item, lexeme}
use Rattle.pd_script.specs.Brackets.{bracket_opened_by, is_closing_bracket}
use Rattle.pd_script.specs.Cursor.{left, shown}
use Rattle.pd_script.specs.Items.{is_symbol}
use Rattle.pd_script.specs.Next.{place_of}
use Rattle.pd_script.proofs.Taking.{alike}
use Rattle.pd_layout.specs.Canonical.{depth_after_token, first_outside}

-- ---- one item

pub goes_past : (test : Item → Bool) (depth : ℕ) (t : Item) (ts : List Item) → (test t && depth_after_token depth t == 0) ≡ false → first_outside test depth (t ∷ ts) ≡ first_outside test (depth_after_token depth t) ts
goes_past test depth t ts none = rw none refl

pub stops_at : (test : Item → Bool) (depth : ℕ) (t : Item) (ts : List Item) → (test t && depth_after_token depth t == 0) ≡ true → first_outside test depth (t ∷ ts) ≡ Some (place_of t)
stops_at test depth t ts found = rw found refl

none_of : (found : Bool) → (found && false) ≡ false
none_of true = refl
none_of false = refl

pub in_brackets : (found : Bool) (now : ℕ) → now ≢ 0 → (found && now == 0) ≡ false
in_brackets found now h =
    let more : (now == 0) ≡ false = grind (arith, nat_tests) in
    rw more (none_of found)

-- a token opens one bracket at most
one_more : (depth : ℕ) (t : Item) → depth_after_token depth t ≤ depth + 1
one_more depth t = by (is_some (bracket_opened_by t)) (is_closing_bracket t)
  where
    by : (opens closes : Bool) → (if opens then depth + 1 else (if closes then depth - 1 else depth)) ≤ depth + 1
    by true closes = omega arith
    by false true = omega arith
    by false false = omega arith

-- ---- a token as the lexer answers it

module _ (lines : List (List ℕ)) (t : Token) (h : stays_in_line t.kind ≡ true → t.text.now ≡ (lexeme_of lines t).text) where
  symbol_alike : (octet : ℕ) → is_symbol octet (lexeme (lexeme_of lines t)) ≡ is_symbol octet (shown t)
  unfolding lexeme_of
  symbol_alike octet = alike (λ (i : Item). is_symbol octet i) t.kind (between lines t.from t.to) t.text.now t.from (λ stays. sym (h stays)) refl refl refl

  depth_alike : (depth : ℕ) → depth_after_token depth (lexeme (lexeme_of lines t)) ≡ depth_after_token depth (shown t)
  unfolding lexeme_of
  depth_alike depth = alike (λ (i : Item). depth_after_token depth i) t.kind (between lines t.from t.to) t.text.now t.from (λ stays. sym (h stays)) refl refl refl

  module _ (octet depth now : ℕ) (is : now ≡ depth_after_token depth (shown t)) where
    tested : (b : Bool) → (is_symbol octet (shown t) && now == 0) ≡ b → (is_symbol octet (lexeme (lexeme_of lines t)) && depth_after_token depth (lexeme (lexeme_of lines t)) == 0) ≡ b
    tested b e = rw (symbol_alike octet, depth_alike depth, ← is) e

    pub goes_on : (is_symbol octet (shown t) && now == 0) ≡ false → first_outside (is_symbol octet) depth (left lines (lexed.Token t)) ≡ first_outside (is_symbol octet) now (items lines t.to)
    goes_on none =
        goes_past (is_symbol octet) depth (lexeme (lexeme_of lines t)) (items lines t.to) (tested false none)
        ∙ ap (λ (k : ℕ). first_outside (is_symbol octet) k (items lines t.to)) (depth_alike depth ∙ sym is)

    pub finds : (is_symbol octet (shown t) && now == 0) ≡ true → first_outside (is_symbol octet) depth (left lines (lexed.Token t)) ≡ Some t.from
    unfolding lexeme_of
    finds found =
        stops_at (is_symbol octet) depth (lexeme (lexeme_of lines t)) (items lines t.to) (tested true found)

    -- one item fewer is left, and one bracket more may be open
    pub fewer : now + length (items lines t.to) ≤ depth + length (left lines (lexed.Token t))
    fewer = omega (arith, is, one_more depth (shown t))

-- what the lexer answered is what is left
pub what_is_left : (lines : List (List ℕ)) (p : Place) (next : Lexed) → IsNext lines p next → items lines p ≡ left lines next
what_is_left lines p (lexed.Token t) next = next
what_is_left lines p lexed.End next = next
what_is_left lines p (lexed.Bad line) next = next

-- ---- a text has few items

by_front : (n last : ℕ) (p : Place) (s : List ℕ) → ((q : Place) (rest : List ℕ) → length (items_within n last q rest) ≤ n + 1) → (f : Front) → length (followed (items_within n last) last p s f) ≤ suc n + 1
by_front n last p s less nothing = omega arith
by_front n last p s less (gap rest) = omega (arith, less (place_after p (before s rest)) rest)
by_front n last p s less (token kind rest) = omega (arith, less (place_after p (before s rest)) rest)
by_front n last p s less stray = omega arith

within_few : (n last : ℕ) (p : Place) (s : List ℕ) → length (items_within n last p s) ≤ n + 1
unfolding items_within
within_few zero last p s = omega arith
within_few (suc n) last p s = by_front n last p s (λ q rest. within_few n last q rest) (front s)

joined_is : (lines : List (List ℕ)) → length (joined lines) ≡ octets_of lines
joined_is [] = refl
joined_is (line ∷ lines) =
    let one : length (joined (line ∷ lines)) ≡ length line + (length (joined lines) + 1) = length-append line (10 ∷ joined lines) ∙ ap (λ (n : ℕ). length line + n) (omega arith) in
    let other : octets_of (line ∷ lines) ≡ (length line + 1) + octets_of lines = sum_by-cons (λ (l : List ℕ). length l + 1) line lines in
    omega (arith, one, other, joined_is lines)

joined_less : (n : ℕ) (lines : List (List ℕ)) → length (joined (drop n lines)) ≤ octets_of lines
joined_less zero lines = omega (arith, joined_is lines)
joined_less (suc n) [] = omega arith
joined_less (suc n) (line ∷ lines) =
    let less : length (joined (drop (suc n) (line ∷ lines))) ≤ octets_of lines = joined_less n lines in
    let other : octets_of (line ∷ lines) ≡ (length line + 1) + octets_of lines = sum_by-cons (λ (l : List ℕ). length l + 1) line lines in
    omega (arith, less, other)

pub few_items : (lines : List (List ℕ)) (p : Place) → FitsText lines → length (items lines p) ≤ 65537
unfolding items octets_from
few_items lines p fits =
    let q : Place = clamped_place lines p in
    omega
    (arith, fits.1, joined_less (q.line - 1) lines, length-drop q.at (joined (drop (q.line - 1) lines)), within_few (length (octets_from lines p)) (max 1 (length lines)) q (octets_from lines p))
