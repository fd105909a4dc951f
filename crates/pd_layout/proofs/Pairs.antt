-- The grammar of pairs of brackets, in terms of how many are open.
use Rattle.std.proofs.Common.{◌≡◌, ◌≢◌, ◌∙◌, ℕ, ◌+◌, ◌-◌, ◌==◌, ◌&&◌, ◌||◌, Bool, true, false, List, [], ◌∷◌, ◌++◌, length, Option, Some, None, if◌then◌else◌, nat_lt, refl, sym, ap, arith}
use Rattle.pd_lex.specs.Tokens.{Item, lexeme, ending, bad}
use Rattle.pd_script.specs.Arguments.{Balances, IsArgument, IsSomeArguments, IsArguments, IsNote}
use Rattle.pd_script.specs.Brackets.{bracket_opened_by, is_closing_bracket, closing_octet, closed, paired, pairs_after}
use Rattle.pd_script.specs.Items.{is_symbol, is_symbol_kind, is_word, is_word_kind}
use Rattle.pd_script.specs.Next.{place_of}
use Rattle.pd_script.specs.declared.brackets.Bracket.{Bracket}
use Rattle.pd_script.specs.declared.calls.Argument.{Argument}
use Rattle.pd_script.proofs.Apart.{apart, or-left, symbol_apart, symbol_kind, word_kind}
use Rattle.pd_layout.specs.Canonical.{depth_after_token, first_outside}
use Rattle.pd_layout.specs.Grammatical.{EqualsSignsAreOutside, NotesEndOutside}
use Rattle.pd_layout.proofs.Tokens.{goes_past, stops_at, in_brackets}

-- ---- one pair more or fewer

opens_pair : (most : ℕ) (pairs next : List Bracket) (t : Item) (b : Bracket) (room : Bool) → bracket_opened_by t ≡ Some b → nat_lt (length pairs) most ≡ room → paired most pairs t (Some b) ≡ Some next → depth_after_token (length pairs + 1) t ≡ length next + 1
opens_pair most pairs next t b true is room e =
    let got : Some (b ∷ pairs) ≡ Some next = rw room at e in
    let same : b ∷ pairs ≡ next = cc in
    rw is (omega (arith, ap length same))
opens_pair most pairs next t b false is room e = let got : None ≡ Some next = rw room at e in absurd cc

closes_one : (b : Bracket) (pairs next : List Bracket) (t : Item) (fits : Bool) → bracket_opened_by t ≡ None → is_closing_bracket t ≡ true → is_symbol (closing_octet b) t ≡ fits → closed (b ∷ pairs) t ≡ Some next → depth_after_token (length (b ∷ pairs) + 1) t ≡ length next + 1
closes_one b pairs next t true is closes fits e =
    let got : Some pairs ≡ Some next = rw fits at e in
    let same : pairs ≡ next = cc in
    rw (is, closes) (omega (arith, ap length same))
closes_one b pairs next t false is closes fits e = let got : None ≡ Some next = rw fits at e in absurd cc

closes_pair : (pairs next : List Bracket) (t : Item) (closing : Bool) → bracket_opened_by t ≡ None → is_closing_bracket t ≡ closing → (if closing then closed pairs t else Some pairs) ≡ Some next → depth_after_token (length pairs + 1) t ≡ length next + 1
closes_pair pairs next t false is closes e =
    let same : pairs ≡ next = cc in
    rw (is, closes) (omega (arith, ap length same))
closes_pair [] next t true is closes e = absurd cc
closes_pair (b ∷ pairs) next t true is closes e = closes_one b pairs next t (is_symbol (closing_octet b) t) is closes refl e

pairs_by : (most : ℕ) (pairs next : List Bracket) (t : Item) (o : Option Bracket) → bracket_opened_by t ≡ o → paired most pairs t o ≡ Some next → depth_after_token (length pairs + 1) t ≡ length next + 1
pairs_by most pairs next t (Some b) is e = opens_pair most pairs next t b (nat_lt (length pairs) most) is refl e
pairs_by most pairs next t None is e = closes_pair pairs next t (is_closing_bracket t) is refl e

within_pairs : (most : ℕ) (pairs next : List Bracket) (t : Item) → pairs_after most pairs t ≡ Some next → depth_after_token (length pairs + 1) t ≡ length next + 1
within_pairs most pairs next (lexeme x) e = pairs_by most pairs next (lexeme x) (bracket_opened_by (lexeme x)) refl e
within_pairs most pairs next (ending line) e = absurd cc
within_pairs most pairs next (bad line) e = absurd cc

-- ---- brackets that are balanced

passes : (test : Item → Bool) (parts : List Bracket → Item → Bool) (most : ℕ) (pairs : List Bracket) (ts rest : List Item) → Balances parts most pairs ts → first_outside test (length pairs + 1) (ts ++ rest) ≡ first_outside test 1 rest
passes test parts most pairs [] rest b = ap (λ (p : List Bracket). first_outside test (length p + 1) rest) b
passes test parts most pairs (t ∷ ts) rest b =
    let deeper : depth_after_token (length pairs + 1) t ≡ length b.1 + 1 = within_pairs most pairs b.1 t b.2 in
    goes_past test (length pairs + 1) t (ts ++ rest) (rw deeper (in_brackets (test t) (length b.1 + 1) (λ z. omega (arith, z))))
    ∙ ap (λ (k : ℕ). first_outside test k (ts ++ rest)) deeper
    ∙ passes test parts most b.1 ts rest b.3

-- ---- single items

plain : (t : Item) → is_symbol 40 t ≡ false → is_symbol 91 t ≡ false → is_symbol 123 t ≡ false → bracket_opened_by t ≡ None
plain t round square curly = rw (round, square, curly) refl

no_closing : (t : Item) → is_symbol 41 t ≡ false → is_symbol 93 t ≡ false → is_symbol 125 t ≡ false → is_closing_bracket t ≡ false
no_closing t round square curly = rw (round, square, curly) refl

no_bracket : (depth : ℕ) (t : Item) → bracket_opened_by t ≡ None → is_closing_bracket t ≡ false → depth_after_token depth t ≡ depth
no_bracket depth t opens closes = rw (opens, closes) refl

equals_depth : (depth : ℕ) (t : Item) → is_symbol 61 t ≡ true → depth_after_token depth t ≡ depth
equals_depth depth t h =
    no_bracket depth t
    (plain t (symbol_apart 61 40 refl t h) (symbol_apart 61 91 refl t h) (symbol_apart 61 123 refl t h))
    (no_closing t (symbol_apart 61 41 refl t h) (symbol_apart 61 93 refl t h) (symbol_apart 61 125 refl t h))

comma_depth : (depth : ℕ) (t : Item) → is_symbol 44 t ≡ true → depth_after_token depth t ≡ depth
comma_depth depth t h =
    no_bracket depth t
    (plain t (symbol_apart 44 40 refl t h) (symbol_apart 44 91 refl t h) (symbol_apart 44 123 refl t h))
    (no_closing t (symbol_apart 44 41 refl t h) (symbol_apart 44 93 refl t h) (symbol_apart 44 125 refl t h))

no_symbol_of : (octet : ℕ) (t : Item) → is_word t ≡ true → is_symbol octet t ≡ false
no_symbol_of octet t h = apart is_word_kind is_symbol_kind is_word (is_symbol octet) refl word_kind (symbol_kind octet) t h

word_depth : (depth : ℕ) (t : Item) → is_word t ≡ true → depth_after_token depth t ≡ depth
word_depth depth t h =
    no_bracket depth t
    (plain t (no_symbol_of 40 t h) (no_symbol_of 91 t h) (no_symbol_of 123 t h))
    (no_closing t (no_symbol_of 41 t h) (no_symbol_of 93 t h) (no_symbol_of 125 t h))

opening_depth : (t : Item) → is_symbol 40 t ≡ true → depth_after_token 0 t ≡ 1
opening_depth t h = rw h refl

closing_depth : (t : Item) → is_symbol 41 t ≡ true → depth_after_token 1 t ≡ 0
closing_depth t h =
    let opens : bracket_opened_by t ≡ None = plain t (symbol_apart 41 40 refl t h) (symbol_apart 41 91 refl t h) (symbol_apart 41 123 refl t h) in
    rw (opens, h) refl

-- an item that doesn't pass
over : (octet depth now : ℕ) (t : Item) (ts : List Item) → is_symbol octet t ≡ false → depth_after_token depth t ≡ now → first_outside (is_symbol octet) depth (t ∷ ts) ≡ first_outside (is_symbol octet) now ts
over octet depth now t ts other is = goes_past (is_symbol octet) depth t ts (rw other refl) ∙ ap (λ (k : ℕ). first_outside (is_symbol octet) k ts) is

at_last : (octet depth : ℕ) (t : Item) (ts : List Item) → is_symbol octet t ≡ true → depth_after_token depth t ≡ 0 → first_outside (is_symbol octet) depth (t ∷ ts) ≡ Some (place_of t)
at_last octet depth t ts found is = stops_at (is_symbol octet) depth t ts (rw (found, is) refl)

-- ---- the equals sign of a call

module _ (equals : Item) (rest : List Item) (sign_is : is_symbol 61 equals ≡ true) where
  after_last : (c : Item) → is_symbol 41 c ≡ true → first_outside (is_symbol 61) 1 (c ∷ equals ∷ rest) ≡ Some (place_of equals)
  after_last c h = over 61 1 0 c (equals ∷ rest) (symbol_apart 41 61 refl c h) (closing_depth c h) ∙ at_last 61 0 equals rest sign_is (equals_depth 0 equals sign_is)

  after_argument : (a : Argument) (ts more : List Item) → IsArgument a ts more → first_outside (is_symbol 61) 1 ts ≡ first_outside (is_symbol 61) 1 more
  after_argument a ts more h =
      ap (λ (l : List Item). first_outside (is_symbol 61) 1 l) h.spelled
      ∙ passes (is_symbol 61) _ 16 [] (h.first ∷ h.others) more h.balanced

  after_some : (list : List Argument) (ts : List Item) → IsSomeArguments list ts (equals ∷ rest) → first_outside (is_symbol 61) 1 ts ≡ Some (place_of equals)
  after_some [] ts h = absurd h
  after_some (a ∷ []) ts h = after_argument a ts (h.0 ∷ equals ∷ rest) h.1 ∙ after_last h.0 h.2
  after_some (a ∷ b ∷ more) ts h =
      after_argument a ts (h.0 ∷ h.1) h.2
      ∙ over 61 1 1 h.0 h.1 (symbol_apart 44 61 refl h.0 h.3) (comma_depth 1 h.0 h.3)
      ∙ after_some (b ∷ more) h.1 h.4

  after_arguments : (list : List Argument) (ts : List Item) → IsArguments list ts (equals ∷ rest) → first_outside (is_symbol 61) 1 ts ≡ Some (place_of equals)
  after_arguments [] ts h = ap (λ (l : List Item). first_outside (is_symbol 61) 1 l) h.1 ∙ after_last h.0 h.2
  after_arguments (a ∷ more) ts h = after_some (a ∷ more) ts h

pub equals_outside : EqualsSignsAreOutside
equals_outside name opening equals list ts rest word bracket arguments sign_is =
    over 61 0 0 name (opening ∷ ts) (no_symbol_of 61 name word) (word_depth 0 name word)
    ∙ over 61 0 1 opening ts (symbol_apart 40 61 refl opening bracket) (opening_depth opening bracket)
    ∙ after_arguments equals rest sign_is list ts arguments

-- ---- the end of a note

pub notes_outside : NotesEndOutside
notes_outside ts rest h = (
  h.closing,
  h.opening ∷ h.inside,
  h.spelled,
  ap (λ (l : List Item). first_outside (is_symbol 41) 0 l) h.spelled
      ∙ over 41 0 1 h.opening (h.inside ++ h.closing ∷ rest) (symbol_apart 40 41 refl h.opening h.opens) (opening_depth h.opening h.opens)
      ∙ passes (is_symbol 41) _ 15 [] h.inside (h.closing ∷ rest) h.balanced
      ∙ at_last 41 1 h.closing rest h.ends (closing_depth h.closing h.ends),
)
