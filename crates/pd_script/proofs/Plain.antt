-- Some plain items, by a test: numbers, words, dots, empty commands and code, symbols, and the end.
use Rattle.std.proofs.Common.{◌≡◌, ℕ, ◌<◌, Bool, true, false, List, [], ◌∷◌, ◌++◌, length, length-append, refl, ap, subst, arith}
use Rattle.std.specs.Prelude.{All, codes, not, nat_lt, ◌&&◌}
use Rattle.std.specs.List.{list_all}
use Rattle.std.specs.Str.{bytes_eq}
use Rattle.std.proofs.lemmas.Bool.Decides.{nat_tests}
use Rattle.std.proofs.lemmas.List.Elements.{All-nil, All-cons}
use Rattle.std.proofs.lemmas.Slice.Eq.{bytes_eq-Decides}
use Rattle.pd_lex.specs.declared.token.TokenKind.{TokenKind}
use Rattle.pd_lex.specs.declared.token.TokenKind.TheVariants as kinds
use Rattle.pd_lex.specs.Octets.{is_digit, is_word, is_printable}
use Rattle.pd_lex.specs.Spellings.{IsHex, IsWord, HasNo, IsSpelled}
use Rattle.pd_lex.specs.Tokens.{Item, lexeme, ending, bad}
use Rattle.pd_script.specs.Items.{is_nonempty_digits, IsPlain}

-- it begins with no digit
abbrev is_name : List ℕ → Bool
is_name [] = false
is_name (b ∷ text) = not (is_digit b) && list_all is_word (b ∷ text)

abbrev is_sign : List ℕ → Bool
is_sign (b ∷ []) = is_printable b && not (is_word b)
is_sign _ = false

-- the octets spell a token of the kind
abbrev pub is_spelled : TokenKind → List ℕ → Bool
is_spelled kinds.Int text = is_nonempty_digits text
is_spelled kinds.Hex text = bytes_eq text (codes "0x0")
is_spelled kinds.Word text = is_name text
is_spelled kinds.Decimal text = bytes_eq text (codes "4294967295.999999")
is_spelled kinds.Dots text = bytes_eq text (codes "...")
is_spelled kinds.Cmd text = bytes_eq text (codes "``")
is_spelled kinds.Code text = bytes_eq text (codes "%{}%")
is_spelled kinds.Symbol text = is_sign text
is_spelled _ text = false

abbrev pub is_plain : Item → Bool
is_plain (lexeme x) = is_spelled x.kind x.text
is_plain (ending line) = true
is_plain (bad line) = false

both : (a b : Bool) → (a && b) ≡ true → (a ≡ true) × (b ≡ true)
both true b h = (refl, h)
both false b h = absurd cc

is_not : (b : Bool) → not b ≡ true → b ≡ false
is_not true h = absurd cc
is_not false h = refl

some_digits : (text : List ℕ) → is_nonempty_digits text ≡ true → (0 < length text) × (list_all is_digit text ≡ true)
some_digits text h =
    let p = both (nat_lt 0 (length text)) (list_all is_digit text) h in
    let some : 0 < length text = (let q = p.0 in grind (arith, nat_tests)) in
    (some, p.1)

no_hex : (b : ℕ) (text : List ℕ) → is_digit b ≡ false → IsHex (b ∷ text) → ⊥
no_hex b text h x = absurd (let e : b ∷ text ≡ 48 ∷ 120 ∷ x.0 = x.1 in let first : b ≡ 48 = cc in let digit : is_digit 48 ≡ false = subst (λ (x : ℕ). is_digit x ≡ false) first h in cc)

a_name : (text : List ℕ) → is_name text ≡ true → IsWord text
a_name [] h = absurd cc
a_name (b ∷ text) h =
    let p = both (not (is_digit b)) (list_all is_word (b ∷ text)) h in
    let first : is_digit b ≡ false = is_not (is_digit b) p.0 in
    ((omega arith, p.1), λ all. absurd (let got = rw first at all in cc), no_hex b text first)

a_sign : (text : List ℕ) → is_sign text ≡ true → IsSpelled kinds.Symbol text
a_sign [] h = absurd cc
a_sign (b ∷ []) h = let p = both (is_printable b) (not (is_word b)) h in (b, refl, p.0, is_not (is_word b) p.1)
a_sign (b ∷ c ∷ text) h = absurd cc

same_text : (text other : List ℕ) → bytes_eq text other ≡ true → text ≡ other
same_text text other h = (bytes_eq-Decides text other).0 h

nothing_has : (octets : List ℕ) → 0 < length octets → HasNo octets []
nothing_has octets some front back e = omega (arith, ap length e, length-append front (octets ++ back), length-append octets back)

spelled : (kind : TokenKind) (text : List ℕ) → is_spelled kind text ≡ true → IsSpelled kind text
spelled kinds.Int text h = some_digits text h
spelled kinds.Hex text h = rw (same_text text _ h) (48 ∷ [], refl, (omega arith, refl))
spelled kinds.Word text h = a_name text h
spelled kinds.Decimal text h = rw (same_text text _ h) (codes "4294967295", codes "999999", refl, refl, (omega arith, refl))
spelled kinds.Dots text h = same_text text _ h
spelled kinds.Opt text h = absurd cc
spelled kinds.Str text h = absurd cc
spelled kinds.Cmd text h = rw (same_text text _ h) ([], refl, refl)
spelled kinds.Code text h = rw (same_text text _ h) ([], refl, nothing_has (codes "}%") (omega arith))
spelled kinds.Symbol text h = a_sign text h

plain_is : (t : Item) → is_plain t ≡ true → IsPlain t
plain_is (lexeme x) h = spelled x.kind x.text h
plain_is (ending line) h = tt
plain_is (bad line) h = absurd cc

pub all_plain : (ts : List Item) → list_all is_plain ts ≡ true → All IsPlain ts
all_plain [] h = All-nil IsPlain
all_plain (t ∷ ts) h = let p = both (is_plain t) (list_all is_plain ts) h in All-cons IsPlain t ts (plain_is t p.0) (all_plain ts p.1)
