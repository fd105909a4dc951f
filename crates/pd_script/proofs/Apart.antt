-- Tests of items that no item passes both of.
use Rattle.std.proofs.Common.{◌≡◌, ℕ, Bool, true, false, List, [], ◌∷◌, refl}
use Rattle.std.specs.Prelude.{not, ◌&&◌, ◌||◌}
use Rattle.pd_lex.specs.declared.token.TokenKind.{TokenKind}
use Rattle.pd_lex.specs.declared.token.TokenKind.TheVariants as kinds
use Rattle.pd_lex.specs.Tokens.{Item, lexeme, ending, bad}
use Rattle.std.specs.Str.{bytes_eq}
use Rattle.std.proofs.lemmas.Slice.Eq.{bytes_eq-Decides}
use Rattle.pd_script.specs.Items.{is_token, is_int_of_any_size, is_next_int_within_u32, is_next_hex_within_u32, is_num, is_dots, is_command, is_code, is_word, is_symbol, is_dots_kind, is_command_kind, is_code_kind, is_int_kind, is_hex_kind, is_num_kind, is_word_kind, is_symbol_kind, is_end}

-- ---- tests

pub and-left : (a b : Bool) → (a && b) ≡ true → a ≡ true
and-left true b h = refl
and-left false b h = h

pub and-right : (a b : Bool) → (a && b) ≡ true → b ≡ true
and-right true b h = h
and-right false b h = absurd cc

pub and-false : (a b : Bool) → a ≡ false → (a && b) ≡ false
and-false true b h = absurd cc
and-false false b h = refl

pub or-left : (a b : Bool) → a ≡ true → (a || b) ≡ true
or-left true b h = refl
or-left false b h = absurd cc

pub or-right : (a b : Bool) → b ≡ true → (a || b) ≡ true
or-right true b h = refl
or-right false b h = h

pub or-no : (a b : Bool) → (a || b) ≡ false → (a ≡ false) × (b ≡ false)
or-no true b h = absurd cc
or-no false b h = (refl, h)

pub or-false : (a b : Bool) → a ≡ false → b ≡ false → (a || b) ≡ false
or-false true b h g = absurd cc
or-false false b h g = g

pub not-true : (b : Bool) → not b ≡ true → b ≡ false
not-true true h = absurd cc
not-true false h = refl

pub not-false : (b : Bool) → b ≡ false → not b ≡ true
not-false true h = absurd cc
not-false false h = refl

-- what holds of one of two
pub or-elim : (a b c : Bool) → (a ≡ true → c ≡ true) → (b ≡ true → c ≡ true) → (a || b) ≡ true → c ≡ true
or-elim true b c f g h = f refl
or-elim false b c f g h = g h

pub or-elim-no : (a b c : Bool) → (a ≡ true → c ≡ false) → (b ≡ true → c ≡ false) → (a || b) ≡ true → c ≡ false
or-elim-no true b c f g h = f refl
or-elim-no false b c f g h = g h

-- ---- kinds

abbrev all_kinds : (TokenKind → Bool) → Bool
all_kinds p = p kinds.Int && (p kinds.Hex && (p kinds.Word && (p kinds.Decimal && (p kinds.Dots && (p kinds.Opt && (p kinds.Str && (p kinds.Cmd && (p kinds.Code && p kinds.Symbol))))))))

each_kind : (p : TokenKind → Bool) → all_kinds p ≡ true → (k : TokenKind) → p k ≡ true
each_kind p h kinds.Int = and-left _ _ h
each_kind p h kinds.Hex = and-left _ _ (and-right (p kinds.Int) _ h)
each_kind p h kinds.Word = and-left _ _ (and-right (p kinds.Hex) _ (and-right (p kinds.Int) _ h))
each_kind p h kinds.Decimal = and-left _ _ (and-right (p kinds.Word) _ (and-right (p kinds.Hex) _ (and-right (p kinds.Int) _ h)))
each_kind p h kinds.Dots = and-left _ _ (and-right (p kinds.Decimal) _ (and-right (p kinds.Word) _ (and-right (p kinds.Hex) _ (and-right (p kinds.Int) _ h))))
each_kind p h kinds.Opt = and-left _ _ (and-right (p kinds.Dots) _ (and-right (p kinds.Decimal) _ (and-right (p kinds.Word) _ (and-right (p kinds.Hex) _ (and-right (p kinds.Int) _ h)))))
each_kind p h kinds.Str = and-left _ _ (and-right (p kinds.Opt) _ (and-right (p kinds.Dots) _ (and-right (p kinds.Decimal) _ (and-right (p kinds.Word) _ (and-right (p kinds.Hex) _ (and-right (p kinds.Int) _ h))))))
each_kind p h kinds.Cmd = and-left _ _ (and-right (p kinds.Str) _ (and-right (p kinds.Opt) _ (and-right (p kinds.Dots) _ (and-right (p kinds.Decimal) _ (and-right (p kinds.Word) _ (and-right (p kinds.Hex) _ (and-right (p kinds.Int) _ h)))))))
each_kind p h kinds.Code = and-left _ _ (and-right (p kinds.Cmd) _ (and-right (p kinds.Str) _ (and-right (p kinds.Opt) _ (and-right (p kinds.Dots) _ (and-right (p kinds.Decimal) _ (and-right (p kinds.Word) _ (and-right (p kinds.Hex) _ (and-right (p kinds.Int) _ h))))))))
each_kind p h kinds.Symbol = and-right (p kinds.Code) _ (and-right (p kinds.Cmd) _ (and-right (p kinds.Str) _ (and-right (p kinds.Opt) _ (and-right (p kinds.Dots) _ (and-right (p kinds.Decimal) _ (and-right (p kinds.Word) _ (and-right (p kinds.Hex) _ (and-right (p kinds.Int) _ h))))))))

abbrev pub no_kind : (TokenKind → Bool) → (TokenKind → Bool) → Bool
no_kind f g = all_kinds (λ k. not (f k && g k))

apart_kind : (a b : Bool) → not (a && b) ≡ true → a ≡ true → b ≡ false
apart_kind true b h g = not-true b h
apart_kind false b h g = absurd cc

-- a test that only passes items of one kind, and one that only passes items of another
pub record IsOf (f : TokenKind → Bool) (test : Item → Bool) : Type 0 where
  pub kind : (x : Item) → test x ≡ true → is_token (λ k text. f k) x ≡ true

pub apart : (f g : TokenKind → Bool) (p q : Item → Bool) → no_kind f g ≡ true → IsOf f p → IsOf g q → (t : Item) → p t ≡ true → q t ≡ false
apart f g p q none fp gq t h = by_test (q t) refl
  where
    other : (u : Item) → is_token (λ k text. f k) u ≡ true → is_token (λ k text. g k) u ≡ true → ⊥
    other (lexeme x) a b = let no = apart_kind (f x.kind) (g x.kind) (each_kind (λ k. not (f k && g k)) none x.kind) a in absurd cc
    other (ending line) a b = absurd cc
    other (bad line) a b = absurd cc

    by_test : (b : Bool) → q t ≡ b → q t ≡ false
    by_test true e = absurd (other t (fp.kind t h) (gq.kind t e))
    by_test false e = e

-- ---- tokens, that is neither the end nor a bad place

abbrev pub is_lexeme : Item → Bool
is_lexeme t = is_token (λ kind text. true) t

pub lexical : (f : TokenKind → Bool) (test : Item → Bool) → IsOf f test → (t : Item) → test t ≡ true → is_lexeme t ≡ true
lexical f test k t h = at t (k.kind t h)
  where
    at : (u : Item) → is_token (λ kind text. f kind) u ≡ true → is_lexeme u ≡ true
    at (lexeme x) g = refl
    at (ending line) g = g
    at (bad line) g = g

-- ---- the kinds of the tests

pub int_kind : IsOf is_int_kind is_next_int_within_u32
int_kind = record { kind = at }
  where
    at : (x : Item) → is_next_int_within_u32 x ≡ true → is_token (λ k text. is_int_kind k) x ≡ true
    at (lexeme x) h = and-left _ _ h
    at (ending line) h = h
    at (bad line) h = h

pub hex_kind : IsOf is_hex_kind is_next_hex_within_u32
hex_kind = record { kind = at }
  where
    at : (x : Item) → is_next_hex_within_u32 x ≡ true → is_token (λ k text. is_hex_kind k) x ≡ true
    at (lexeme x) h = and-left _ _ h
    at (ending line) h = h
    at (bad line) h = h

pub num_kind : IsOf is_num_kind is_num
num_kind = record { kind = at }
  where
    at : (x : Item) → is_num x ≡ true → is_token (λ k text. is_num_kind k) x ≡ true
    at (lexeme x) h = and-left _ _ h
    at (ending line) h = h
    at (bad line) h = h

pub word_kind : IsOf is_word_kind is_word
word_kind = record { kind = λ x h. h }

pub dots_kind : IsOf is_dots_kind is_dots
dots_kind = record { kind = λ x h. h }

pub command_kind : IsOf is_command_kind is_command
command_kind = record { kind = λ x h. h }

pub code_kind : IsOf is_code_kind is_code
code_kind = record { kind = λ x h. h }

pub symbol_kind : (octet : ℕ) → IsOf is_symbol_kind (is_symbol octet)
symbol_kind octet = record { kind = at }
  where
    at : (x : Item) → is_symbol octet x ≡ true → is_token (λ k text. is_symbol_kind k) x ≡ true
    at (lexeme x) h = and-left _ _ h
    at (ending line) h = h
    at (bad line) h = h

pub end_no_token : (test : TokenKind → List ℕ → Bool) (t : Item) → is_end t ≡ true → is_token test t ≡ false
end_no_token test (lexeme x) h = absurd cc
end_no_token test (ending line) h = refl
end_no_token test (bad line) h = absurd cc

-- ---- symbols and words differ in their octets

pub and-false-right : (a b : Bool) → b ≡ false → (a && b) ≡ false
and-false-right true b h = h
and-false-right false b h = refl

-- a text that is this one is no other
pub text_apart : (text a b : List ℕ) → bytes_eq a b ≡ false → bytes_eq text a ≡ true → bytes_eq text b ≡ false
text_apart text a b other h = let same : text ≡ a = (bytes_eq-Decides text a).0 h in rw same other

pub symbol_apart : (a b : ℕ) → bytes_eq (a ∷ []) (b ∷ []) ≡ false → (t : Item) → is_symbol a t ≡ true → is_symbol b t ≡ false
symbol_apart a b other (lexeme x) h = and-false-right (is_symbol_kind x.kind) (bytes_eq x.text (b ∷ [])) (text_apart x.text (a ∷ []) (b ∷ []) other (and-right (is_symbol_kind x.kind) _ h))
symbol_apart a b other (ending line) h = refl
symbol_apart a b other (bad line) h = refl

pub symbol_no_int : (a : ℕ) (t : Item) → is_symbol a t ≡ true → is_int_of_any_size t ≡ false
symbol_no_int a t h = apart is_symbol_kind is_int_kind (is_symbol a) is_int_of_any_size refl (symbol_kind a) (record { kind = λ x g. g }) t h

pub symbol_no_word : (a : ℕ) (t : Item) → is_symbol a t ≡ true → is_word t ≡ false
symbol_no_word a t h = apart is_symbol_kind is_word_kind (is_symbol a) is_word refl (symbol_kind a) word_kind t h
