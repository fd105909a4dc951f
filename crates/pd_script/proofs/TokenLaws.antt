-- Single tokens are read, and what may be around them.
use Rattle.std.proofs.Common.{◌≡◌, ℕ, Bool, true, false, List, [], ◌∷◌, Ok, refl}
use Rattle.std.specs.Prelude.{not, ◌&&◌, ◌||◌}
use Rattle.std.specs.Str.{bytes_eq}
use Rattle.pd_lex.specs.declared.token.TokenKind.TheVariants as kinds
use Rattle.pd_lex.specs.Tokens.{Item, line_of}
use Rattle.pd_script.specs.Items.{is_next_int_within_u32, is_num, is_dots, is_symbol, is_int_kind, is_num_kind, is_dots_kind, is_symbol_kind, is_end, starts_event, starts_event_or_end, text_of}
use Rattle.pd_script.specs.Values.{number}
use Rattle.pd_script.specs.Reader.{Reader, ◌>>=◌, done, one, when}
use Rattle.pd_script.specs.TokenReading.{symbol_at, int_at, dots_at}
use Rattle.pd_script.specs.Spelling.{Spelling, token, made, in_turn, either, IsInt, IsDots}
use Rattle.pd_script.proofs.Laws.{Within, any}
use Rattle.pd_script.proofs.Matches.{Reads, Reads-one, Reads-bind, Reads-done, Reads-when}
use Rattle.pd_script.proofs.Apart.{or-elim-no, not-true, apart, int_kind, num_kind, dots_kind, symbol_kind, symbol_apart, end_no_token}
use Rattle.pd_script.proofs.ArgumentLaws.{a_token}
use Rattle.pd_script.proofs.Plain.{is_plain}

pub all : (f : Item → Bool) → Within f any
all f t h = refl

abbrev pub but : (Item → Bool) → Item → Bool
but test t = not (test t)

-- a value, and then whatever may follow it
pub last : {A B : Type 0} (p : Reader A) (v : A → B) (P : Spelling A) (f s : Item → Bool) → Reads p P f any → Reads (p >>= λ a. done (v a)) (in_turn P (λ a. made (v a))) f s
last p v P f s r = Reads-bind p (λ a. done (v a)) P (λ a. made (v a)) f any s s r (λ a. Reads-done (v a) s) (all s)

-- a tail that may be left out
pub tail : {A : Type 0} (test : Item → Bool) (p : Reader A) (P : Spelling A) (v : A) → Reads p P test (but test) → ((w : A) (rest : List Item) → p [] ≡ Ok (w, rest) → ⊥) → Reads (when test p (done v)) (either P (made v)) any (but test)
tail test p P v r some = Reads-when test p (done v) P (made v) test (but test) any (but test) r (Reads-done v (but test)) (λ t h. h) (λ t h. not-true (test t) h) some (all test) (all (but test))

-- ---- single tokens

-- the symbol of an octet, with its line
abbrev pub IsSymbolOf : ℕ → Spelling ℕ
IsSymbolOf octet = in_turn (token (is_symbol octet)) (λ t. made (line_of t))

pub symbol : (octet : ℕ) → is_symbol octet (a_token kinds.Symbol (octet ∷ [])) ≡ true → is_plain (a_token kinds.Symbol (octet ∷ [])) ≡ true → Reads (symbol_at octet) (IsSymbolOf octet) (is_symbol octet) any
symbol octet h g = last (one (is_symbol octet)) (λ t. line_of t) (token (is_symbol octet)) (is_symbol octet) any (Reads-one is_symbol_kind (is_symbol octet) (a_token kinds.Symbol (octet ∷ [])) (symbol_kind octet) h g)

pub int : Reads int_at IsInt is_next_int_within_u32 any
int = last (one is_next_int_within_u32) (λ t. number (text_of t)) (token is_next_int_within_u32) is_next_int_within_u32 any (Reads-one is_int_kind is_next_int_within_u32 (a_token kinds.Int (48 ∷ [])) int_kind refl refl)

pub dots : Reads dots_at IsDots is_dots any
dots = last (one is_dots) (λ t. tt) (token is_dots) is_dots any (Reads-one is_dots_kind is_dots (a_token kinds.Dots (46 ∷ 46 ∷ 46 ∷ [])) dots_kind refl refl)

-- a test that no item passes that begins an event, nor the end
pub record NoStart (test : Item → Bool) : Type 0 where
  pub num_is : (t : Item) → is_num t ≡ true → test t ≡ false
  pub plus_is : (t : Item) → is_symbol 43 t ≡ true → test t ≡ false
  pub star_is : (t : Item) → is_symbol 42 t ≡ true → test t ≡ false
  pub end_is : (t : Item) → is_end t ≡ true → test t ≡ false

pub goes_on_not : (test : Item → Bool) → NoStart test → (t : Item) → starts_event_or_end t ≡ true → test t ≡ false
goes_on_not test n t h = or-elim-no (starts_event t) (is_end t) (test t) (λ g. or-elim-no (starts_number_is t) (is_symbol 42 t) (test t) (λ k. or-elim-no (is_num t) (is_symbol 43 t) (test t) (n.num_is t) (n.plus_is t) k) (n.star_is t) g) (n.end_is t) h
  where
    starts_number_is : Item → Bool
    starts_number_is u = is_num u || is_symbol 43 u

pub symbol_no_start : (octet : ℕ) → bytes_eq (43 ∷ []) (octet ∷ []) ≡ false → bytes_eq (42 ∷ []) (octet ∷ []) ≡ false → NoStart (is_symbol octet)
symbol_no_start octet plus star = record {
  num_is = apart is_num_kind is_symbol_kind is_num (is_symbol octet) refl num_kind (symbol_kind octet);
  plus_is = symbol_apart 43 octet plus;
  star_is = symbol_apart 42 octet star;
  end_is = λ t h. end_no_token (λ kind text. is_symbol_kind kind && bytes_eq text (octet ∷ [])) t h;
}
