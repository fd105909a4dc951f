-- Which items spell what: sequences and alternatives, and no lookahead.
use Prim.Native.String.{String}
use Rattle.std.specs.Prelude.{◌≡◌, ℕ, Bool, true, List, [], ◌∷◌, ◌⊎◌, ⊤}
use Rattle.pd_lex.specs.Tokens.{Item, line_of}
use Rattle.pd_script.specs.Items.{is_next_int_within_u32, is_symbol, is_dots, text_of}
use Rattle.pd_script.specs.Values.{number, sign}

-- a value, items that begin with a spelling of it, and what is left of them
abbrev pub Spelling : Type 0 → Type 1
Spelling A = A → List Item → List Item → Type 0

-- one token of a kind
abbrev pub token : (Item → Bool) → Spelling Item
token test t ts rest = (ts ≡ t ∷ rest) × (test t ≡ true)

-- a value that takes no token
abbrev pub made : {A : Type 0} → A → Spelling A
made x v ts rest = (x ≡ v) × (ts ≡ rest)

-- one spelling and then another, which may depend on what the first spells
abbrev pub in_turn : {A B : Type 0} → Spelling A → (A → Spelling B) → Spelling B
in_turn {A = A} first second v ts rest = (a : A) × (middle : List Item) × first a ts middle × second a v middle rest

-- the same as an operator
infixl 10 ◌>>=◌
abbrev pub ◌>>=◌ : {A B : Type 0} → Spelling A → (A → Spelling B) → Spelling B
first >>= second = in_turn first second

-- one spelling or another
abbrev pub either : {A : Type 0} → Spelling A → Spelling A → Spelling A
either one other v ts rest = one v ts rest ⊎ other v ts rest

-- ---- tokens

-- one that passes a test, and what it stands for
abbrev pub one_of : {A : Type 0} → (Item → Bool) → (Item → A) → Spelling A
one_of test value = do
  t ← token test
  made (value t)

-- this symbol, with its line
abbrev pub IsSymbol : String → Spelling ℕ
IsSymbol text = one_of (is_symbol (sign text)) line_of

-- a whole number of at most 4,294,967,295
abbrev pub IsInt : Spelling ℕ
IsInt = one_of is_next_int_within_u32 (λ t. number (text_of t))

-- `...`
abbrev pub IsDots : Spelling ⊤
IsDots = one_of is_dots (λ t. tt)

-- none or more spellings, one after the other
abbrev pub Repeats : {A : Type 0} → Spelling A → Spelling (List A)
Repeats P [] ts rest = ts ≡ rest
Repeats P (x ∷ xs) ts rest = (middle : List Item) × P x ts middle × Repeats P xs middle rest
