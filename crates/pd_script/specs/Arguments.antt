-- Arguments of a call, and what their tokens are.
use Rattle.std.specs.Prelude.{◌≡◌, ℕ, ◌&&◌, Bool, true, false, List, [], ◌∷◌, ◌++◌, Some, if◌then◌else◌, ⊤}
use Rattle.pd_lex.specs.Tokens.{Item}
use Rattle.pd_script.specs.Items.{is_int_of_any_size, is_word, is_symbol, text_of}
use Rattle.pd_lex.specs.Numbers.{capped_number}
use Rattle.pd_script.specs.Values.{sign, constant_by_name_or_unknown}
use Rattle.pd_script.specs.Brackets.{pairs_after}
use Rattle.pd_script.specs.declared.calls.Argument.{Argument}
use Rattle.pd_script.specs.declared.calls.Argument.TheVariants as arguments
use Rattle.pd_script.specs.declared.brackets.Bracket.{Bracket}

-- a comma outside all pairs of brackets
abbrev pub is_parting : List Bracket → Item → Bool
is_parting [] t = is_symbol (sign ",") t
is_parting (b ∷ pairs) t = false

-- the items go on within these pairs and leave none of them open: each bracket that closes fits the innermost pair, at most
-- so many are open at once, and no item parts them
abbrev pub Balances : (List Bracket → Item → Bool) → ℕ → List Bracket → List Item → Type 0
Balances parts most pairs [] = pairs ≡ []
Balances parts most pairs (t ∷ ts) = (parts pairs t ≡ false) × (next : List Bracket) × (pairs_after most pairs t ≡ Some next) × Balances parts most next ts

-- the items of an argument: one whole number, one word, a whole number between `[` and `]`, or anything else
abbrev pub argument_of : List Item → Argument
argument_of (t ∷ []) =
    if is_int_of_any_size t then arguments.Int (capped_number (text_of t))
    else (if is_word t then arguments.Constant (constant_by_name_or_unknown (text_of t)) else arguments.Other)
argument_of (o ∷ t ∷ c ∷ []) =
    if is_symbol (sign "[") o && is_int_of_any_size t && is_symbol (sign "]") c then arguments.Element (capped_number (text_of t)) else arguments.Other
argument_of _ = arguments.Other

-- one or more items with balanced brackets, at most 16 pairs inside one another, and no comma outside them
pub record IsArgument (argument : Argument) (ts rest : List Item) : Type 0 where
  pub first : Item
  pub others : List Item
  pub spelled : ts ≡ (first ∷ others) ++ rest
  pub balanced : Balances is_parting 16 [] (first ∷ others)
  pub value : argument ≡ argument_of (first ∷ others)

-- one argument or more, parted by commas, and the bracket that ends them
abbrev pub IsSomeArguments : List Argument → List Item → List Item → Type 0
IsSomeArguments [] ts rest = ⊥
IsSomeArguments (a ∷ []) ts rest = (c : Item) × IsArgument a ts (c ∷ rest) × (is_symbol (sign ")") c ≡ true)
IsSomeArguments (a ∷ b ∷ more) ts rest = (c : Item) × (middle : List Item) × IsArgument a ts (c ∷ middle) × (is_symbol (sign ",") c ≡ true) × IsSomeArguments (b ∷ more) middle rest

-- the arguments of a call, if any, and the bracket that ends them
abbrev pub IsArguments : List Argument → List Item → List Item → Type 0
IsArguments [] ts rest = (c : Item) × (ts ≡ c ∷ rest) × (is_symbol (sign ")") c ≡ true)
IsArguments (a ∷ more) ts rest = IsSomeArguments (a ∷ more) ts rest

-- brackets with any tokens between them whose own brackets are balanced, at most 16 pairs inside one another with the first
pub record IsNote (nothing : ⊤) (ts rest : List Item) : Type 0 where
  pub opening : Item
  pub inside : List Item
  pub closing : Item
  pub spelled : ts ≡ opening ∷ (inside ++ closing ∷ rest)
  pub opens : is_symbol (sign "(") opening ≡ true
  pub balanced : Balances (λ pairs t. false) 15 [] inside
  pub ends : is_symbol (sign ")") closing ≡ true
