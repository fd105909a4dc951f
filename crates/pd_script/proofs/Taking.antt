-- A cursor that goes on by one token.
use Rattle.std.proofs.Common.{◌≡◌, ◌∙◌, ℕ, true, List, ◌∷◌, Option, Some, None, Ok, Err, refl, sym, ap}
use Rattle.pd_lex.specs.declared.token.TokenKind.{TokenKind}
use Rattle.pd_lex.specs.declared.token.TokenKind.TheVariants as kinds
use Rattle.pd_lex.specs.declared.token.Place.{Place}
use Rattle.pd_lex.specs.declared.token.Token.{Token}
use Rattle.pd_lex.specs.declared.token.Lexed.{Lexed}
use Rattle.pd_lex.specs.declared.token.Lexed.TheVariants as lexed
use Rattle.pd_lex.specs.Kinds.{stays_in_line}
use Rattle.pd_lex.specs.Places.{between}
use Rattle.pd_lex.specs.Tokens.{Item, lexeme}
use Rattle.pd_lex.specs.Lexing.{items, lexeme_of}
use Rattle.pd_lex.specs.Next.{HasText}
use Rattle.pd_script.specs.Reader.{Read}
use Rattle.pd_script.specs.Brackets.{pairs_after}
use Rattle.pd_script.specs.ArgumentReading.{extended_builder, part_by, part_at, note_part_by, note_part_at, after_token}
use Rattle.pd_script.specs.declared.brackets.Bracket.{Bracket}
use Rattle.pd_script.specs.declared.argument_builder.ArgumentBuilder.{ArgumentBuilder}
use Rattle.pd_script.specs.declared.argument_builder.ArgumentBuilder.TheVariants as argument_builder
use Rattle.pd_script.specs.declared.argument_builder.BracketContext.{BracketContext}
use Rattle.pd_script.specs.declared.parse_error.ParseError.{ParseError}
use Rattle.pd_script.specs.declared.parse_error.ParseError.TheVariants as parse_error
use Rattle.pd_script.specs.Cursor.{left, shown, Leaves, Moves, SkipsNote}

-- a fault in a part is a fault of the whole
pub err_leaves : {X Y : Type 0} (e : ParseError) (rest : List Item) (part : Read X) (whole : Read Y) → Leaves {X = X} (Err e) rest part → (part ≡ Err rest → whole ≡ Err rest) → Leaves {X = Y} (Err e) rest whole
err_leaves parse_error.Syntax rest part whole h f = f h
err_leaves parse_error.OutOfMemory rest part whole h f = tt

pub err_moves : {S Y : Type 0} (e : ParseError) (state : S) (rest : List Item) (part : Read S) (whole : Read Y) → Moves (Err e) state rest part → (part ≡ Err rest → whole ≡ Err rest) → Leaves {X = Y} (Err e) rest whole
err_moves parse_error.Syntax state rest part whole h f = f h
err_moves parse_error.OutOfMemory state rest part whole h f = tt

-- the same in a note
pub err_skips : {X : Type 0} (Y : Type 0) (e : ParseError) (rest : List Item) (part : Read X) (whole : Read (List ℕ)) → Leaves {X = X} (Err e) rest part → (part ≡ Err rest → whole ≡ Err rest) → SkipsNote {X = Y} (Err e) rest whole
err_skips Y parse_error.Syntax rest part whole h f = f h
err_skips Y parse_error.OutOfMemory rest part whole h f = tt

-- what stands still at a fault
pub leaves_err : {X : Type 0} (e : ParseError) (rest : List Item) (read : Read X) → read ≡ Err rest → Leaves {X = X} (Err e) rest read
leaves_err parse_error.Syntax rest read h = h
leaves_err parse_error.OutOfMemory rest read h = tt

pub moves_err : {S : Type 0} (e : ParseError) (state : S) (rest : List Item) (read : Read S) → read ≡ Err rest → Moves (Err e) state rest read
moves_err parse_error.Syntax state rest read h = h
moves_err parse_error.OutOfMemory state rest read h = tt

-- what looks at the octets of a token only where its kind stays in its line
pub alike : {A : Type 0} (f : Item → A) (kind : TokenKind) (s t : List ℕ) (from : Place) → (stays_in_line kind ≡ true → s ≡ t) → f (lexeme (record { kind = kinds.Str; text = s; from = from })) ≡ f (lexeme (record { kind = kinds.Str; text = t; from = from })) → f (lexeme (record { kind = kinds.Cmd; text = s; from = from })) ≡ f (lexeme (record { kind = kinds.Cmd; text = t; from = from })) → f (lexeme (record { kind = kinds.Code; text = s; from = from })) ≡ f (lexeme (record { kind = kinds.Code; text = t; from = from })) → f (lexeme (record { kind = kind; text = s; from = from })) ≡ f (lexeme (record { kind = kind; text = t; from = from }))
alike f kinds.Int s t from h str cmd code = ap (λ (l : List ℕ). f (lexeme (record { kind = kinds.Int; text = l; from = from }))) (h refl)
alike f kinds.Hex s t from h str cmd code = ap (λ (l : List ℕ). f (lexeme (record { kind = kinds.Hex; text = l; from = from }))) (h refl)
alike f kinds.Word s t from h str cmd code = ap (λ (l : List ℕ). f (lexeme (record { kind = kinds.Word; text = l; from = from }))) (h refl)
alike f kinds.Decimal s t from h str cmd code = ap (λ (l : List ℕ). f (lexeme (record { kind = kinds.Decimal; text = l; from = from }))) (h refl)
alike f kinds.Dots s t from h str cmd code = ap (λ (l : List ℕ). f (lexeme (record { kind = kinds.Dots; text = l; from = from }))) (h refl)
alike f kinds.Opt s t from h str cmd code = ap (λ (l : List ℕ). f (lexeme (record { kind = kinds.Opt; text = l; from = from }))) (h refl)
alike f kinds.Str s t from h str cmd code = str
alike f kinds.Cmd s t from h str cmd code = cmd
alike f kinds.Code s t from h str cmd code = code
alike f kinds.Symbol s t from h str cmd code = ap (λ (l : List ℕ). f (lexeme (record { kind = kinds.Symbol; text = l; from = from }))) (h refl)

module _ (lines : List (List ℕ)) (t : Token) (h : stays_in_line t.kind ≡ true → t.text.now ≡ (lexeme_of lines t).text) where
  pairs_alike : (most : ℕ) (pairs : List Bracket) → pairs_after most pairs (lexeme (lexeme_of lines t)) ≡ pairs_after most pairs (shown t)
  unfolding lexeme_of
  pairs_alike most pairs = alike (λ (i : Item). pairs_after most pairs i) t.kind (between lines t.from t.to) t.text.now t.from (λ stays. sym (h stays)) refl refl refl

  longer_by : (d : ArgumentBuilder) → ((s r : List ℕ) → extended_builder d (lexeme (record { kind = kinds.Str; text = s; from = t.from })) ≡ extended_builder d (lexeme (record { kind = kinds.Str; text = r; from = t.from }))) → ((s r : List ℕ) → extended_builder d (lexeme (record { kind = kinds.Cmd; text = s; from = t.from })) ≡ extended_builder d (lexeme (record { kind = kinds.Cmd; text = r; from = t.from }))) → ((s r : List ℕ) → extended_builder d (lexeme (record { kind = kinds.Code; text = s; from = t.from })) ≡ extended_builder d (lexeme (record { kind = kinds.Code; text = r; from = t.from }))) → extended_builder d (lexeme (lexeme_of lines t)) ≡ extended_builder d (shown t)
  unfolding lexeme_of
  longer_by d str cmd code = alike (λ (i : Item). extended_builder d i) t.kind (between lines t.from t.to) t.text.now t.from (λ stays. sym (h stays)) (str _ _) (cmd _ _) (code _ _)

  longer_alike : (d : ArgumentBuilder) → extended_builder d (lexeme (lexeme_of lines t)) ≡ extended_builder d (shown t)
  longer_alike argument_builder.Empty = longer_by argument_builder.Empty (λ s r. refl) (λ s r. refl) (λ s r. refl)
  longer_alike (argument_builder.Single a) = longer_by (argument_builder.Single a) (λ s r. refl) (λ s r. refl) (λ s r. refl)
  longer_alike argument_builder.Opened = longer_by argument_builder.Opened (λ s r. refl) (λ s r. refl) (λ s r. refl)
  longer_alike (argument_builder.Numbered n) = longer_by (argument_builder.Numbered n) (λ s r. refl) (λ s r. refl) (λ s r. refl)
  longer_alike (argument_builder.Element n) = longer_by (argument_builder.Element n) (λ s r. refl) (λ s r. refl) (λ s r. refl)
  longer_alike argument_builder.Mixed = longer_by argument_builder.Mixed (λ s r. refl) (λ s r. refl) (λ s r. refl)

  part_token : (inside : BracketContext) (pairs : List Bracket) (builder : ArgumentBuilder) (ts : List Item) → pairs_after 16 inside.pairs (shown t) ≡ Some pairs → builder ≡ extended_builder inside.builder (shown t) → part_at inside (lexeme (lexeme_of lines t) ∷ ts) ≡ Ok (record { pairs = pairs; builder = builder }, ts)
  part_token inside pairs builder ts p d =
      let x : Item = lexeme (lexeme_of lines t) in
      ap (λ (r : Option (List Bracket)). part_by inside.builder x ts r) (pairs_alike 16 inside.pairs ∙ p) ∙ ap (λ (k : ArgumentBuilder). made pairs k ts) (longer_alike inside.builder ∙ sym d)
    where
      made : List Bracket → ArgumentBuilder → List Item → Read BracketContext
      made ps k rest = Ok (record { pairs = ps; builder = k }, rest)

  part_none : (inside : BracketContext) (ts : List Item) → pairs_after 16 inside.pairs (shown t) ≡ None → part_at inside (lexeme (lexeme_of lines t) ∷ ts) ≡ Err (lexeme (lexeme_of lines t) ∷ ts)
  part_none inside ts p = let x : Item = lexeme (lexeme_of lines t) in ap (λ (r : Option (List Bracket)). part_by inside.builder x ts r) (pairs_alike 16 inside.pairs ∙ p)

  note_token : (open_pairs pairs : List Bracket) (ts : List Item) → pairs_after 15 open_pairs (shown t) ≡ Some pairs → note_part_at open_pairs (lexeme (lexeme_of lines t) ∷ ts) ≡ Ok (pairs, ts)
  note_token open_pairs pairs ts p = let x : Item = lexeme (lexeme_of lines t) in ap (λ (r : Option (List Bracket)). note_part_by x ts r) (pairs_alike 15 open_pairs ∙ p)

  note_none : (open_pairs : List Bracket) (ts : List Item) → pairs_after 15 open_pairs (shown t) ≡ None → note_part_at open_pairs (lexeme (lexeme_of lines t) ∷ ts) ≡ Err (lexeme (lexeme_of lines t) ∷ ts)
  note_none open_pairs ts p = let x : Item = lexeme (lexeme_of lines t) in ap (λ (r : Option (List Bracket)). note_part_by x ts r) (pairs_alike 15 open_pairs ∙ p)

-- the same for what a cursor has next
module _ (lines : List (List ℕ)) (next : Lexed) (t : Token) (old : List Item) (is : next ≡ lexed.Token t) (h : HasText lines next) (o : old ≡ left lines next) where
  has : stays_in_line t.kind ≡ true → t.text.now ≡ (lexeme_of lines t).text
  has = rw is at h

  pub part_ok : (new : List Item) (inside : BracketContext) (pairs : List Bracket) (builder : ArgumentBuilder) → new ≡ after_token old → pairs_after 16 inside.pairs (shown t) ≡ Some pairs → builder ≡ extended_builder inside.builder (shown t) → part_at inside old ≡ Ok (record { pairs = pairs; builder = builder }, new)
  part_ok new inside pairs builder n p d = rw (n, o, is) (part_token lines t has inside pairs builder (items lines t.to) p d)

  pub part_err : (inside : BracketContext) → pairs_after 16 inside.pairs (shown t) ≡ None → part_at inside old ≡ Err old
  part_err inside p = rw (o, is) (part_none lines t has inside (items lines t.to) p)

  pub note_ok : (new : List Item) (open_pairs pairs : List Bracket) → new ≡ after_token old → pairs_after 15 open_pairs (shown t) ≡ Some pairs → note_part_at open_pairs old ≡ Ok (pairs, new)
  note_ok new open_pairs pairs n p = rw (n, o, is) (note_token lines t has open_pairs pairs (items lines t.to) p)

  pub note_err : (open_pairs : List Bracket) → pairs_after 15 open_pairs (shown t) ≡ None → note_part_at open_pairs old ≡ Err old
  note_err open_pairs p = rw (o, is) (note_none lines t has open_pairs (items lines t.to) p)
