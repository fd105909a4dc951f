-- The header is read token by token, each from the place after the one before.
use Rattle.std.proofs.Common.{◌≡◌, ℕ, ◌<◌, Bool, true, false, List, [], ◌∷◌, ◌++◌, length, Some, None, refl, sym, ap, ◌∙◌, arith, append_assoc}
use Rattle.std.specs.Prelude.{take, fold}
use Rattle.std.proofs.lemmas.List.{append-nil}
use Rattle.std.specs.List.{list_all}
use Rattle.pd_text.specs.Text.{has_no_newline}
use Rattle.pd_lex.specs.declared.token.Place.{Place}
use Rattle.pd_lex.specs.declared.token.Token.{Token}
use Rattle.pd_lex.specs.Places.{first_place, between}
use Rattle.pd_lex.specs.Tokens.{Item, lexeme}
use Rattle.pd_lex.specs.Kinds.{stays_in_line}
use Rattle.pd_lex.specs.Lexing.{items, lexeme_of}
use Rattle.pd_lex.specs.Next.{IsTokenAt}
use Rattle.pd_script.specs.declared.script_header.HeaderItem.{HeaderItem}
use Rattle.pd_script.specs.Items.{is_header, next_is}
use Rattle.pd_script.specs.Cursor.{given, IsItemAt, shown}
use Rattle.pd_script.specs.Header.{HeaderView, header_item, place_after_item, HasEnd}
use Rattle.pd_script.specs.Script.{header_of, header_end, header_in, after_header}
use Rattle.pd_script.proofs.Placed.{token_after}
use Rattle.pd_script.proofs.Taking.{alike}

-- ---- what was taken of the header, and what is left

pub record SoFar (taken : HeaderView) (now all : List Item) : Type 0 where
  pub items : taken.items ++ header_of now ≡ header_of all
  pub end : header_end taken.end now ≡ header_end first_place all
  pub after : after_header now ≡ after_header all

pub nothing_taken : (all : List Item) → SoFar (record { items = []; end = first_place }) all all
nothing_taken all = record { items = refl; end = refl; after = refl }

is_given : (t : Item) (item : HeaderItem) → given is_header (λ u. header_item u) t ≡ Some item → (is_header t ≡ true) × (header_item t ≡ item)
is_given t item e = by_test (is_header t) refl
  where
    by_test : (b : Bool) → is_header t ≡ b → (is_header t ≡ true) × (header_item t ≡ item)
    by_test true h = (h, (let got = rw h at e in cc))
    by_test false h = absurd (let got = rw h at e in cc)

is_not_given : (t : Item) → given is_header (λ u. header_item u) t ≡ None → is_header t ≡ false
is_not_given t e = by_test (is_header t) refl
  where
    by_test : (b : Bool) → is_header t ≡ b → is_header t ≡ false
    by_test true h = absurd (let got = rw h at e in cc)
    by_test false h = h

one_taken : (taken : HeaderView) (t : Item) (ts all : List Item) (item : HeaderItem) → SoFar taken (t ∷ ts) all → is_header t ≡ true → header_item t ≡ item → SoFar (record { items = taken.items ++ item ∷ []; end = place_after_item taken.end t }) ts all
one_taken taken t ts all item so_far h value =
    let items : taken.items ++ header_of (t ∷ ts) ≡ taken.items ++ item ∷ header_of ts = rw (h, value) refl in
    let end : header_end taken.end (t ∷ ts) ≡ header_end (place_after_item taken.end t) ts = rw h refl in
    let left : after_header (t ∷ ts) ≡ after_header ts = rw h refl in
    record { items = append_assoc taken.items (item ∷ []) (header_of ts) ∙ sym items ∙ so_far.items; end = sym end ∙ so_far.end; after = sym left ∙ so_far.after }

stop : (taken : HeaderView) (now all : List Item) → header_of now ≡ [] → header_end taken.end now ≡ taken.end → after_header now ≡ now → SoFar taken now all → (taken ≡ header_in all) × (now ≡ after_header all)
stop taken now all none end left so_far =
    let items_are : taken.items ≡ header_of all = sym (append-nil taken.items) ∙ ap (λ (x : List HeaderItem). taken.items ++ x) (sym none) ∙ so_far.items in
    let end_is : taken.end ≡ header_end first_place all = sym end ∙ so_far.end in
    (heading_is items_are end_is, sym left ∙ so_far.after)
  where
    heading_is : taken.items ≡ header_of all → taken.end ≡ header_end first_place all → taken ≡ header_in all
    heading_is i e =
        let one : ◌≡◌ {A = HeaderView} (record { items = taken.items; end = taken.end }) (record { items = header_of all; end = taken.end }) = ap (λ (x : List HeaderItem). record { items = x; end = taken.end }) i in
        let two : ◌≡◌ {A = HeaderView} (record { items = header_of all; end = taken.end }) (record { items = header_of all; end = header_end first_place all }) = ap (λ (x : Place). record { items = header_of all; end = x }) e in
        one ∙ two

-- ---- a token as the lexer answers it

module _ (lines : List (List ℕ)) (t : Token) (h : stays_in_line t.kind ≡ true → t.text.now ≡ (lexeme_of lines t).text) where
  same_given : given is_header (λ u. header_item u) (lexeme (lexeme_of lines t)) ≡ given is_header (λ u. header_item u) (shown t)
  unfolding lexeme_of
  same_given = alike (λ (i : Item). given is_header (λ u. header_item u) i) t.kind (between lines t.from t.to) t.text.now t.from (λ stays. sym (h stays)) refl refl refl

  there : (place : Place) → list_all has_no_newline lines ≡ true → (p : Place) → IsTokenAt lines p t → place_after_item place (lexeme (lexeme_of lines t)) ≡ t.to
  unfolding lexeme_of
  there place plain p at = token_after lines plain p t at

  pub header_item_there : list_all has_no_newline lines ≡ true → (p : Place) → IsTokenAt lines p t → items lines p ≡ lexeme (lexeme_of lines t) ∷ items lines t.to → (item : HeaderItem) → given is_header (λ u. header_item u) (shown t) ≡ Some item → IsItemAt lines p item t.to
  header_item_there plain p at next item e =
      let G = is_given (lexeme (lexeme_of lines t)) item (same_given ∙ e) in
      record { token = lexeme (lexeme_of lines t); next = next; test = G.0; value = G.1; end = there p plain p at }

  pub no_header_item : (p : Place) → items lines p ≡ lexeme (lexeme_of lines t) ∷ items lines t.to → given is_header (λ u. header_item u) (shown t) ≡ None → next_is is_header (items lines p) ≡ false
  no_header_item p next e = rw next (is_not_given (lexeme (lexeme_of lines t)) (same_given ∙ e))

pub header_goes_on : (lines : List (List ℕ)) (taken : HeaderView) (all : List Item) (item : HeaderItem) (after : Place) → IsItemAt lines taken.end item after → SoFar taken (items lines taken.end) all → SoFar (record { items = taken.items ++ item ∷ []; end = after }) (items lines after) all × (length (items lines after) < length (items lines taken.end))
header_goes_on lines taken all item after at so_far =
    let more = one_taken taken at.token (items lines after) all item (rw at.next at so_far) at.test at.value in
    let ends : place_after_item taken.end at.token ≡ after = at.end in
    (rw ends at more, omega (arith, ap length at.next))

pub header_stops : (taken : HeaderView) (now all : List Item) → next_is is_header now ≡ false → SoFar taken now all → (taken ≡ header_in all) × (now ≡ after_header all)
header_stops taken [] all h so_far = stop taken [] all refl refl refl so_far
header_stops taken (t ∷ ts) all h so_far = stop taken (t ∷ ts) all (rw h refl) (rw h refl) (rw h refl) so_far

-- ---- the header's end

fold_end : (place : Place) (ts : List Item) → header_end place ts ≡ fold place_after_item place (take (length (header_of ts)) ts)
fold_end place [] = refl
fold_end place (t ∷ ts) = by_test (is_header t) refl (fold_end (place_after_item place t) ts)
  where
    by_test : (b : Bool) → is_header t ≡ b → header_end (place_after_item place t) ts ≡ fold place_after_item (place_after_item place t) (take (length (header_of ts)) ts) → header_end place (t ∷ ts) ≡ fold place_after_item place (take (length (header_of (t ∷ ts))) (t ∷ ts))
    by_test true h ih = rw h ih
    by_test false h ih = rw h refl

pub header_has_end : (ts : List Item) → HasEnd ts (header_in ts)
header_has_end ts = fold_end first_place ts
