-- Tokens and the parts that begin with them, one after the other.
use Rattle.std.proofs.Common.{◌≡◌, ◌∙◌, ℕ, ◌<◌, ◌+◌, Bool, true, false, List, ◌∷◌, length, Some, None, if◌then◌else◌, refl, sym, ap, arith}
use Rattle.pd_lex.specs.declared.token.Place.{Place}
use Rattle.pd_lex.specs.declared.token.Token.{Token}
use Rattle.pd_lex.specs.declared.token.Lexed.{Lexed}
use Rattle.pd_lex.specs.declared.token.Lexed.TheVariants as lexed
use Rattle.pd_lex.specs.Kinds.{stays_in_line}
use Rattle.pd_lex.specs.Lexing.{items, lexeme_of, IsNext}
use Rattle.pd_lex.specs.Places.{between}
use Rattle.pd_lex.specs.Tokens.{Item, lexeme, ending, bad}
use Rattle.pd_script.proofs.Taking.{alike}
use Rattle.pd_refusal.specs.Parts.{role_of, is_part, found, after_role}
use Rattle.pd_refusal.specs.declared.parts.rule_part.RulePart.{RulePart}
use Rattle.pd_refusal.specs.declared.parts.token_roles.TokenRole.{TokenRole}
use Rattle.pd_refusal.specs.declared.parts.token_roles.TokenRole.TheVariants as sign_is
use Rattle.pd_refusal.specs.declared.parts.nesting.Nesting.{Nesting}

-- the sign of an item
abbrev item_sign : Item → TokenRole
item_sign (lexeme x) = role_of x.kind x.text
item_sign (ending line) = sign_is.Other
item_sign (bad line) = sign_is.Other

module _ (lines : List (List ℕ)) (t : Token) (h : stays_in_line t.kind ≡ true → t.text.now ≡ (lexeme_of lines t).text) where
  pub sign_alike : role_of (lexeme_of lines t).kind (lexeme_of lines t).text ≡ role_of t.kind t.text.now
  unfolding lexeme_of
  sign_alike = alike item_sign t.kind (between lines t.from t.to) t.text.now t.from (λ stays. sym (h stays)) refl refl refl

  module _ (p : RulePart) (b : Nesting) (place : Place) (s : TokenRole) (is : s ≡ role_of t.kind t.text.now) (next : items lines place ≡ lexeme (lexeme_of lines t) ∷ items lines t.to) where
    tested : (v : Bool) → is_part p b s ≡ v → is_part p b (role_of (lexeme_of lines t).kind (lexeme_of lines t).text) ≡ v
    tested v e = ap (λ (x : TokenRole). is_part p b x) (sign_alike ∙ sym is) ∙ e

    begun : (v : Bool) → is_part p b (role_of (lexeme_of lines t).kind (lexeme_of lines t).text) ≡ v
        → found p b (lexeme (lexeme_of lines t) ∷ items lines t.to)
        ≡ (if v then Some (lexeme_of lines t).from else found p (after_role b (role_of (lexeme_of lines t).kind (lexeme_of lines t).text)) (items lines t.to))
    begun v e = rw e refl

    -- the part begins with the token
    pub finds : is_part p b s ≡ true → found p b (items lines place) ≡ Some t.from
    unfolding lexeme_of
    finds e = ap (λ (ts : List Item). found p b ts) next ∙ begun true (tested true e)

    -- the part is looked for after the token
    pub goes_on : is_part p b s ≡ false → found p b (items lines place) ≡ found p (after_role b s) (items lines t.to)
    goes_on e =
        ap (λ (ts : List Item). found p b ts) next
        ∙ (begun false (tested false e) ∙ ap (λ (x : TokenRole). found p (after_role b x) (items lines t.to)) (sign_alike ∙ sym is))

    -- one item fewer is left
    pub fewer : length (items lines t.to) < length (items lines place)
    fewer =
        let one : length (items lines place) ≡ length (items lines t.to) + 1 = ap length next ∙ omega arith in
        omega (arith, one)

-- no part begins where no token is left
pub none_left : (lines : List (List ℕ)) (p : RulePart) (b : Nesting) (place : Place) (next : Lexed)
    → IsNext lines place next → ((t : Token) → next ≡ lexed.Token t → ⊥) → found p b (items lines place) ≡ None
none_left lines p b place (lexed.Token t) is not = absurd (not t refl)
none_left lines p b place lexed.End is not = ap (λ (ts : List Item). found p b ts) is
none_left lines p b place (lexed.Bad line) is not = ap (λ (ts : List Item). found p b ts) is
