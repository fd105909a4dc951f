-- Each turn goes past a token with which the part doesn't begin.
use Rattle.std.proofs.Common.{ap, sym, ◌∙◌}
use Rattle.pd_lex.specs.Lexing.{items}
use Rattle.pd_refusal.specs.Parts.{found}
use Rattle.pd_refusal.specs.declared.parts.nesting.Nesting.{Nesting}
use Rattle.pd_refusal.proofs.PartLemmas.{finds, goes_on, fewer, none_left}
use Rattle.pd_refusal.proofs.parts.locate.find_part.Goals as goal

pub tokens-init : goal.tokens-init
tokens-init c = ap (λ (b : Nesting). found c.args.part b (items c.args.lines.now c.args.from)) c.before_first_token-before.ensures

pub returns-in_default : goal.returns-in_default
returns-in_default c =
    sym (none_left c.args.lines.now c.args.part c.tokens.before c.tokens.place c.next_token.result c.next_token.ensures.next c.in_default.not-Token)
    ∙ c.tokens.invariant

pub returns-then-begins_with_token : goal.returns-then-begins_with_token
returns-then-begins_with_token c =
    sym (finds c.args.lines.now c.in-Token.token c.in-Token.ensures.text c.args.part c.tokens.before c.tokens.place c.of-role.result c.of-role.ensures c.in-Token.ensures.next (sym c.begins_with_token.ensures ∙ c.if-begins_with_token.true))
    ∙ c.tokens.invariant

pub tokens-smaller : goal.tokens-smaller
tokens-smaller c = fewer c.args.lines.now c.in-Token.token c.in-Token.ensures.text c.args.part c.tokens.before c.tokens.place c.of-role.result c.of-role.ensures c.in-Token.ensures.next

pub tokens-preserved : goal.tokens-preserved
tokens-preserved c =
    ap (λ (b : Nesting). found c.args.part b (items c.args.lines.now c.in-Token.token.to)) c.after_token-before.ensures
    ∙ (sym (goes_on c.args.lines.now c.in-Token.token c.in-Token.ensures.text c.args.part c.tokens.before c.tokens.place c.of-role.result c.of-role.ensures c.in-Token.ensures.next (sym c.begins_with_token.ensures ∙ c.if-begins_with_token.false))
    ∙ c.tokens.invariant)
