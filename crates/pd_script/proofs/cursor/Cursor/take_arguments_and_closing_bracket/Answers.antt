use Rattle.std.proofs.Common.{◌≡◌, ◌∙◌, sym, ap, List, [], ◌∷◌, true, false}
use Rattle.std.proofs.lemmas.Result.{err_from_is_err_and}
use Rattle.pd_script.specs.Items.{is_symbol, next_is}
use Rattle.pd_script.specs.Reader.{Read, onto, machine_at}
use Rattle.pd_script.specs.ArgumentReading.{argument_move, at_start, built_argument, part_at, is_between, is_empty}
use Rattle.pd_script.specs.EventReading.{arguments_at}
use Rattle.pd_script.specs.declared.calls.Argument.{Argument}
use Rattle.pd_script.proofs.ArgumentSteps.{onto-nil, onto-append, part_goes, part_stuck, empty_stuck, last_ends, comma_parts, no_arguments, some_arguments, emptied}
use Rattle.pd_script.proofs.Taking.{err_moves}
use Rattle.pd_script.proofs.cursor.Cursor.take_arguments_and_closing_bracket.Goals as goal

pub returns-then-is_symbol : goal.returns-then-is_symbol
returns-then-is_symbol c = rw (c.new-arguments.ensures, c.advance.ensures) (no_arguments c.args.self.now (sym c.is_symbol.ensures ∙ c.if-is_symbol.true))

pub tokens-init : goal.tokens-init
tokens-init c =
    let some = some_arguments c.args.self.now (sym c.is_symbol.ensures ∙ c.if-is_symbol.false) in
    rw (c.new-arguments.ensures, c.at_start-inside.ensures) (onto-nil (machine_at argument_move at_start c.args.self.now) ∙ sym some)

pub returns-in_err-take_argument_token_into_context : goal.returns-in_err-take_argument_token_into_context
returns-in_err-take_argument_token_into_context c =
    let p = err_from_is_err_and c.from_residual.result c.from_residual.ensures.1 in
    rw (p.1, p.2) (err_moves c.in_err-take_argument_token_into_context.field-0.0 c.take_argument_token_into_context.new.inside c.take_argument_token_into_context.new.self (part_at c.tokens.inside c.tokens.self) (arguments_at c.args.self.now) (rw c.in_err-take_argument_token_into_context.was at c.take_argument_token_into_context.ensures) (λ e. sym c.tokens.invariant ∙ ap (λ (r : Read (List Argument)). onto c.tokens.arguments r) (part_stuck c.tokens.inside c.tokens.self c.take_argument_token_into_context.new.self (cc (c.is_at_argument_end.ensures, c.if-not-is_at_argument_end.true)) e)))

pub tokens-preserved-then-not-is_at_argument_end : goal.tokens-preserved-then-not-is_at_argument_end
tokens-preserved-then-not-is_at_argument_end c =
    let got = rw c.in_ok-take_argument_token_into_context.was at c.take_argument_token_into_context.ensures in
    let G = part_goes c.tokens.inside c.take_argument_token_into_context.new.inside c.tokens.self c.take_argument_token_into_context.new.self (cc (c.is_at_argument_end.ensures, c.if-not-is_at_argument_end.true)) got in
    ap (λ (r : Read (List Argument)). onto c.tokens.arguments r) (sym G.0) ∙ c.tokens.invariant

pub returns-then-is_empty : goal.returns-then-is_empty
returns-then-is_empty c =
    let stop : is_between c.tokens.inside c.tokens.self ≡ true = cc (c.is_at_argument_end.ensures, c.if-not-is_at_argument_end.false) in
    let none : is_empty c.tokens.inside.builder ≡ true = cc (c.is_empty.ensures, c.if-is_empty.true) in
    sym c.tokens.invariant ∙ ap (λ (r : Read (List Argument)). onto c.tokens.arguments r) (empty_stuck c.tokens.inside c.tokens.self stop none)

pub returns-then-is_symbol-2 : goal.returns-then-is_symbol-2
returns-then-is_symbol-2 c =
    let stop : is_between c.tokens.inside c.tokens.self ≡ true = cc (c.is_at_argument_end.ensures, c.if-not-is_at_argument_end.false) in
    let some : is_empty c.tokens.inside.builder ≡ false = cc (c.is_empty.ensures, c.if-is_empty.false) in
    let closing : next_is (is_symbol 41) c.tokens.self ≡ true = cc (c.is_symbol-in-tokens.ensures, c.if-is_symbol-2.true) in
    rw (c.in_ok-push.ensures, c.argument.ensures, c.advance-then-is_symbol-2.ensures) (sym c.tokens.invariant ∙ ap (λ (r : Read (List Argument)). onto c.tokens.arguments r) (last_ends c.tokens.inside c.tokens.self stop some closing))

pub tokens-preserved : goal.tokens-preserved
tokens-preserved c =
    let stop : is_between c.tokens.inside c.tokens.self ≡ true = cc (c.is_at_argument_end.ensures, c.if-not-is_at_argument_end.false) in
    let some : is_empty c.tokens.inside.builder ≡ false = cc (c.is_empty.ensures, c.if-is_empty.false) in
    let comma : next_is (is_symbol 41) c.tokens.self ≡ false = cc (c.is_symbol-in-tokens.ensures, c.if-is_symbol-2.false) in
    let P = comma_parts c.tokens.inside c.tokens.self stop some comma in
    rw (c.in_ok-push.ensures, c.argument.ensures, c.advance-in-tokens.ensures, emptied c.tokens.inside c.tokens.self stop) (onto-append c.tokens.arguments (built_argument c.tokens.inside.builder ∷ []) _ ∙ ap (λ (r : Read (List Argument)). onto c.tokens.arguments r) (sym P.0) ∙ c.tokens.invariant)
