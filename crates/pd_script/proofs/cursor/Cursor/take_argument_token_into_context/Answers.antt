-- The token as it is shown opens and closes the same pairs.
use Rattle.std.proofs.Common.{◌≡◌}
use Rattle.std.proofs.lemmas.Result.{err_from_is_err_and}
use Rattle.pd_lex.specs.declared.token.Lexed.TheVariants as lexed
use Rattle.pd_script.specs.Cursor.{left}
use Rattle.pd_script.specs.ArgumentReading.{part_at}
use Rattle.pd_script.proofs.Taking.{moves_err, part_ok, part_err}
use Rattle.pd_script.proofs.cursor.Cursor.take_argument_token_into_context.Goals as goal

pub returns-in_err-update_by_token_within_depth : goal.returns-in_err-update_by_token_within_depth
returns-in_err-update_by_token_within_depth c =
    let p = err_from_is_err_and c.from_residual.result c.from_residual.ensures.1 in
    let is : c.self.inside.lookahead.next ≡ lexed.Token c.in-Token.token = cc c.in-Token.is in
    let old : c.args.self.now ≡ left c.self.inside.lines.now c.self.inside.lookahead.next = cc c.self.view_is in
    rw (p.1, p.2) (moves_err c.in_err-update_by_token_within_depth.field-0.0 _ c.args.self.now (part_at c.args.inside.now c.args.self.now) (part_err c.self.inside.lines.now c.self.inside.lookahead.next c.in-Token.token c.args.self.now is c.self.invariant.0 old c.args.inside.now c.in_err-update_by_token_within_depth.ensures.err))

pub returns : goal.returns
returns c =
    let is : c.self.inside.lookahead.next ≡ lexed.Token c.in-Token.token = cc c.in-Token.is in
    let old : c.args.self.now ≡ left c.self.inside.lines.now c.self.inside.lookahead.next = cc c.self.view_is in
    part_ok c.self.inside.lines.now c.self.inside.lookahead.next c.in-Token.token c.args.self.now is c.self.invariant.0 old c.advance_inline.new.self c.args.inside.now c.update_by_token_within_depth.new.self c.add_token.new.self c.advance_inline.ensures c.in_ok-update_by_token_within_depth.ensures.ok c.add_token.ensures
