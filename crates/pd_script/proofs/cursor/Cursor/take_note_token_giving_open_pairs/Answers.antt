-- The token as it is shown opens and closes the same pairs.
use Rattle.std.proofs.Common.{◌≡◌}
use Rattle.std.proofs.lemmas.Result.{err_from_is_err_and}
use Rattle.pd_lex.specs.declared.token.Lexed.TheVariants as lexed
use Rattle.pd_script.specs.Cursor.{left}
use Rattle.pd_script.specs.ArgumentReading.{note_part_at}
use Rattle.pd_script.proofs.Taking.{leaves_err, note_ok, note_err}
use Rattle.pd_script.proofs.cursor.Cursor.take_note_token_giving_open_pairs.Goals as goal

pub returns-in_err-update_by_token_within_depth : goal.returns-in_err-update_by_token_within_depth
returns-in_err-update_by_token_within_depth c =
    let p = err_from_is_err_and c.from_residual.result c.from_residual.ensures.1 in
    let is : c.self.inside.lookahead.next ≡ lexed.Token c.in-Token.token = cc c.in-Token.is in
    let old : c.args.self.now ≡ left c.self.inside.lines.now c.self.inside.lookahead.next = cc c.self.view_is in
    rw (p.1, p.2) (leaves_err c.in_err-update_by_token_within_depth.field-0.0 c.args.self.now (note_part_at c.args.pairs c.args.self.now) (note_err c.self.inside.lines.now c.self.inside.lookahead.next c.in-Token.token c.args.self.now is c.self.invariant.0 old c.args.pairs c.in_err-update_by_token_within_depth.ensures.err))

pub returns : goal.returns
returns c =
    let is : c.self.inside.lookahead.next ≡ lexed.Token c.in-Token.token = cc c.in-Token.is in
    let old : c.args.self.now ≡ left c.self.inside.lines.now c.self.inside.lookahead.next = cc c.self.view_is in
    note_ok c.self.inside.lines.now c.self.inside.lookahead.next c.in-Token.token c.args.self.now is c.self.invariant.0 old c.advance.new.self c.args.pairs c.update_by_token_within_depth.new.self c.advance.ensures c.in_ok-update_by_token_within_depth.ensures.ok
