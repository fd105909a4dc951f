use Rattle.std.proofs.Common.{◌≤◌, sym, subst, length}
use Rattle.pd_script.specs.declared.parsed.Parsed.{Parsed}
use Rattle.pd_lex.specs.Places.{first_place}
use Rattle.pd_lex.specs.Lexing.{items}
use Rattle.pd_script.specs.Header.{HasEnd}
use Rattle.pd_script.specs.Faults.{IsScriptOf}
use Rattle.pd_script.specs.Range.{HasLines}
use Rattle.pd_script.proofs.TextItems.{script_is_read, script_has_lines, script_is_short}
use Rattle.pd_script.proofs.OneScript.{script_is_so}
use Rattle.pd_script.proofs.read_script.parse.Goals as goal

pub returns-clause-read : goal.returns-clause-read
returns-clause-read c = let lines = c.args.lines.now in subst (λ (p : Parsed). IsScriptOf lines p) (sym c.in_ok-parsed.ensures) (script_is_so c.law_tokens_are_exactly_longest_pieces.ensures.items lines)

pub returns-clause-limit : goal.returns-clause-limit
returns-clause-limit c = subst (λ (p : Parsed). length p.events ≤ 4096) (sym c.in_ok-parsed.ensures) (script_is_short c.args.lines.now)

pub returns-clause-lines : goal.returns-clause-lines
returns-clause-lines c = let lines = c.args.lines.now in subst (λ (p : Parsed). HasLines lines p) (sym c.in_ok-parsed.ensures) (script_has_lines c.law_first_lines_fix_tokens_in_order.ensures.order lines c.law_invariant.ensures)

pub returns-clause-end : goal.returns-clause-end
returns-clause-end c = let lines = c.args.lines.now in subst (λ (p : Parsed). HasEnd (items lines first_place) p.header) (sym c.in_ok-parsed.ensures) (script_is_read lines).0
