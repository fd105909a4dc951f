-- Each turn goes past a token.
use Rattle.std.proofs.Common.{◌≡◌, ◌≤◌, ◌∙◌, ◌+◌, List, length, sym, ap, arith}
use Rattle.pd_lex.specs.Lexing.{items}
use Rattle.pd_lex.specs.Next.{HasText}
use Rattle.pd_lex.specs.Tokens.{Item}
use Rattle.pd_lex.specs.declared.token.Lexed.TheVariants as lexed
use Rattle.pd_script.specs.Cursor.{left}
use Rattle.pd_script.specs.Items.{is_symbol}
use Rattle.pd_layout.specs.Canonical.{first_outside}
use Rattle.pd_layout.proofs.Tokens.{goes_on, finds, fewer, few_items, what_is_left}
use Rattle.pd_layout.proofs.outside_brackets.find_place_of_symbol_outside_brackets.Goals as goal

pub depth_after_token-depth-requires : goal.depth_after_token-depth-requires
depth_after_token-depth-requires c = omega (arith, few_items c.args.lines.now c.args.from c.line-first.ensures.fits, c.tokens.invariant.few)

pub returns-then-is_symbol_outside : goal.returns-then-is_symbol_outside
returns-then-is_symbol_outside c =
    let was : c.tokens.lookahead.next ≡ lexed.Token c.in-Token.token = c.in-Token.is in
    let text : HasText c.args.lines.now (lexed.Token c.in-Token.token) = rw was at c.tokens.invariant.text in
    let same : first_outside (is_symbol c.args.octet) c.tokens.depth (left c.args.lines.now (lexed.Token c.in-Token.token)) ≡ first_outside (is_symbol c.args.octet) 0 (items c.args.lines.now c.args.from) = rw was at c.tokens.invariant.same in
    sym (finds c.args.lines.now c.in-Token.token text c.args.octet c.tokens.depth c.depth_after_token-depth.result c.depth_after_token-depth.ensures (sym c.is_symbol_outside.ensures ∙ c.if-is_symbol_outside.true))
    ∙ same

pub tokens-preserved : goal.tokens-preserved
tokens-preserved c =
    let was : c.tokens.lookahead.next ≡ lexed.Token c.in-Token.token = c.in-Token.is in
    let text : HasText c.args.lines.now (lexed.Token c.in-Token.token) = rw was at c.tokens.invariant.text in
    let same : first_outside (is_symbol c.args.octet) c.tokens.depth (left c.args.lines.now (lexed.Token c.in-Token.token)) ≡ first_outside (is_symbol c.args.octet) 0 (items c.args.lines.now c.args.from) = rw was at c.tokens.invariant.same in
    let few : c.tokens.depth + length (left c.args.lines.now (lexed.Token c.in-Token.token)) ≤ length (items c.args.lines.now c.args.from) = rw was at c.tokens.invariant.few in
    let next : items c.args.lines.now c.in-Token.token.to ≡ left c.args.lines.now c.advance_lookahead_from_place_in_its_line.new.lookahead.next =
    what_is_left c.args.lines.now c.in-Token.token.to c.advance_lookahead_from_place_in_its_line.new.lookahead.next c.advance_lookahead_from_place_in_its_line.ensures.next in
    record {
      same =
          ap (λ (ts : List Item). first_outside (is_symbol c.args.octet) c.depth_after_token-depth.result ts) (sym next)
          ∙ sym (goes_on c.args.lines.now c.in-Token.token text c.args.octet c.tokens.depth c.depth_after_token-depth.result c.depth_after_token-depth.ensures (sym c.is_symbol_outside.ensures ∙ c.if-is_symbol_outside.false))
          ∙ same;
      few =
          let less : c.depth_after_token-depth.result + length (items c.args.lines.now c.in-Token.token.to) ≤ c.tokens.depth + length (left c.args.lines.now (lexed.Token c.in-Token.token)) =
          fewer c.args.lines.now c.in-Token.token text c.args.octet c.tokens.depth c.depth_after_token-depth.result c.depth_after_token-depth.ensures in
          omega (arith, less, few, ap length next);
      text = c.advance_lookahead_from_place_in_its_line.ensures.text;
      line = c.advance_lookahead_from_place_in_its_line.ensures.after;
    }
