use Rattle.std.proofs.Common.{◌∷◌, [], arith, length-append}
use Rattle.pd_protocol.proofs.BuildText.{is_line_of, octets_more}
use Rattle.pd_protocol.proofs.text_builder.TextBuilder.add_line_or_mark_too_large.Goals as goal

pub push-requires : goal.push-requires
push-requires c = is_line_of c.args.line.now c.requires

pub invariant_of-self-2 : goal.invariant_of-self-2
invariant_of-self-2 c =
    let i = c.self.invariant in
    let p = c.in_ok-push.ensures.ok in
    let more = octets_more c.self.inside.lines c.args.line.now in
    (rw p (grind (arith, more, i.0)), omega (arith, c.if-n-self.false, c.self.invariant.1), rw p (omega (arith, length-append c.self.inside.lines (c.args.line.now ∷ []), c.if-len-ge-MAX_LINES.false, c.len.ensures.len)))
