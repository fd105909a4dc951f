-- The first line of a block, and the block after it.
use Rattle.std.proofs.Common.{◌≡◌, ◌∙◌, ℕ, ◌+◌, ◌-◌, nat_le, true, List, Option, Some, None, slice_get, if◌then◌else◌, sym, ap, arith, tests}
use Rattle.pd_layout.proofs.NextLines.{lines_between_next}
use Rattle.pd_layout.proofs.line_cursor.LineCursor.split_first.Goals as goal

-- the line after some lines, counted from 1
line_got : (text : List (List ℕ)) (from : ℕ) (o : Option (List ℕ)) → o ≡ (if nat_le 1 (from + 1) then slice_get text (from + 1 - 1) else None) → slice_get text from ≡ o
line_got text from o h =
    let within : nat_le 1 (from + 1) ≡ true = search (arith, tests) in
    let same : slice_get text (from + 1 - 1) ≡ slice_get text from = ap (slice_get text) (omega arith) in
    sym (h ∙ (rw within same))

pub returns : goal.returns
returns c = lines_between_next c.args.self.lines.now c.args.self.from c.args.self.until c.in_ok-line.line.now c.if-self.false (line_got c.args.self.lines.now c.args.self.from (Some c.in_ok-line.line.now) c.in_ok-line.ensures.line)
