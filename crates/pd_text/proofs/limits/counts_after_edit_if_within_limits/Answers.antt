-- The limits after an edit.
use Rattle.std.proofs.Common.{◌+◌, ◌-◌, arith}
use Rattle.pd_text.specs.Edit.{edited}
use Rattle.pd_text.proofs.Ranges.{range_within, at_least}
use Rattle.pd_text.proofs.EditedLines.{in_range, edited_length, edited_octets, fits_known, not_fitting}
use Rattle.pd_text.proofs.limits.counts_after_edit_if_within_limits.Goals.{then-more-lines-via-then-more-lines, then-more-lines-via-else-more-lines+then-more-room, then-more-lines-via-else-more-lines+else-more-room+then-octet_count_without_newlines-room}
use Rattle.pd_text.proofs.limits.counts_after_edit_if_within_limits.Goals as goal

pub overflow_sub-octets : goal.overflow_sub-octets
overflow_sub-octets c =
    let text = c.args.text.now in
    let first = c.args.edit.now.from - 1 in
    let remove = first + c.args.edit.now.remove - first in
    let range = in_range text c.args.edit.now c.requires.range in
    let within = range_within text first remove (omega (arith, range.0, range.1)) in
    omega (arith, range.0, range.1, within, c.octet_count_between_without_newlines.ensures, c.octet_count_without_newlines.ensures)

pub returns-then-more-lines : goal.returns-then-more-lines
returns-then-more-lines c =
    let text = c.args.text.now in
    let edit = c.args.edit.now in
    let range = in_range text edit c.requires.range in
    let lines = edited_length text edit c.requires.range in
    let octets = edited_octets text edit in
    let first = edit.from - 1 in
    let within = range_within text first (first + edit.remove - first) (omega (arith, range.0, range.1)) in
    not_fitting (edited text edit) (λ a b. elim c.then-more-lines.branch [
      | then-more-lines-via-then-more-lines w ↦ omega (arith, a, b, range.0, range.1, lines, octets, within, w.if-more-lines.true, c.len.ensures.len, c.len-more.ensures.len, c.octet_count_without_newlines.ensures, c.octet_count_between_without_newlines.ensures)
      | then-more-lines-via-else-more-lines+then-more-room w ↦ omega (arith, a, b, range.0, range.1, lines, octets, within, at_least edit.insert, w.if-more-room.true, c.len.ensures.len, c.len-more.ensures.len, c.octet_count_without_newlines.ensures, c.octet_count_between_without_newlines.ensures)
      | then-more-lines-via-else-more-lines+else-more-room+then-octet_count_without_newlines-room w ↦ omega (arith, a, b, range.0, range.1, lines, octets, within, w.if-octet_count_without_newlines-room.true, w.octet_count_without_newlines-else-more-room.ensures, c.len.ensures.len, c.len-more.ensures.len, c.octet_count_without_newlines.ensures, c.octet_count_between_without_newlines.ensures)
    ])

pub returns : goal.returns
returns c =
    let text = c.args.text.now in
    let edit = c.args.edit.now in
    let range = in_range text edit c.requires.range in
    let lines = edited_length text edit c.requires.range in
    let octets = edited_octets text edit in
    let first = edit.from - 1 in
    let within = range_within text first (first + edit.remove - first) (omega (arith, range.0, range.1)) in
    fits_known (edited text edit)
    (omega (arith, range.0, range.1, lines, c.if-more-lines.false, c.len.ensures.len, c.len-more.ensures.len))
    (omega (arith, range.0, range.1, lines, octets, within, c.if-more-room.false, c.if-octet_count_without_newlines-room.false, c.octet_count_without_newlines-else-more-room.ensures, c.len.ensures.len, c.len-more.ensures.len, c.octet_count_without_newlines.ensures, c.octet_count_between_without_newlines.ensures))
