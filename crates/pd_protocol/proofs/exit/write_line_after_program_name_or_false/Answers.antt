use Rattle.std.proofs.Common.{codes, false, ◌++◌}
use Rattle.pd_protocol.proofs.Writing.{says_front, says_then}
use Rattle.pd_protocol.proofs.exit.write_line_after_program_name_or_false.Goals as goal

pub returns-then-not-write_all_or_false : goal.returns-then-not-write_all_or_false
returns-then-not-write_all_or_false g c =
    says_front (g.E.Write.contents c.args.err.now) (g.E.Write.contents c.write_all_or_false.new.err) c.args.program.now (codes ": " ++ c.args.text.now ++ codes "\n") (rw (c.as_bytes.ensures.value, c.if-not-write_all_or_false.true) at c.write_all_or_false.ensures)

pub returns-then-not-write_all_or_false-2 : goal.returns-then-not-write_all_or_false-2
returns-then-not-write_all_or_false-2 g c =
    let named = rw (c.as_bytes.ensures.value, c.if-not-write_all_or_false.false) at c.write_all_or_false.ensures in
    says_then false (g.E.Write.contents c.args.err.now) (g.E.Write.contents c.write_all_or_false.new.err) (g.E.Write.contents c.write_all_or_false-2.new.err) c.args.program.now (codes ": " ++ c.args.text.now ++ codes "\n") named
    (says_front (g.E.Write.contents c.write_all_or_false.new.err) (g.E.Write.contents c.write_all_or_false-2.new.err) (codes ": ") (c.args.text.now ++ codes "\n") (rw c.if-not-write_all_or_false-2.true at c.write_all_or_false-2.ensures))

pub returns-then-not-write_all_or_false-3 : goal.returns-then-not-write_all_or_false-3
returns-then-not-write_all_or_false-3 g c =
    let named = rw (c.as_bytes.ensures.value, c.if-not-write_all_or_false.false) at c.write_all_or_false.ensures in
    let stderr_ok = rw (c.as_bytes-2.ensures.value, c.if-not-write_all_or_false-3.true) at c.write_all_or_false-3.ensures in
    says_then false (g.E.Write.contents c.args.err.now) (g.E.Write.contents c.write_all_or_false.new.err) (g.E.Write.contents c.write_all_or_false-3.new.err) c.args.program.now (codes ": " ++ c.args.text.now ++ codes "\n") named
    (says_then false (g.E.Write.contents c.write_all_or_false.new.err) (g.E.Write.contents c.write_all_or_false-2.new.err) (g.E.Write.contents c.write_all_or_false-3.new.err) (codes ": ") (c.args.text.now ++ codes "\n") (rw c.if-not-write_all_or_false-2.false at c.write_all_or_false-2.ensures)
    (says_front (g.E.Write.contents c.write_all_or_false-2.new.err) (g.E.Write.contents c.write_all_or_false-3.new.err) c.args.text.now (codes "\n") stderr_ok))

pub returns : goal.returns
returns g c =
    let named = rw (c.as_bytes.ensures.value, c.if-not-write_all_or_false.false) at c.write_all_or_false.ensures in
    let stderr_ok = rw (c.as_bytes-2.ensures.value, c.if-not-write_all_or_false-3.false) at c.write_all_or_false-3.ensures in
    says_then c.write_all_or_false-4.result (g.E.Write.contents c.args.err.now) (g.E.Write.contents c.write_all_or_false.new.err) (g.E.Write.contents c.write_all_or_false-4.new.err) c.args.program.now (codes ": " ++ c.args.text.now ++ codes "\n") named
    (says_then c.write_all_or_false-4.result (g.E.Write.contents c.write_all_or_false.new.err) (g.E.Write.contents c.write_all_or_false-2.new.err) (g.E.Write.contents c.write_all_or_false-4.new.err) (codes ": ") (c.args.text.now ++ codes "\n") (rw c.if-not-write_all_or_false-2.false at c.write_all_or_false-2.ensures)
    (says_then c.write_all_or_false-4.result (g.E.Write.contents c.write_all_or_false-2.new.err) (g.E.Write.contents c.write_all_or_false-3.new.err) (g.E.Write.contents c.write_all_or_false-4.new.err) c.args.text.now (codes "\n") stderr_ok c.write_all_or_false-4.ensures))
