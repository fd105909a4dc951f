use Rattle.std.proofs.Common.{Some}
use Rattle.pd_protocol.specs.Input.{to_come}
use Rattle.pd_protocol.specs.Commands.{line_edit_if_lines_are_some}
use Rattle.pd_protocol.specs.NextCommand.{TakesLines, HasCommandLine, Gives}
use Rattle.pd_protocol.specs.declared.command_line.CommandLine.TheVariants as asks
use Rattle.pd_protocol.specs.declared.command.Command.TheVariants.{Add, Edit}
use Rattle.pd_protocol.proofs.Known.{known_then}
use Rattle.pd_protocol.proofs.BuildText.{gives_add, gives_edit}
use Rattle.pd_protocol.proofs.command.next_command.Goals as goal

pub returns-in_ok-lines-in-Some-Add-clause-command : goal.returns-in_ok-lines-in-Some-Add-clause-command
returns-in_ok-lines-in-Some-Add-clause-command g c =
    let t = c.in_ok-lines-in-Some-Add.lines in
    let asked = c.in-Some-Add in
    known_then (HasCommandLine (Some (asks.Add asked.name asked.count))) (TakesLines asked.count t) (Gives (Some (Add asked.name c.text_of_lines_or_none_if_over_limits.result)))
    (to_come c.args.line_reader.now (g.R.Read.remaining c.args.reader.now)) (to_come c.next_nonempty_command_line.new.line_reader (g.R.Read.remaining c.next_nonempty_command_line.new.reader)) (to_come c.read_all_lines_or_none_if_too_large.new.line_reader (g.R.Read.remaining c.read_all_lines_or_none_if_too_large.new.reader))
    (λ x y z. gives_add asked.name asked.count t c.text_of_lines_or_none_if_over_limits.result x y z c.text_of_lines_or_none_if_over_limits.ensures) (rw (c.in-Some-Add.is, c.in-Some-Add.field-0-is) at c.in_ok-name.ensures.command_line) c.in_ok-lines-in-Some-Add.ensures.lines

pub returns-in_ok-lines-in-Some-Edit-clause-command : goal.returns-in_ok-lines-in-Some-Edit-clause-command
returns-in_ok-lines-in-Some-Edit-clause-command g c =
    let t = c.in_ok-lines-in-Some-Edit.lines in
    let asked = c.in-Some-Edit in
    rw c.line_edit_if_lines_are_some.ensures (known_then (HasCommandLine (Some (asks.Edit asked.name asked.from asked.remove asked.count))) (TakesLines asked.count t) (Gives (Some (Edit asked.name (line_edit_if_lines_are_some asked.from asked.remove t))))
    (to_come c.args.line_reader.now (g.R.Read.remaining c.args.reader.now)) (to_come c.next_nonempty_command_line.new.line_reader (g.R.Read.remaining c.next_nonempty_command_line.new.reader)) (to_come c.read_all_lines_or_none_if_too_large-in-Some-Edit.new.line_reader (g.R.Read.remaining c.read_all_lines_or_none_if_too_large-in-Some-Edit.new.reader))
    (gives_edit asked.name asked.from asked.remove asked.count t) (rw (c.in-Some-Edit.is, c.in-Some-Edit.field-0-is) at c.in_ok-name.ensures.command_line) c.in_ok-lines-in-Some-Edit.ensures.lines)
