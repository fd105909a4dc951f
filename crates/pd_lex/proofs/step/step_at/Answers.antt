-- Each piece of the line as a step over the text.
use Rattle.pd_lex.proofs.Steps.{step_blank, step_whole, step_stray, step_closed, step_open}
use Rattle.pd_lex.proofs.step.step_at.Goals as goal

pub returns-in-Blank : goal.returns-in-Blank
returns-in-Blank c =
    step_blank c.args.lines.now c.args.place c.requires.place c.requires.line c.args.rest.now c.in-Blank.n c.requires.rest_is c.in-Blank.ensures.piece c.requires.some c.in-Blank.ensures.within

pub returns-in-Whole : goal.returns-in-Whole
returns-in-Whole c =
    step_whole c.args.lines.now c.args.place c.requires.place c.requires.line c.args.rest.now c.in-Whole.kind c.in-Whole.n c.requires.rest_is c.in-Whole.ensures.piece c.requires.some c.in-Whole.ensures.within

pub returns-in-Some : goal.returns-in-Some
returns-in-Some c =
    step_closed c.args.lines.now c.args.place c.requires.place c.requires.line c.args.rest.now c.in-Open.opener c.requires.rest_is c.in-Open.ensures.piece c.requires.some c.in-Open.ensures.within c.in-Some.after (rw c.len.ensures at c.in-Some.ensures) c.gap_or_token_of_closed_piece.result c.gap_or_token_of_closed_piece.ensures

pub returns-in-None : goal.returns-in-None
returns-in-None c =
    step_open c.args.lines.now c.args.place c.requires.place c.requires.line c.args.rest.now c.in-Open.opener c.requires.rest_is c.in-Open.ensures.piece c.requires.some c.in-Open.ensures.within (rw c.len.ensures at c.in-None.ensures)

pub returns-in-Stray : goal.returns-in-Stray
returns-in-Stray c =
    step_stray c.args.lines.now c.args.place c.requires.place c.requires.line c.args.rest.now c.requires.rest_is c.in-Stray.ensures.piece c.requires.some
