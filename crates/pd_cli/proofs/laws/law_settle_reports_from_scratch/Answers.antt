-- The reports of serving are those of the book's laws.
use Rattle.std.proofs.Common.{refl}
use Rattle.pd_cli.proofs.Passage.{output_goes_on, stories_legal, settles_scratch}
use Rattle.pd_cli.proofs.Grammatical.{writes_output}
use Rattle.pd_cli.proofs.Possible.{alone_possible, sessions_possible}
use Rattle.pd_cli.proofs.laws.law_settle_reports_from_scratch.Goals as goal

pub returns-clause-output : goal.returns-clause-output
returns-clause-output c = output_goes_on

pub returns-clause-legal : goal.returns-clause-legal
returns-clause-legal c = stories_legal (record { adds = c.law_acts_are_accepted_iff_legal.ensures.adds; edits = c.law_acts_are_accepted_iff_legal.ensures.edits; removes = c.law_acts_are_accepted_iff_legal.ensures.removes; sets = c.law_acts_are_accepted_iff_legal.ensures.sets; settles = c.law_settling_ends_with_none_pending.ensures.settles })

pub returns-clause-settles : goal.returns-clause-settles
returns-clause-settles c = settles_scratch (record { adds = c.law_acts_are_accepted_iff_legal.ensures.adds; edits = c.law_acts_are_accepted_iff_legal.ensures.edits; removes = c.law_acts_are_accepted_iff_legal.ensures.removes; sets = c.law_acts_are_accepted_iff_legal.ensures.sets; settles = c.law_settling_ends_with_none_pending.ensures.settles })

pub returns-clause-shows : goal.returns-clause-shows
returns-clause-shows c = λ history. (refl, c.law_verdicts_are_of_current_runs.ensures.rows history.opening history.past)

pub returns-clause-beside : goal.returns-clause-beside
returns-clause-beside c =
    alone_possible c.law_verdicts_are_of_current_runs.ensures.one c.law_verdicts_are_of_current_runs.ensures.rows
    (settles_scratch (record { adds = c.law_acts_are_accepted_iff_legal.ensures.adds; edits = c.law_acts_are_accepted_iff_legal.ensures.edits; removes = c.law_acts_are_accepted_iff_legal.ensures.removes; sets = c.law_acts_are_accepted_iff_legal.ensures.sets; settles = c.law_settling_ends_with_none_pending.ensures.settles }))

pub returns-clause-sessions : goal.returns-clause-sessions
returns-clause-sessions c = sessions_possible (alone_possible c.law_verdicts_are_of_current_runs.ensures.one c.law_verdicts_are_of_current_runs.ensures.rows (settles_scratch (record { adds = c.law_acts_are_accepted_iff_legal.ensures.adds; edits = c.law_acts_are_accepted_iff_legal.ensures.edits; removes = c.law_acts_are_accepted_iff_legal.ensures.removes; sets = c.law_acts_are_accepted_iff_legal.ensures.sets; settles = c.law_settling_ends_with_none_pending.ensures.settles })))

pub returns-clause-written : goal.returns-clause-written
returns-clause-written c =
    writes_output
    (record {
      book = record { adds = c.law_acts_are_accepted_iff_legal.ensures.adds; edits = c.law_acts_are_accepted_iff_legal.ensures.edits; removes = c.law_acts_are_accepted_iff_legal.ensures.removes; sets = c.law_acts_are_accepted_iff_legal.ensures.sets; settles = c.law_settling_ends_with_none_pending.ensures.settles };
      parts = c.law_verdicts_are_of_current_runs.ensures.parts;
      one = c.law_verdicts_are_of_current_runs.ensures.one;
      turns = c.law_settling_ends_with_none_pending.ensures.turns;
      enough = c.law_settling_ends_with_none_pending.ensures.enough;
    })
