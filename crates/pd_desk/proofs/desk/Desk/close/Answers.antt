-- The book that was held is the one that the closing of a desk speaks of.
use Rattle.std.proofs.Common.{subst}
use Rattle.pd_seat.specs.Close.{RefusesClose}
use Rattle.pd_desk.proofs.desk.Desk.close.Goals as goal

pub returns-in-Err-MissingSeat-clause-err : goal.returns-in-Err-MissingSeat-clause-err
returns-in-Err-MissingSeat-clause-err c =
    let held = c.into_inner-held.result.held in
    let back = subst (RefusesClose held c.args.seats.items) c.in-Err-MissingSeat.field-0-is c.in-Err-MissingSeat.ensures.err in
    (held, (back.0, back.2))

pub returns-in-Err-Differs-clause-err : goal.returns-in-Err-Differs-clause-err
returns-in-Err-Differs-clause-err c =
    let held = c.into_inner-held.result.held in
    let back = subst (RefusesClose held c.args.seats.items) c.in-Err-Differs.field-0-is c.in-Err-Differs.ensures.err in
    (held, (back.0, (back.1, (back.2, back.3))))
