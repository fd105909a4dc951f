use Rattle.std.proofs.Common.{◌≡◌, ◌-◌, length}
use Rattle.pd_lex.specs.Lexing.{items}
use Rattle.pd_reparse.proofs.OnTheWay.{OnTheWay}
use Rattle.pd_reparse.proofs.reparse.complete_reading_from_place.Given as goal

abbrev pub invariant-events : goal.invariant-events
invariant-events l = (l.header ≡ l.fn.header) × OnTheWay l.fn.front (4096 - length l.fn.front) (items l.lines l.fn.place) l.events l.i l.reader
