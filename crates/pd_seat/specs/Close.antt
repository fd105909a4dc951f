-- The book that a closing gives back.
use Rattle.std.specs.Prelude.{◌≡◌, List, length}
use Rattle.pd_book.specs.Legal.{Legal}
use Rattle.pd_book.specs.History.{BookView}
use Rattle.pd_seat.specs.declared.close.CloseFault.{CloseFault}
use Rattle.pd_seat.specs.declared.close.CloseFault.TheVariants.{MissingSeat, Differs}
use Rattle.pd_seat.specs.Seats.{HeldView, SeatView, EachOnce, Accounts}

-- the book, whose history is legal and has a note for each act; in it each seat's acts stand once, in its order, and no
-- others
pub record Closes (held : HeldView) (seats : List SeatView) (book : BookView) : Type 0 where
  pub same : book ≡ held.book
  pub legal : Legal book.history.opening book.history.past
  pub noted : length held.notes ≡ length book.history.past
  pub once : EachOnce held.seats seats
  pub accounts : Accounts held seats

-- some seats are missing, and all comes back; or the seats' acts aren't those that are noted, and the book alone comes
-- back, with its legal history
abbrev pub RefusesClose : HeldView → List SeatView → CloseFault HeldView → Type 0
RefusesClose held seats (MissingSeat back them) = ¬ EachOnce held.seats seats × (back ≡ held) × (them.items ≡ seats)
RefusesClose held seats (Differs book) = EachOnce held.seats seats × ¬ Accounts held seats × (book ≡ held.book) × Legal book.history.opening book.history.past

-- the part of this that is known where the seats' book isn't known: of a `MissingSeat` only that the seats come back;
-- of a `Differs` that the seats' numbers are 0 to the last, each once, and that the book's history is legal, and nothing of
-- notes
abbrev pub RefusesCloseAt : {H : Type 0} → List SeatView → CloseFault H → Type 0
RefusesCloseAt seats (MissingSeat back them) = (held : HeldView) × (¬ EachOnce held.seats seats × (them.items ≡ seats))
RefusesCloseAt seats (Differs book) = (held : HeldView) × (EachOnce held.seats seats × (¬ Accounts held seats × ((book ≡ held.book) × Legal book.history.opening book.history.past)))
