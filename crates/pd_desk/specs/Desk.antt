-- The replies of a desk to those at its seats.
use Rattle.std.specs.Prelude.{◌≡◌, List, length, Some, All, IsSome}
use Rattle.pd_book.specs.declared.report.Row.{Row}
use Rattle.pd_track.specs.declared.task.Task.{Task}
use Rattle.pd_book.specs.Legal.{Legal}
use Rattle.pd_book.specs.Refusals.{next_job}
use Rattle.pd_book.specs.Report.{ReportView}
use Rattle.pd_book.specs.History.{History, BookView}
use Rattle.pd_seat.specs.Seats.{HeldView, SeatView, Agrees}
use Rattle.pd_seat.specs.Close.{Closes}

-- the book is that of some legal history in which each seat's acts stand once, in its order, and no others
abbrev pub IsClosed : List SeatView → BookView → Type 0
IsClosed seats book = (held : HeldView) × Closes held seats book

-- no row is pending
abbrev pub IsCurrent : ReportView → Type 0
IsCurrent report = All (λ (row : Row). IsSome row.verdict) report.rows

-- a start hands out this job after some legal history
abbrev pub IsHandedOut : Task → Type 0
IsHandedOut task = (history : History) × Legal history.opening history.past × (next_job history ≡ Some task)

-- P holds of some legal history and one after it
abbrev pub AfterSome : (History → History → Type 0) → Type 0
AfterSome P = (before after : History) × Legal before.opening before.past × P before after

-- a book with a legal history, each act of which has a note
pub record IsKept (held : HeldView) : Type 0 where
  pub legal : Legal held.book.history.opening held.book.history.past
  pub noted : length held.notes ≡ length held.book.history.past

-- P holds of some legal history that agrees with the seat and one after it
abbrev pub AfterOwn : SeatView → (History → History → Type 0) → Type 0
AfterOwn seat P = (held : HeldView) × (after : History) × IsKept held × Agrees held seat × P held.book.history after

-- some legal history disagrees with the seat
abbrev pub Disagrees : SeatView → Type 0
Disagrees seat = (held : HeldView) × IsKept held × ¬ Agrees held seat
