-- The lists beside a book and of a seat, with room for the ends of jobs; cited by private contracts alone.
use Rattle.std.specs.Prelude.{◌≡◌, ◌+◌, ◌≤◌, ℕ, List, length, reverse}
use Rattle.pd_book.specs.declared.act.Act.{Act}
use Rattle.pd_book.specs.Acts.{jobs}
use Rattle.pd_book.specs.Legal.{Legal}
use Rattle.pd_book.specs.History.{BookView}
use Rattle.pd_seat.specs.Seats.{unended}

-- the history is legal, each act has a note, and there is room for a note for the end of each outstanding job
pub record IsNoted (book : BookView) (notes : List ℕ) (capacity : ℕ) : Type 0 where
  pub legal : Legal book.history.opening book.history.past
  pub noted : length notes ≡ length book.history.past
  pub room : length notes + length (jobs book.history.opening book.history.past) ≤ capacity

-- the jobs that the acts, the oldest first, don't end, with room for an act for the end of each
pub record IsSeat (own : List Act) (open_jobs : List ℕ) (capacity : ℕ) : Type 0 where
  pub unended : open_jobs ≡ unended (reverse own)
  pub room : length own + length open_jobs ≤ capacity
