-- Acts with the numbers of the seats that made them. The newest act comes first.
use Rattle.std.specs.Prelude.{ℕ, zero, suc, ◌≡◌, ◌≢◌, ◌<◌, ◌≤◌, ◌==◌, Bool, not, List, [], ◌∷◌, ◌++◌, length, filter, if◌then◌else◌, All, count_by, Result, MatchResult}
use Rattle.std.specs.List.{list_any}
use Rattle.pd_settings.specs.declared.settings.Settings.{Settings}
use Rattle.pd_book.specs.declared.act.Act.{Act}
use Rattle.pd_book.specs.declared.act.Act.TheVariants.{Start, Finish, Abandon}
use Rattle.pd_book.specs.Legal.{Legal}
use Rattle.pd_book.specs.Report.{ReportView, shown}
use Rattle.pd_book.specs.History.{BookView, after_act}

-- a book, the seat that made each of its acts, and how many seats there are
pub record HeldView : Type 0 where
  pub seats : ℕ
  pub book : BookView
  pub notes : List ℕ

-- a seat: its number, the acts that it made, and the length of the longest history of which it was shown a report
pub record SeatView : Type 0 where
  pub number : ℕ
  pub own : List Act
  pub longest_shown : ℕ

-- a seat that made no act
abbrev pub new_seat : ℕ → SeatView
new_seat number = record { number = number; own = []; longest_shown = 0 }

-- seats that made no act, numbered from this number on
abbrev pub new_seats : ℕ → ℕ → List SeatView
new_seats number zero = []
new_seats number (suc more) = new_seat number ∷ new_seats (suc number) more

-- a book without acts, which keeps at most so many tracks and has none yet, and so many seats
pub record IsNew (cache : ℕ) (settings : Settings) (count : ℕ) (held : HeldView) : Type 0 where
  pub seats : held.seats ≡ count
  pub history : held.book.history ≡ record { opening = settings; past = [] }
  pub tracks : held.book.tracks ≡ record { entries = []; max_tracks = cache }
  pub notes : held.notes ≡ []

-- the acts noted with this number
abbrev pub made_by : ℕ → List ℕ → List Act → List Act
made_by number [] acts = []
made_by number (note ∷ notes) [] = []
made_by number (note ∷ notes) (act ∷ older) = if note == number then act ∷ made_by number notes older else made_by number notes older

-- the seat with one act more
abbrev pub with_act : SeatView → Act → SeatView
with_act seat act = record { number = seat.number; own = act ∷ seat.own; longest_shown = seat.longest_shown }

-- the act was recorded, noted with the seat's number, and is the seat's last; nothing else was
pub record RecordsAct (held : HeldView) (seat : SeatView) (act : Act) (held' : HeldView) (seat' : SeatView) : Type 0 where
  pub history : held'.book.history ≡ after_act held.book.history act
  pub notes : held'.notes ≡ seat.number ∷ held.notes
  pub seats : held'.seats ≡ held.seats
  pub own : seat' ≡ with_act seat act

-- P, unless the reply is out of memory
abbrev pub Unless : {T Fault : Type 0} → Fault → Result T Fault → Type 0 → Type 0
Unless want reply P = MatchResult reply (λ _. P) (λ fault. fault ≢ want → P)

-- the jobs that these acts start and don't end, the newest last
abbrev pub unended : List Act → List ℕ
unended [] = []
unended (Start number name ∷ older) = unended older ++ number ∷ []
unended (Finish number ruling ∷ older) = filter (λ (job : ℕ). not (job == number)) (unended older)
unended (Abandon number ∷ older) = filter (λ (job : ℕ). not (job == number)) (unended older)
unended (_ ∷ older) = unended older

-- these acts started the job and didn't end it
abbrev pub is_unended : List Act → ℕ → Bool
is_unended acts number = list_any (λ (job : ℕ). job == number) (unended acts)

-- the acts noted with the seat's number are its own, and the history is no shorter than one of which it was shown a report
pub record Agrees (held : HeldView) (seat : SeatView) : Type 0 where
  pub own : made_by seat.number held.notes held.book.history.past ≡ seat.own
  pub longest_shown : seat.longest_shown ≤ length held.book.history.past

-- the report of a legal history, each act of which has a note, that agrees with the seat; the seat remembers its length
pub record IsShownFrom (held : HeldView) (seat : SeatView) (report : ReportView) (seat' : SeatView) : Type 0 where
  pub legal : Legal held.book.history.opening held.book.history.past
  pub noted : length held.notes ≡ length held.book.history.past
  pub agrees : Agrees held seat
  pub rows : report ≡ shown held.book.history.opening held.book.history.past
  pub remembered : seat' ≡ record { number = seat.number; own = seat.own; longest_shown = length held.book.history.past }

-- the same, of some history
abbrev pub IsShown : SeatView → ReportView → SeatView → Type 0
IsShown seat report seat' = (held : HeldView) × IsShownFrom held seat report seat'

-- the seats' numbers are 0 to the last, each once
pub record EachOnce (count : ℕ) (seats : List SeatView) : Type 0 where
  pub all : length seats ≡ count
  pub each : (number : ℕ) → number < count → count_by (λ (seat : SeatView). seat.number == number) seats ≡ 1

-- each act is noted with one of the numbers, and the acts noted with a seat's number are the seat's own
pub record Accounts (held : HeldView) (seats : List SeatView) : Type 0 where
  pub notes : All (λ note. note < held.seats) held.notes
  pub own : All (λ (seat : SeatView). made_by seat.number held.notes held.book.history.past ≡ seat.own) seats
