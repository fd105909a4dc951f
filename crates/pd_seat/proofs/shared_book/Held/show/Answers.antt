-- A report that is shown is one of the history that agrees with the seat.
use Rattle.std.proofs.Common.{◌≡◌, ◌∙◌, ℕ, length, reverse, subst, sym, ap, arith}
use Rattle.std.proofs.lemmas.List.{length-reverse}
use Rattle.pd_seat.specs.Seats.{HeldView, SeatView, Agrees}
use Rattle.pd_seat.proofs.shared_book.Held.show.Goals as goal

pub returns-clause-is_shown : goal.returns-clause-is_shown
returns-clause-is_shown c =
    let past = c.self.inside.book.history.past in
    let len : c.len-seat-inside.result ≡ length past = omega (arith, c.len-seat-inside.ensures, c.self.inside.notes.ok, c.self.invariant.noted) in
    let held : HeldView = record { seats = c.self.inside.seats; book = c.self.inside.book; notes = reverse c.self.inside.notes.items } in (
      held,
      record {
        legal = c.self.invariant.legal;
        noted = length-reverse c.self.inside.notes.items ∙ c.self.invariant.noted;
        agrees = subst (λ (x : HeldView). Agrees x c.args.seat.now) (sym c.self.view_is) (c.agrees.ensures.compared.0 c.if-not-agrees.false);
        rows = c.in_ok-report.ensures.shown;
        remembered = ap (λ (n : ℕ). record { number = c.seat.inside.number; own = reverse c.seat.inside.own.items; longest_shown = n }) len
            ∙ ap (λ (s : SeatView). record { number = s.number; own = s.own; longest_shown = length past }) c.seat.view_is;
      },
    )
