-- The notes and the seat after a set.
use Rattle.std.proofs.Common.{◌≡◌, ◌∙◌, ◌∷◌, ℕ, List, Some, reverse, Err, rules, refl, sym, ap, arith}
use Rattle.pd_settings.specs.Keys.{key_named}
use Rattle.pd_settings.specs.declared.keys.Key.{Key}
use Rattle.pd_book.specs.declared.act.Act.{Act}
use Rattle.pd_book.specs.declared.act.Act.TheVariants.{Set}
use Rattle.pd_book.specs.History.{after_act}
use Rattle.pd_seat.proofs.Noting.{more_noted, more_seat, content}
use Rattle.pd_seat.proofs.shared_book.Held.set.Goals as goal

pub invariant_of-self-2 : goal.invariant_of-self-2
invariant_of-self-2 c =
    let book = c.self.inside.book in
    let act = Set c.in-Some.key c.args.value in
    let named : key_named c.args.key.now ≡ Some c.in-Some.key = sym c.from_name.ensures ∙ c.in-Some.is in
    let now = content (λ (key : Key). c.set.new.self.history ≡ after_act book.history (Set key c.args.value)) (key_named c.args.key.now) c.in-Some.key named c.in_ok-set.ensures.ok in
    more_noted book c.set.new.self c.self.inside.notes.items c.push_noted_seat_number.new.notes.items _ _ act c.seat.inside.number
    c.self.invariant now c.law_invariant.ensures refl
    (c.push_noted_seat_number.ensures.past ∙ ap (λ (l : List ℕ). c.seat.inside.number ∷ reverse l) c.reserve_many_notes_and_acts.ensures.notes.0)
    (omega (arith, c.in_ok-reserve_many_notes_and_acts.ensures.room.0, c.reserve_many_notes_and_acts.ensures.notes.1, c.self.inside.notes.ok, c.outstanding_count-outstanding.ensures.count, c.push_noted_seat_number.ensures.capacity))

pub invariant_of-seat-2 : goal.invariant_of-seat-2
invariant_of-seat-2 c =
    let act = Set c.in-Some.key c.args.value in
    more_seat c.seat.inside.own.items c.push_act.new.acts.items c.seat.inside.open_jobs.items _ _ act
    c.seat.invariant refl
    (c.push_act.ensures.past ∙ ap (λ (l : List Act). act ∷ reverse l) c.reserve_many_notes_and_acts.ensures.own.0)
    (omega (arith, c.in_ok-reserve_many_notes_and_acts.ensures.room.1, c.reserve_many_notes_and_acts.ensures.own.1, c.seat.inside.own.ok, c.len-open.ensures, c.seat.inside.open_jobs.ok, c.push_act.ensures.capacity))

pub returns-in_err-set-clause-gives : goal.returns-in_err-set-clause-gives
returns-in_err-set-clause-gives c =
    let fault = c.in_err-set.field-0.0 in
    let failed : c.from_residual-in_err-set.result ≡ Err fault = search rules in
    let given = c.in_err-set.ensures.gives in
    rw (failed, sym c.self.view_is) (λ h. given)
