-- The first lines decide the events that are kept, and the rest is read after them.
use Rattle.std.proofs.Common.{◌≡◌, ◌∙◌, ℕ, ap, sym, subst, length, take, arith}
use Rattle.pd_lex.specs.declared.token.Place.{Place}
use Rattle.std.proofs.lemmas.List.{length-take-le}
use Rattle.pd_reparse.specs.Reading.{ReadingView, ReachesRise, kept_of, last_place}
use Rattle.pd_reparse.proofs.Rising.{readings_rise}
use Rattle.pd_reparse.proofs.ReadOn.{kept_within, kept_below, read_again}
use Rattle.pd_reparse.proofs.reparse.reread.Goals as goal

pub count_events_kept_by_same_first_lines-kept-requires : goal.count_events_kept_by_same_first_lines-kept-requires
count_events_kept_by_same_first_lines-kept-requires c = subst (λ (r : ReadingView). ReachesRise r.events) (sym c.requires.read) (readings_rise c.law_first_lines_fix_tokens_in_order.ensures.order c.requires.text c.requires.plain)

pub first_events-requires : goal.first_events-requires
first_events-requires c = let w = kept_within c.args.same c.args.old.now in omega (arith, w, c.count_events_kept_by_same_first_lines-kept.ensures)

pub place_after_first_events-place-requires-clause-within : goal.place_after_first_events-place-requires-clause-within
place_after_first_events-place-requires-clause-within c = let w = kept_within c.args.same c.args.old.now in omega (arith, w, c.count_events_kept_by_same_first_lines-kept.ensures)

pub complete_reading_from_place-requires : goal.complete_reading_from_place-requires
complete_reading_from_place-requires c =
    let w = kept_within c.args.same c.args.old.now in
    let few = kept_below c.args.same c.args.lines.now c.args.old.now c.requires in
    let n = length-take-le c.count_events_kept_by_same_first_lines-kept.result c.args.old.now.events (omega (arith, w, c.count_events_kept_by_same_first_lines-kept.ensures)) in
    let same = ap length c.in_ok-events.ensures in
    omega (arith, few, n, same, c.count_events_kept_by_same_first_lines-kept.ensures)

pub returns-clause-reading : goal.returns-clause-reading
returns-clause-reading c =
    let old = c.args.old.now in
    let same = c.args.same in
    let count : c.count_events_kept_by_same_first_lines-kept.result ≡ kept_of same old = c.count_events_kept_by_same_first_lines-kept.ensures in
    let header : c.in_ok-header.header ≡ old.header = c.in_ok-header.ensures ∙ c.header.ensures in
    let events : c.in_ok-events.events ≡ take (kept_of same old) old.events = c.in_ok-events.ensures ∙ ap (λ (n : ℕ). take n old.events) count in
    let some : kept_of same old ≡ 0 → ⊥ = λ z. omega (arith, z, c.if-kept-eq0.false, count) in
    let after : (start : Place) → last_place start (take (kept_of same old) old.events) ≡ c.place_after_first_events-place.result = λ start. ap (λ (n : ℕ). last_place start (take n old.events)) (sym count) ∙ c.place_after_first_events-place.ensures start in
    read_again c.law_first_lines_fix_tokens_in_order.ensures.order c.law_first_lines_fix_tokens_in_order.ensures.same c.law_lexing_from_event_start_gives_same_items.ensures c.args.lines.now same old c.in_ok-reading-2.reading c.place_after_first_events-place.result c.law_invariant.ensures c.requires c.in_ok-header.header c.in_ok-events.events header events some after c.in_ok-reading-2.ensures
