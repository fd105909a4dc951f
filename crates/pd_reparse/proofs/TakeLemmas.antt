-- The first of some events.
use Rattle.std.proofs.Common.{◌≡◌, ℕ, zero, suc, ◌-◌, ◌<◌, ◌≤◌, List, [], ◌∷◌, length, take, get_or, refl, arith}
use Rattle.pd_lex.specs.declared.token.Place.{Place}
use Rattle.pd_reparse.specs.declared.parsed_event.ParsedEvent.{ParsedEvent}
use Rattle.pd_reparse.specs.Reading.{last_place}

last_at : (k : ℕ) (start : Place) (ds : List ParsedEvent) (d : ParsedEvent) → k < length ds → d ≡ get_or ds k d → last_place start (take (suc k) ds) ≡ d.after
last_at k start [] d lt is = absurd (omega (arith, lt))
last_at zero start (e ∷ ds) d lt is = rw is refl
last_at (suc k) start (e ∷ ds) d lt is = last_at k e.after ds d (omega (arith, lt)) is

pub last_taken : (count : ℕ) (start : Place) (ds : List ParsedEvent) (d : ParsedEvent) → 0 < count → count ≤ length ds → d ≡ get_or ds (count - 1) d → last_place start (take count ds) ≡ d.after
last_taken zero start ds d some le is = absurd (omega (arith, some))
last_taken (suc k) start ds d some le is = last_at k start ds d (omega (arith, le)) (let less : suc k - 1 ≡ k = omega arith in rw less at is)
