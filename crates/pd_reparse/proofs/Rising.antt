-- The lines that decide the events of a text rise from one event to the next.
use Rattle.std.proofs.Common.{◌≡◌, ℕ, zero, suc, ◌+◌, ◌-◌, ◌<◌, ◌≤◌, Bool, true, false, cond, List, [], ◌∷◌, length, get_or, drop, max, Ok, Err, refl, sym, ◌∙◌, arith}
use Rattle.std.specs.List.{count_by}
use Rattle.pd_text.specs.Text.{AreLines}
use Rattle.pd_lex.specs.Agreement.{IsInOrder, ItemsAreInOrder}
use Rattle.pd_lex.specs.Lexing.{items}
use Rattle.pd_lex.specs.Places.{first_place}
use Rattle.pd_lex.specs.Tokens.{Item, lexeme, ending, bad}
use Rattle.pd_script.specs.declared.script_events.Event.{Event}
use Rattle.pd_script.specs.Items.{starts_event, next_is}
use Rattle.pd_script.specs.EventReading.{event_at}
use Rattle.pd_script.specs.Next.{lookahead_line_of}
use Rattle.pd_script.specs.Reader.{Read}
use Rattle.pd_script.specs.Script.{followed, may_follow, after_header}
use Rattle.pd_reparse.specs.declared.parsed_event.ParsedEvent.{ParsedEvent}
use Rattle.pd_reparse.specs.Reading.{with_parsed_event, no_parsed_event, parsed_events_in, reading_in, reading_of, is_decided_within_first_lines, ReachesRise}
use Rattle.pd_reparse.proofs.First.{tally_is, in_order_after}
use Rattle.pd_reparse.proofs.Stays.{tally, After, after_event, none_within, no_start, is_more}

-- ---- they rise in the events of items that come in order

later : (n same last : ℕ) (t : Item) (rest : List Item) (line : ℕ) → IsInOrder line last (t ∷ rest) → is_decided_within_first_lines same (lookahead_line_of (t ∷ rest)) ≡ false → tally same (parsed_events_in n (t ∷ rest)).events ≡ 0
later n same last (lexeme x) rest line up out = none_within n same x.from.line last (lexeme x ∷ rest) (is_more x.from.line same out) (omega arith, up.1, up.2, up.3, up.4)
later n same last (ending m) rest line up out = no_start n same (ending m ∷ rest) refl
later n same last (bad m) rest line up out = no_start n same (bad m ∷ rest) refl

rises_in : (n line last : ℕ) (xs : List Item) → IsInOrder line last xs → ReachesRise (parsed_events_in n xs).events
unfolding parsed_events_in
rises_in zero line last xs up = tt
rises_in (suc n) line last xs up = by_test (next_is starts_event xs) (λ from ys u. rises_in n from last ys u)
  where
    by_next : (b : Bool) (e : Event) (t : Item) (rest : List Item) → After line last (t ∷ rest) → ((from : ℕ) (ys : List Item) → IsInOrder from last ys → ReachesRise (parsed_events_in n ys).events) → ReachesRise (with_parsed_event (parsed_events_in n) (cond b (Ok (e, t ∷ rest)) (Err (t ∷ rest)))).events
    by_next true e t rest B ih = (λ same out. sym (tally_is same (parsed_events_in n (t ∷ rest)).events) ∙ later n same last t rest B.from B.rises out, ih B.from (t ∷ rest) B.rises)
    by_next false e t rest B ih = tt

    by_read : (r : Read Event) → event_at xs ≡ r → ((from : ℕ) (ys : List Item) → IsInOrder from last ys → ReachesRise (parsed_events_in n ys).events) → ReachesRise (with_parsed_event (parsed_events_in n) (followed (may_follow n) r)).events
    by_read (Err rest) h ih = tt
    by_read (Ok (e, [])) h ih = tt
    by_read (Ok (e, t ∷ rest)) h ih = by_next (may_follow n t) e t rest (after_event line last xs e (t ∷ rest) h up) ih

    by_test : (b : Bool) → ((from : ℕ) (ys : List Item) → IsInOrder from last ys → ReachesRise (parsed_events_in n ys).events) → ReachesRise (cond b (with_parsed_event (parsed_events_in n) (followed (may_follow n) (event_at xs))) (no_parsed_event xs)).events
    by_test true ih = by_read (event_at xs) refl ih
    by_test false ih = tt

-- and so in the reading of every text
pub readings_rise : ItemsAreInOrder → (lines : List (List ℕ)) → AreLines lines → ReachesRise (reading_of lines).events
unfolding reading_of reading_in
readings_rise order lines plain =
    let B = in_order_after 1 (max 1 (length lines)) (items lines first_place) (order lines first_place plain) in
    rises_in 4096 B.0 (max 1 (length lines)) (after_header (items lines first_place)) B.1

-- ---- counting from the last on

-- where one is decided so and none after it, all up to it are
ends_with : (same m : ℕ) (ds : List ParsedEvent) (d : ParsedEvent) → ReachesRise ds → m < length ds → is_decided_within_first_lines same (get_or ds m d).lookahead_line ≡ true → tally same (drop (suc m) ds) ≡ 0 → tally same ds ≡ suc m
ends_with same m [] d up lt is none = absurd (omega (arith, lt))
ends_with same zero (x ∷ ds) d up lt is none = rw (is, none) refl
ends_with same (suc m) (x ∷ ds) d up lt is none = by_test (is_decided_within_first_lines same x.lookahead_line) refl (ends_with same m ds d up.1 (omega (arith, lt)) is none)
  where
    by_test : (b : Bool) → is_decided_within_first_lines same x.lookahead_line ≡ b → tally same ds ≡ suc m → cond b (1 + tally same ds) (tally same ds) ≡ suc (suc m)
    by_test true e h = omega (arith, h)
    by_test false e h = absurd (let out = tally_is same ds ∙ up.0 same e in omega (arith, h, out))

pub all_so_far : (same count : ℕ) (ds : List ParsedEvent) (d : ParsedEvent) → ReachesRise ds → count ≤ length ds → 0 < count → is_decided_within_first_lines same (get_or ds (count - 1) d).lookahead_line ≡ true → tally same (drop count ds) ≡ 0 → count ≡ count_by (λ (e : ParsedEvent). is_decided_within_first_lines same e.lookahead_line) ds
all_so_far same zero ds d up le some is none = absurd (omega (arith, some))
all_so_far same (suc m) ds d up le some is none =
    let first : suc m - 1 ≡ m = omega arith in
    sym (sym (tally_is same ds) ∙ ends_with same m ds d up (omega (arith, le)) (rw first at is) none)

pub none_so_far : (same count : ℕ) (ds : List ParsedEvent) → count ≡ 0 → tally same (drop count ds) ≡ 0 → 0 ≡ count_by (λ (e : ParsedEvent). is_decided_within_first_lines same e.lookahead_line) ds
none_so_far same count ds zeros none = sym (sym (tally_is same ds) ∙ (rw zeros at none))
