-- The events that are kept and those that are read after them are the reading of the whole text.
use Rattle.std.proofs.Common.{◌≡◌, ℕ, zero, suc, ◌-◌, ◌<◌, ◌≤◌, List, [], ◌∷◌, ◌++◌, length, take, refl, sym, ap, subst, ◌∙◌, arith, append_assoc}
use Rattle.std.proofs.lemmas.List.{length-take-le}
use Rattle.pd_text.specs.Text.{AreLines}
use Rattle.pd_lex.specs.declared.token.Place.{Place}
use Rattle.pd_lex.specs.Places.{first_place}
use Rattle.pd_lex.specs.Tokens.{Item, lexeme}
use Rattle.pd_lex.specs.Lexing.{items}
use Rattle.pd_lex.specs.Agreement.{ItemsAreInOrder, FirstLinesAgree}
use Rattle.pd_script.specs.Items.{starts_event, is_end}
use Rattle.pd_script.specs.Script.{header_in, after_header}
use Rattle.pd_script.proofs.Apart.{or-left}
use Rattle.pd_reparse.specs.declared.parsed_event.ParsedEvent.{ParsedEvent}
use Rattle.pd_script.specs.Header.{HeaderView}
use Rattle.pd_script.specs.Laws.{ItemsStandThere}
use Rattle.pd_reparse.specs.Reading.{ReadingView, ParsedEventsAndFault, parsed_events_in, reading_in, reading_of, kept_of, last_place, IsReadingOfFirst}
use Rattle.pd_reparse.specs.Steps.{in_front, IsReadOn}
use Rattle.pd_reparse.proofs.Stays.{tally_below, Stay, IsAt}
use Rattle.pd_reparse.proofs.First.{again_in, kept_is, tally_short, header_parts}

-- no more events are kept than there are
pub kept_within : (same : ℕ) (r : ReadingView) → kept_of same r ≤ length r.events
kept_within same r = omega (arith, kept_is same r, tally_short same r.events)

-- and fewer than a script may have
below_limit : (same : ℕ) (text : List (List ℕ)) → kept_of same (reading_of text) < 4096
unfolding reading_of reading_in
below_limit same text = let t = tally_below same 4096 (after_header (items text first_place)) in let k = kept_is same (reading_of text) in omega (arith, t, k)

pub kept_below : (same : ℕ) (lines : List (List ℕ)) (r : ReadingView) → IsReadingOfFirst same lines r → kept_of same r < 4096
kept_below same lines r h = rw h.read (below_limit same h.text)

-- the items from the place after what was kept
stands : ItemsStandThere → (lines : List (List ℕ)) (ds : List ParsedEvent) (front rest : List Item) (place : Place) → AreLines lines → (ds ≡ [] → ⊥) → IsAt (after_header (items lines first_place)) ds front rest → ((start : Place) → last_place start ds ≡ place) → items lines place ≡ rest
stands law lines ds front rest place plain some at after =
    let X = at.place.1 some in
    let H = header_parts (items lines first_place) in
    let whole : items lines first_place ≡ (H.front ++ front) ++ lexeme X.0 ∷ X.1 = H.parts ∙ ap (λ (l : List Item). H.front ++ l) (at.parts ∙ ap (λ (l : List Item). front ++ l) X.2) ∙ sym (append_assoc H.front front (lexeme X.0 ∷ X.1)) in
    let there : items lines X.0.from ≡ lexeme X.0 ∷ X.1 = law lines first_place (H.front ++ front) (lexeme X.0) X.1 plain whole (or-left (starts_event (lexeme X.0)) (is_end (lexeme X.0)) X.3) in
    ap (λ (p : Place). items lines p) (sym (after first_place) ∙ X.4 first_place) ∙ there ∙ sym X.2

whole_reading : (lines : List (List ℕ)) (header : HeaderView) (found : ParsedEventsAndFault) → header ≡ header_in (items lines first_place) → found ≡ parsed_events_in 4096 (after_header (items lines first_place)) → record { header = header; events = found.events; fault = found.fault } ≡ reading_of lines
unfolding reading_of reading_in
whole_reading lines header found h f = rw (h, f) refl

header_was : (text : List (List ℕ)) → (reading_of text).header ≡ header_in (items text first_place)
unfolding reading_of reading_in
header_was text = refl

pub events_were : (text : List (List ℕ)) → (reading_of text).events ≡ (parsed_events_in 4096 (after_header (items text first_place))).events
unfolding reading_of reading_in
events_were text = refl

module _ (order : ItemsAreInOrder) (first : FirstLinesAgree) (law : ItemsStandThere) (lines : List (List ℕ)) (same : ℕ) (old new : ReadingView) (place : Place) (plain : AreLines lines) (read : IsReadingOfFirst same lines old) where
  again_by : (k : ℕ) → kept_of same old ≡ suc k → ((start : Place) → last_place start (take (suc k) old.events) ≡ place) → new ≡ record { header = old.header; events = take (suc k) old.events ++ (parsed_events_in (4096 - suc k) (items lines place)).events; fault = (parsed_events_in (4096 - suc k) (items lines place)).fault } → new ≡ reading_of lines
  again_by k kept after is =
      let text = read.text in
      let few : suc k ≤ kept_of same (reading_of text) = (let e = ap (kept_of same) read.read in omega (arith, e, kept)) in
      let A = again_in order first text lines same k read.plain plain read.within read.equal few in
      let olds : old.events ≡ (parsed_events_in 4096 (after_header (items text first_place))).events = ap (λ (r : ReadingView). r.events) read.read ∙ events_were text in
      let S : Stay 4096 (suc k) old.events (after_header (items lines first_place)) = subst (λ (ds : List ParsedEvent). Stay 4096 (suc k) ds (after_header (items lines first_place))) (sym olds) A.stay in
      let long : suc k ≤ length old.events = (let w = kept_within same old in omega (arith, w, kept)) in
      let some : take (suc k) old.events ≡ [] → ⊥ = λ e. (let n = length-take-le (suc k) old.events long in let z = ap length e in omega (arith, n, z)) in
      let there : items lines place ≡ S.rest = stands law lines (take (suc k) old.events) S.front S.rest place plain some S.at after in
      let header : old.header ≡ header_in (items lines first_place) = ap (λ (r : ReadingView). r.header) read.read ∙ header_was text ∙ A.header in
      let found : in_front (take (suc k) old.events) (parsed_events_in (4096 - suc k) (items lines place)) ≡ parsed_events_in 4096 (after_header (items lines first_place)) = ap (λ (l : List Item). in_front (take (suc k) old.events) (parsed_events_in (4096 - suc k) l)) there ∙ sym S.read in
      is ∙ whole_reading lines old.header (in_front (take (suc k) old.events) (parsed_events_in (4096 - suc k) (items lines place))) header found

  pub read_again : (header : HeaderView) (events : List ParsedEvent) → header ≡ old.header → events ≡ take (kept_of same old) old.events → (kept_of same old ≡ 0 → ⊥) → ((start : Place) → last_place start (take (kept_of same old) old.events) ≡ place) → IsReadOn new header events (4096 - length events) (items lines place) → new ≡ reading_of lines
  read_again header events h e some after is = by_count (kept_of same old) refl
    where
      by_count : (count : ℕ) → kept_of same old ≡ count → new ≡ reading_of lines
      by_count zero k = absurd (some k)
      by_count (suc k) kept =
          let long : suc k ≤ length old.events = (let w = kept_within same old in omega (arith, w, kept)) in
          let these : events ≡ take (suc k) old.events = e ∙ ap (λ (n : ℕ). take n old.events) kept in
          let count : length events ≡ suc k = ap length these ∙ length-take-le (suc k) old.events long in
          again_by k kept (λ start. ap (λ (n : ℕ). last_place start (take n old.events)) (sym kept) ∙ after start) (rw (h, count, these) at is)
