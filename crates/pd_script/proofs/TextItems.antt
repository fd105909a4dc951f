-- The items of a text: tokens, and then the end or a bad place, each in a line of the text.
use Rattle.std.proofs.Common.{◌≡◌, ℕ, zero, suc, ◌≤◌, Bool, true, false, cond, List, [], ◌∷◌, ◌++◌, length, max, Option, Some, None, Ok, Err, refl, sym, ap, subst, ◌∙◌, arith, inl, inr}
use Rattle.std.specs.Prelude.{All}
use Rattle.std.specs.List.{list_all}
use Rattle.std.proofs.lemmas.List.Elements.{All-nil, All-cons}
use Rattle.pd_text.specs.Text.{has_no_newline}
use Rattle.pd_lex.specs.declared.token.Place.{Place}
use Rattle.pd_lex.specs.Places.{first_place, clamped_place, octets_from, place_after, before}
use Rattle.pd_lex.specs.Pieces.{Front, nothing, gap, token, stray, front}
use Rattle.pd_lex.specs.Tokens.{Item, lexeme, ending, bad, line_of}
use Rattle.pd_lex.specs.Lexing.{followed, items_within, items}
use Rattle.pd_lex.specs.Agreement.{last_line, IsInOrder, ItemsAreInOrder}
use Rattle.pd_script.specs.declared.timing.Time.{Time}
use Rattle.pd_script.specs.declared.timing.Time.TheVariants as times
use Rattle.pd_script.specs.declared.script_events.Event.{Event}
use Rattle.pd_script.specs.Items.{starts_event, next_is}
use Rattle.pd_script.specs.Reader.{Read}
use Rattle.pd_script.specs.EventReading.{event_at}
use Rattle.pd_script.specs.Spelling.{made, either}
use Rattle.pd_script.specs.Grammar.{IsAbsoluteRange, IsRelativeRange, IsTime, IsEvent}
use Rattle.pd_script.specs.Script.{found_in, followed as followed_by, may_follow, with_event, at_end, script_in, script_of, after_header}
use Rattle.pd_script.specs.declared.script_header.HeaderItem.{HeaderItem}
use Rattle.pd_script.specs.declared.parsed.Parsed.{Parsed}
use Rattle.pd_script.specs.Faults.{IsHeader, AreEvents, IsRead, IsReadTo}
use Rattle.pd_script.specs.Range.{IsLineOf, HasLines}
use Rattle.pd_script.proofs.GrammarLaws.{Reads-event}
use Rattle.pd_script.proofs.ScriptLaws.{IsClosed, header_takes}
use Rattle.pd_script.proofs.Kept.{script_read}

-- ---- the last item

module _ (last : ℕ) where
  followed_closed : (k : ℕ) (p : Place) (s : List ℕ) (f : Front) → ((q : Place) (r : List ℕ) → IsClosed (items_within k last q r)) → IsClosed (followed (items_within k last) last p s f)
  unfolding IsClosed
  followed_closed k p s nothing ih = refl
  followed_closed k p s (gap rest) ih = ih (place_after p (before s rest)) rest
  followed_closed k p s (token kind rest) ih = ih (place_after p (before s rest)) rest
  followed_closed k p s stray ih = refl

  within_closed : (k : ℕ) (p : Place) (s : List ℕ) → IsClosed (items_within k last p s)
  unfolding items_within IsClosed
  within_closed zero p s = refl
  within_closed (suc k) p s = followed_closed k p s (front s) (within_closed k)

pub items_closed : (lines : List (List ℕ)) (p : Place) → IsClosed (items lines p)
unfolding items
items_closed lines p = within_closed (max 1 (length lines)) (length (octets_from lines p)) (clamped_place lines p) (octets_from lines p)

-- ---- lines

-- each item is in a line
pub AreLinesOf : List (List ℕ) → List Item → Type 0
AreLinesOf lines [] = Unit {0}
AreLinesOf lines (t ∷ ts) = IsLineOf lines (line_of t) × AreLinesOf lines ts

-- items in order, and the end last, have a line of the text each
in_order_lines : (lines : List (List ℕ)) (line : ℕ) (ts : List Item) → 1 ≤ line → IsInOrder line (max 1 (length lines)) ts → IsClosed ts → AreLinesOf lines ts
unfolding AreLinesOf IsClosed
in_order_lines lines line [] one h c = tt
in_order_lines lines line (lexeme x ∷ ts) one h c = ((omega (arith, h.0), h.1), in_order_lines lines (last_line x) ts (omega (arith, h.0, h.2)) h.4 c)
in_order_lines lines line (ending n ∷ ts) one h c = ((omega (arith, h), omega (arith, h)), rw c tt)
in_order_lines lines line (bad n ∷ ts) one h c = ((omega (arith, h.0), h.1), rw c tt)

pub items_lines : ItemsAreInOrder → (lines : List (List ℕ)) → list_all has_no_newline lines ≡ true → AreLinesOf lines (items lines first_place)
items_lines law lines plain = in_order_lines lines 1 (items lines first_place) (omega arith) (law lines first_place plain) (items_closed lines first_place)

-- ---- lines of events and of the fault

AreLinesOf-after : (lines : List (List ℕ)) (xs ys : List Item) → AreLinesOf lines (xs ++ ys) → AreLinesOf lines ys
unfolding AreLinesOf
AreLinesOf-after lines [] ys h = h
AreLinesOf-after lines (x ∷ xs) ys h = AreLinesOf-after lines xs ys h.1

absolute_line : (n : ℕ × ℕ) (v : ℕ × Time) (ts rest : List Item) → either (IsAbsoluteRange n.0 n.1) (made (n.0, times.Absolute n.1)) v ts rest → v.0 ≡ n.0
absolute_line n v ts rest (inl h) = sym (ap (λ (x : ℕ × Time). x.0) h.3.3.0)
absolute_line n v ts rest (inr h) = sym (ap (λ (x : ℕ × Time). x.0) h.0)

relative_line : (line first : ℕ) (v : ℕ × Time) (ts rest : List Item) → either (IsRelativeRange line first) (made (line, times.Relative first)) v ts rest → v.0 ≡ line
relative_line line first v ts rest (inl h) = sym (ap (λ (x : ℕ × Time). x.0) h.3.3.0)
relative_line line first v ts rest (inr h) = sym (ap (λ (x : ℕ × Time). x.0) h.0)

time_line : (v : ℕ × Time) (ts rest : List Item) → IsTime v ts rest → (t : Item) × (us : List Item) × (ts ≡ t ∷ us) × (v.0 ≡ line_of t)
unfolding IsTime
time_line v ts rest (inl h) =
    let hs = h.2 in
    (hs.0, hs.1, hs.2.0, sym (ap (λ (x : ℕ × Time). x.0) h.3.0) ∙ sym hs.3.0)
time_line v ts rest (inr (inl h)) =
    let hs = h.2 in
    (hs.0, hs.1, hs.2.0, relative_line h.0 h.3.0.1 v h.3.1 rest h.3.3 ∙ sym hs.3.0)
time_line v ts rest (inr (inr h)) =
    let hn = h.2 in
    (hn.0, hn.1, hn.2.0, absolute_line h.0 v h.1 rest h.3 ∙ sym (ap (λ (x : ℕ × ℕ). x.0) hn.3.0))

event_line : (e : Event) (ts rest : List Item) → IsEvent e ts rest → (t : Item) × (us : List Item) × (ts ≡ t ∷ us) × (e.line ≡ line_of t)
unfolding IsEvent
event_line e ts rest h =
    let T = time_line h.0 ts h.1 h.2 in
    (T.0, T.1, T.2, sym (ap (λ (x : Event). x.line) h.3.3.3.0) ∙ T.3)

AreLinesOf-front : (lines : List (List ℕ)) (xs ys : List Item) → AreLinesOf lines (xs ++ ys) → AreLinesOf lines xs
unfolding AreLinesOf
AreLinesOf-front lines [] ys h = tt
AreLinesOf-front lines (x ∷ xs) ys h = (h.0, AreLinesOf-front lines xs ys h.1)

AreLinesOf-first : (lines : List (List ℕ)) (t : Item) (ts : List Item) → AreLinesOf lines (t ∷ ts) → IsLineOf lines (line_of t)
unfolding AreLinesOf
AreLinesOf-first lines t ts h = h.0

events_lines : (lines : List (List ℕ)) (es : List Event) (ts rest : List Item) → AreEvents es ts rest → AreLinesOf lines ts → All (λ (e : Event). IsLineOf lines e.line) es
events_lines lines [] ts rest h in_lines = All-nil (λ (e : Event). IsLineOf lines e.line)
events_lines lines (e ∷ es) ts rest h in_lines =
    let L = event_line e ts h.0 h.1 in
    let F = Reads-event.takes ts e h.0 h.1 in
    let first : IsLineOf lines (line_of L.0) = AreLinesOf-first lines L.0 L.1 (subst (λ (x : List Item). AreLinesOf lines x) L.2 in_lines) in
    let others = events_lines lines es h.0 rest h.2 (AreLinesOf-after lines F.0 h.0 (subst (λ (x : List Item). AreLinesOf lines x) F.1 in_lines)) in
    All-cons (λ (x : Event). IsLineOf lines x.line) e es (subst (λ (n : ℕ). IsLineOf lines n) (sym L.3) first) others

after_header_lines : (lines : List (List ℕ)) (hs : List HeaderItem) (ts after : List Item) → IsHeader hs ts after → AreLinesOf lines ts → AreLinesOf lines after
after_header_lines lines hs ts after h in_lines =
    let F = header_takes hs ts after h in
    AreLinesOf-after lines F.0 after (subst (λ (x : List Item). AreLinesOf lines x) F.1 in_lines)

lines_by : (lines : List (List ℕ)) (ts : List Item) (parsed : Parsed) (fault : Option ℕ) → parsed.fault ≡ fault → IsReadTo ts parsed fault → AreLinesOf lines ts → HasLines lines parsed
lines_by lines ts parsed None e r in_lines =
    record { events = events_lines lines parsed.events r.after (r.end ∷ []) r.goes (after_header_lines lines parsed.header.items ts r.after r.begins in_lines); fault = rw e tt }
lines_by lines ts parsed (Some line) e r in_lines =
    let whole : AreLinesOf lines (r.0 ++ r.1 ∷ r.2) = subst (λ (x : List Item). AreLinesOf lines x) r.3 in_lines in
    let K = r.6 in
    let at : IsLineOf lines (line_of r.1) = AreLinesOf-first lines r.1 r.2 (AreLinesOf-after lines r.0 (r.1 ∷ r.2) whole) in
    record { events = events_lines lines parsed.events K.after K.others K.goes (after_header_lines lines parsed.header.items r.0 K.after K.begins (AreLinesOf-front lines r.0 (r.1 ∷ r.2) whole)); fault = rw e (subst (λ (n : ℕ). IsLineOf lines n) (sym r.4) at) }

-- ---- the number of events

few_events : (n : ℕ) (ts : List Item) → length (found_in n ts).events ≤ n
unfolding found_in
few_events zero ts = omega arith
few_events (suc n) ts = by_test (next_is starts_event ts) (few_events n)
  where
    by_read : (r : Read Event) → ((us : List Item) → length (found_in n us).events ≤ n) → length (with_event (found_in n) r).events ≤ suc n
    by_read (Ok x) ih = omega (arith, ih x.1)
    by_read (Err rest) ih = omega arith

    by_test : (b : Bool) → ((us : List Item) → length (found_in n us).events ≤ n) → length (cond b (with_event (found_in n) (followed_by (may_follow n) (event_at ts))) (at_end ts)).events ≤ suc n
    by_test true ih = by_read (followed_by (may_follow n) (event_at ts)) ih
    by_test false ih = omega arith

-- ---- what parsing answers

pub script_is_read : (lines : List (List ℕ)) → IsRead (items lines first_place) (script_of lines) (script_of lines).fault
unfolding script_of
script_is_read lines = script_read (items lines first_place) (items_closed lines first_place)

pub script_has_lines : ItemsAreInOrder → (lines : List (List ℕ)) → list_all has_no_newline lines ≡ true → HasLines lines (script_of lines)
script_has_lines law lines plain = lines_by lines (items lines first_place) (script_of lines) (script_of lines).fault refl (script_is_read lines).1 (items_lines law lines plain)

pub script_is_short : (lines : List (List ℕ)) → length (script_of lines).events ≤ 4096
unfolding script_of script_in
script_is_short lines = few_events 4096 (after_header (items lines first_place))
