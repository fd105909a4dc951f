-- Items are read in one way alone, so the script of a text is the only one that the grammar gives.
use Rattle.std.proofs.Common.{◌≡◌, ℕ, ◌<◌, ◌≤◌, true, false, List, [], ◌∷◌, ◌++◌, length, Option, Some, None, refl, sym, ap, subst, ◌∙◌, arith, append_assoc, inl, inr}
use Rattle.std.specs.Prelude.{◌⊎◌, take}
use Rattle.std.proofs.lemmas.Bool.{cases_lt}
use Rattle.pd_lex.specs.declared.token.Place.{Place}
use Rattle.pd_lex.specs.Places.{first_place}
use Rattle.pd_lex.specs.Tokens.{Item, line_of}
use Rattle.pd_lex.specs.Lexing.{items}
use Rattle.pd_lex.specs.Laws.{ItemsAreLongest, NoOthersAreLongest}
use Rattle.pd_script.specs.declared.script_header.HeaderItem.{HeaderItem}
use Rattle.pd_script.specs.declared.script_events.Event.{Event}
use Rattle.pd_script.specs.declared.parsed.Parsed.{Parsed}
use Rattle.pd_script.specs.Items.{is_header, is_end, starts_event, starts_event_or_end, next_is}
use Rattle.pd_script.specs.Header.{HeaderView, place_after_items, HasEnd}
use Rattle.pd_script.specs.Grammar.{IsEvent}
use Rattle.pd_script.specs.EventReading.{event_at}
use Rattle.pd_script.specs.Script.{script_of}
use Rattle.pd_script.specs.Faults.{AreEvents, IsScript, IsFault, IsKept, IsRead, IsScriptOf}
use Rattle.pd_script.proofs.Laws.{Stops, ok, value_is, rest_is}
use Rattle.pd_script.proofs.Apart.{or-left, not-false}
use Rattle.pd_script.proofs.TokenLaws.{but}
use Rattle.pd_script.proofs.GrammarLaws.{Reads-event}
use Rattle.pd_script.proofs.ScriptLaws.{header_complete, event_starts, script_complete}
use Rattle.pd_script.proofs.TextItems.{script_is_read}

-- ---- one fault

-- a longer front begins with the item after the shorter one
longer_front : (front other : List Item) (t u : Item) (rest after : List Item) → front ++ t ∷ rest ≡ other ++ u ∷ after → length front < length other → (more : List Item) × (other ≡ (front ++ t ∷ []) ++ more)
longer_front front [] t u rest after e lt = absurd (omega arith)
longer_front [] (x ∷ other) t u rest after e lt = let first : t ≡ x = cc in (other, ap (λ (z : Item). z ∷ other) (sym first))
longer_front (y ∷ front) (x ∷ other) t u rest after e lt =
    let first : y ≡ x = cc in
    let others : front ++ t ∷ rest ≡ other ++ u ∷ after = cc in
    let L = longer_front front other t u rest after others (omega arith) in
    (L.0, ap (λ (z : Item). z ∷ other) (sym first) ∙ ap (λ (l : List Item). y ∷ l) L.1)

no_longer : (front other : List Item) (t u : Item) (rest after : List Item) → front ++ t ∷ rest ≡ other ++ u ∷ after → IsFault front t → IsFault other u → length front < length other → ⊥
no_longer front other t u rest after e one two lt =
    let L = longer_front front other t u rest after e lt in
    let B = two.before in
    let whole : other ++ B.more ≡ (front ++ t ∷ []) ++ (L.0 ++ B.more) = ap (λ (x : List Item). x ++ B.more) L.1 ∙ append_assoc (front ++ t ∷ []) L.0 B.more in
    one.none (record { more = L.0 ++ B.more; header = B.header; events = B.events; script = subst (λ (x : List Item). IsScript B.header B.events x) whole B.script })

same_front : (front other : List Item) (t u : Item) (rest after : List Item) → front ++ t ∷ rest ≡ other ++ u ∷ after → length front ≡ length other → (front ≡ other) × (t ≡ u)
same_front [] [] t u rest after e n = let first : t ≡ u = cc in (refl, first)
same_front [] (x ∷ other) t u rest after e n = absurd (omega (arith, n))
same_front (y ∷ front) [] t u rest after e n = absurd (omega (arith, n))
same_front (y ∷ front) (x ∷ other) t u rest after e n =
    let first : y ≡ x = cc in
    let others : front ++ t ∷ rest ≡ other ++ u ∷ after = cc in
    let S = same_front front other t u rest after others (omega (arith, n)) in
    (ap (λ (z : Item). z ∷ front) first ∙ ap (λ (l : List Item). x ∷ l) S.0, S.1)

one_fault : (front other : List Item) (t u : Item) (rest after : List Item) → front ++ t ∷ rest ≡ other ++ u ∷ after → IsFault front t → IsFault other u → (front ≡ other) × (t ≡ u)
one_fault front other t u rest after e one two = by_length (cases_lt (length front) (length other)) (cases_lt (length other) (length front))
  where
    by_length : ((length front < length other) ⊎ (length other ≤ length front)) → ((length other < length front) ⊎ (length front ≤ length other)) → (front ≡ other) × (t ≡ u)
    by_length (inl lt) o = absurd (no_longer front other t u rest after e one two lt)
    by_length (inr le) (inl lt) = absurd (no_longer other front u t after rest (sym e) two one lt)
    by_length (inr le) (inr ge) = same_front front other t u rest after e (omega arith)

-- ---- one way to keep what is before it

pub Stops-next : (ts : List Item) → next_is starts_event_or_end ts ≡ true → Stops starts_event_or_end ts
Stops-next [] h = absurd cc
Stops-next (t ∷ ts) h = h

-- an event before what goes on is read
pub read_on : (e : Event) (ts rest : List Item) → IsEvent e ts rest → next_is starts_event_or_end rest ≡ true → event_at ts ≡ ok e rest
read_on e ts rest h g = Reads-event.complete ts e rest h (Stops-next rest g)

starts_on : (ts : List Item) → next_is starts_event ts ≡ true → next_is starts_event_or_end ts ≡ true
starts_on [] h = absurd cc
starts_on (t ∷ ts) h = or-left (starts_event t) (is_end t) h

-- events before what goes on begin with what does
begin_on : (es : List Event) (ts rest : List Item) → AreEvents es ts rest → next_is starts_event_or_end rest ≡ true → next_is starts_event_or_end ts ≡ true
begin_on [] ts rest h g = rw h g
begin_on (e ∷ es) ts rest h g =
    let on = begin_on es h.0 rest h.2 g in
    starts_on ts (event_starts ts e h.0 (read_on e ts h.0 h.1 on) (Stops-next h.0 on))

abbrev Reaches : List Event → List Item → Type 0
Reaches es others = (es ≡ []) ⊎ (next_is starts_event_or_end others ≡ true)

abbrev IsLast : List Item → Type 0
IsLast others = (e : Event) (rest : List Item) → IsEvent e others rest → next_is starts_event_or_end rest ≡ false

reached : (e : Event) (es : List Event) (others : List Item) → Reaches (e ∷ es) others → next_is starts_event_or_end others ≡ true
reached e es others (inl h) = absurd cc
reached e es others (inr h) = h

no_further : (e : Event) (es : List Event) (ts left others : List Item) → ts ≡ left → IsLast left → AreEvents (e ∷ es) ts others → Reaches (e ∷ es) others → ⊥
no_further e es ts left others same last h r =
    let on = begin_on es h.0 others h.2 (reached e es others r) in
    let off = last e h.0 (subst (λ (x : List Item). IsEvent e x h.0) same h.1) in
    absurd (let both = sym on ∙ off in cc)

one_list : (es fs : List Event) (ts left others : List Item) → AreEvents es ts left → AreEvents fs ts others → Reaches es left → Reaches fs others → IsLast left → IsLast others → es ≡ fs
one_list [] [] ts left others h g r s l m = refl
one_list [] (f ∷ fs) ts left others h g r s l m = absurd (no_further f fs ts left others h l g s)
one_list (e ∷ es) [] ts left others h g r s l m = absurd (no_further e es ts others left g m h r)
one_list (e ∷ es) (f ∷ fs) ts left others h g r s l m =
    let one = read_on e ts h.0 h.1 (begin_on es h.0 left h.2 (reached e es left r)) in
    let two = read_on f ts g.0 g.1 (begin_on fs g.0 others g.2 (reached f fs others s)) in
    let both : ok e h.0 ≡ ok f g.0 = sym one ∙ two in
    let first : e ≡ f = value_is e f h.0 g.0 both in
    let middle : h.0 ≡ g.0 = rest_is e f h.0 g.0 both in
    let more = one_list es fs g.0 left others (subst (λ (x : List Item). AreEvents es x left) middle h.2) g.2 (inr (reached e es left r)) (inr (reached f fs others s)) l m in
    rw (first, more) refl

Stops-whole : (ts : List Item) → next_is is_header ts ≡ false → Stops (but is_header) ts
Stops-whole [] h = tt
Stops-whole (t ∷ ts) h = not-false (is_header t) h

record SameParts (h g : List HeaderItem) (es fs : List Event) : Type 0 where
  headers : h ≡ g
  events : es ≡ fs

one_kept : (h g : List HeaderItem) (es fs : List Event) (front : List Item) → IsKept h es front → IsKept g fs front → SameParts h g es fs
one_kept h g es fs front one two =
    let first = header_complete h front one.after one.begins (Stops-whole one.after one.whole) in
    let second = header_complete g front two.after two.begins (Stops-whole two.after two.whole) in
    let both : ok h one.after ≡ ok g two.after = sym first ∙ second in
    let after : one.after ≡ two.after = rest_is h g one.after two.after both in
    record {
      headers = value_is h g one.after two.after both;
      events = one_list es fs two.after one.others two.others (subst (λ (x : List Item). AreEvents es x one.others) after one.goes) two.goes one.reached two.reached one.last two.last;
    }

-- ---- one way to read

one_whole : (h g : List HeaderItem) (es fs : List Event) (ts : List Item) → IsScript h es ts → IsScript g fs ts → SameParts h g es fs
one_whole h g es fs ts one two =
    let none : List Item = [] in
    let both : ok (h, es) none ≡ ok (g, fs) none = sym (script_complete h es ts one) ∙ script_complete g fs ts two in
    let same = value_is (h, es) (g, fs) none none both in
    record { headers = ap (λ (x : List HeaderItem × List Event). x.0) same; events = ap (λ (x : List HeaderItem × List Event). x.1) same }

not_both : (h : List HeaderItem) (es : List Event) (ts front : List Item) (t : Item) (rest : List Item) → IsScript h es ts → ts ≡ front ++ t ∷ rest → IsFault front t → ⊥
not_both h es ts front t rest script parts fault =
    let whole : ts ≡ (front ++ t ∷ []) ++ rest = parts ∙ sym (append_assoc front (t ∷ []) rest) in
    fault.none (record { more = rest; header = h; events = es; script = subst (λ (x : List Item). IsScript h es x) whole script })

parsed_is : (p q : Parsed) → p.header ≡ q.header → p.events ≡ q.events → p.fault ≡ q.fault → p ≡ q
parsed_is p q header events fault =
    let one : ◌≡◌ {A = Parsed} (record { header = p.header; events = p.events; fault = p.fault }) (record { header = q.header; events = p.events; fault = p.fault }) = ap (λ (x : HeaderView). record { header = x; events = p.events; fault = p.fault }) header in
    let two : ◌≡◌ {A = Parsed} (record { header = q.header; events = p.events; fault = p.fault }) (record { header = q.header; events = q.events; fault = p.fault }) = ap (λ (x : List Event). record { header = q.header; events = x; fault = p.fault }) events in
    let three : ◌≡◌ {A = Parsed} (record { header = q.header; events = q.events; fault = p.fault }) (record { header = q.header; events = q.events; fault = q.fault }) = ap (λ (x : Option ℕ). record { header = q.header; events = q.events; fault = x }) fault in
    one ∙ two ∙ three

-- headers with the same items end at the same place
one_end : (ts : List Item) (h g : HeaderView) → HasEnd ts h → HasEnd ts g → h.items ≡ g.items → h ≡ g
one_end ts h g one two same =
    let ends : h.end ≡ g.end = one ∙ ap (λ (x : List HeaderItem). place_after_items (take (length x) ts)) same ∙ sym two in
    let first : ◌≡◌ {A = HeaderView} (record { items = h.items; end = h.end }) (record { items = g.items; end = h.end }) = ap (λ (x : List HeaderItem). record { items = x; end = h.end }) same in
    let second : ◌≡◌ {A = HeaderView} (record { items = g.items; end = h.end }) (record { items = g.items; end = g.end }) = ap (λ (x : Place). record { items = g.items; end = x }) ends in
    first ∙ second

read_once : (ts : List Item) (p q : Parsed) (f g : Option ℕ) → p.fault ≡ f → q.fault ≡ g → IsRead ts p f → IsRead ts q g → p ≡ q
read_once ts p q None None e d (i, one) (k, two) =
    let S = one_whole p.header.items q.header.items p.events q.events ts one two in
    parsed_is p q (one_end ts p.header q.header i k S.headers) S.events (e ∙ sym d)
read_once ts p q None (Some line) e d (i, one) (k, two) = absurd (not_both p.header.items p.events ts two.0 two.1 two.2 one two.3 two.5)
read_once ts p q (Some line) None e d (i, one) (k, two) = absurd (not_both q.header.items q.events ts one.0 one.1 one.2 two one.3 one.5)
read_once ts p q (Some line) (Some other) e d (i, one) (k, two) =
    let F = one_fault one.0 two.0 one.1 two.1 one.2 two.2 (sym one.3 ∙ two.3) one.5 two.5 in
    let lines : line ≡ other = one.4 ∙ ap line_of F.1 ∙ sym two.4 in
    let kept : IsKept p.header.items p.events two.0 = subst (λ (x : List Item). IsKept p.header.items p.events x) F.0 one.6 in
    let S = one_kept p.header.items q.header.items p.events q.events two.0 kept two.6 in
    parsed_is p q (one_end ts p.header q.header i k S.headers) S.events (e ∙ ap (λ (n : ℕ). Some n) lines ∙ sym d)

pub read_one_way : (ts : List Item) (one other : Parsed) → IsRead ts one one.fault → IsRead ts other other.fault → one ≡ other
read_one_way ts one other h g = read_once ts one other one.fault other.fault refl refl h g

-- ---- the script of a text

pub script_is_so : ItemsAreLongest → (lines : List (List ℕ)) → IsScriptOf lines (script_of lines)
script_is_so law lines = (items lines first_place, law lines, script_is_read lines)

pub no_other_script : NoOthersAreLongest → (lines : List (List ℕ)) (other : Parsed) → IsScriptOf lines other → other ≡ script_of lines
no_other_script law lines other h =
    let same : h.0 ≡ items lines first_place = law lines h.0 h.1 in
    read_one_way (items lines first_place) other (script_of lines) (subst (λ (x : List Item). IsRead x other other.fault) same h.2) (script_is_read lines)
