-- The next event is the one that the grammar gives, and what is left is at the place after it.
use Rattle.std.proofs.Common.{◌≡◌, ℕ, Bool, true, false, cond, List, [], ◌∷◌, ◌++◌, Option, Ok, Err, refl, sym, ap, subst, ◌∙◌}
use Rattle.std.proofs.lemmas.List.{append-nil}
use Rattle.std.specs.List.{list_all}
use Rattle.pd_text.specs.Text.{has_no_newline}
use Rattle.pd_lex.specs.declared.token.Place.{Place}
use Rattle.pd_lex.specs.Places.{place_after}
use Rattle.pd_lex.specs.Tokens.{Item, lexeme, ending, bad, line_of}
use Rattle.pd_lex.specs.Lexing.{items}
use Rattle.pd_lex.specs.Laws.{ItemsGoOn}
use Rattle.pd_script.specs.declared.script_events.Event.{Event}
use Rattle.pd_script.specs.declared.event_reader.NextEvent.{NextEvent}
use Rattle.pd_script.specs.declared.event_reader.NextEvent.TheVariants.{Got, End, Fault}
use Rattle.pd_script.specs.Items.{is_end, starts_event, starts_event_or_end, next_is}
use Rattle.pd_script.specs.Grammar.{IsEvent}
use Rattle.pd_script.specs.Reader.{Read}
use Rattle.pd_script.specs.EventReading.{next_line, event_at}
use Rattle.pd_script.specs.Script.{followed}
use Rattle.pd_script.specs.Laws.{ItemsStandThere}
use Rattle.pd_script.specs.Next.{place_of, place_of_next_token_or_end, lookahead_line_of, got, next_in, GoesOn, IsEventFault, IsNextEvent}
use Rattle.pd_script.proofs.Laws.{Stops, ok, rest_is}
use Rattle.pd_script.proofs.Apart.{is_lexeme, and-left, and-right}
use Rattle.pd_script.proofs.GrammarLaws.{Reads-event, end_no_start}
use Rattle.pd_script.proofs.ScriptLaws.{IsClosed, lexemes_open, event_starts}
use Rattle.pd_script.proofs.TextItems.{items_closed}
use Rattle.pd_script.proofs.OneScript.{read_on, Stops-next}
use Rattle.pd_script.proofs.Placed.{is_bad, stand_there}

-- ---- what is left of a text's items stands where its first item says

module _ (lines : List (List ℕ)) (plain : list_all has_no_newline lines ≡ true) where
  nothing_left_of : (front : List Item) (t : Item) (rest : List Item) → front ++ t ∷ rest ≡ [] → ⊥
  nothing_left_of [] t rest e = absurd cc
  nothing_left_of (x ∷ front) t rest e = absurd cc

  pub left_stands : ItemsGoOn → (front : List Item) (p : Place) (t : Item) (rest : List Item) → items lines p ≡ front ++ t ∷ rest → is_bad t ≡ false → items lines (place_of t) ≡ t ∷ rest
  unfolding IsClosed
  left_stands law [] p t rest e good = stand_there lines plain p t rest e good
  left_stands law (lexeme x ∷ front) p t rest e good = left_stands law front (place_after x.from x.text) t rest (sym (law lines p plain x (front ++ t ∷ rest) e)) good
  left_stands law (ending line ∷ front) p t rest e good = absurd (nothing_left_of front t rest (subst IsClosed e (items_closed lines p)))
  left_stands law (bad line ∷ front) p t rest e good = absurd (nothing_left_of front t rest (subst IsClosed e (items_closed lines p)))

-- ---- an event that was read

-- what was read, and what is left
record IsGot (ts : List Item) (event : Event) (after : Place) (lookahead_line : Option ℕ) : Type 0 where
  rest : List Item
  read : event_at ts ≡ ok event rest
  follows : next_is starts_event_or_end rest ≡ true
  place : after ≡ place_of_next_token_or_end rest
  reached : lookahead_line ≡ lookahead_line_of rest

got_by : (ts : List Item) (r : Read Event) (event : Event) (after : Place) (lookahead_line : Option ℕ) → event_at ts ≡ r → got (followed starts_event_or_end r) ≡ Got event after lookahead_line → IsGot ts event after lookahead_line
got_by ts (Err rest) event after lookahead_line e g = absurd cc
got_by ts (Ok x) event after lookahead_line e g = by_test (next_is starts_event_or_end x.1) refl
  where
    by_test : (b : Bool) → next_is starts_event_or_end x.1 ≡ b → IsGot ts event after lookahead_line
    by_test true h =
        let made : Got x.0 (place_of_next_token_or_end x.1) (lookahead_line_of x.1) ≡ Got event after lookahead_line = rw h at g in
        let value : x.0 ≡ event = cc in
        record { rest = x.1; read = e ∙ ap (λ (v : Event). ok v x.1) value; follows = h; place = cc; reached = cc }
    by_test false h = absurd (let made = rw h at g in cc)

is_got : (ts : List Item) (event : Event) (after : Place) (lookahead_line : Option ℕ) → next_in ts ≡ Got event after lookahead_line → IsGot ts event after lookahead_line
unfolding next_in
is_got ts event after lookahead_line e = by_test (next_is starts_event ts) refl
  where
    by_end : (b : Bool) → cond b End (Fault (next_line ts)) ≡ Got event after lookahead_line → IsGot ts event after lookahead_line
    by_end true g = absurd cc
    by_end false g = absurd cc

    by_test : (b : Bool) → next_is starts_event ts ≡ b → IsGot ts event after lookahead_line
    by_test true h = got_by ts (event_at ts) event after lookahead_line refl (rw h at e)
    by_test false h = by_end (next_is is_end ts) (rw h at e)

no_bad : (t : Item) → starts_event_or_end t ≡ true → is_bad t ≡ false
no_bad (lexeme x) h = refl
no_bad (ending line) h = refl
no_bad (bad line) h = absurd cc

pub item_stands : ItemsGoOn → ItemsStandThere
item_stands law lines p front t rest plain e h = left_stands lines plain law front p t rest e (no_bad t h)

module _ (lines : List (List ℕ)) (plain : list_all has_no_newline lines ≡ true) (law : ItemsGoOn) where
  stands_at : (p : Place) (front rest : List Item) → items lines p ≡ front ++ rest → next_is starts_event_or_end rest ≡ true → items lines (place_of_next_token_or_end rest) ≡ rest
  stands_at p front [] e h = absurd cc
  stands_at p front (t ∷ rest) e h = left_stands lines plain law front p t rest e (no_bad t h)

  got_stands : (p : Place) (event : Event) (after : Place) (lookahead_line : Option ℕ) → (g : IsGot (items lines p) event after lookahead_line) → items lines after ≡ g.rest
  got_stands p event after lookahead_line g =
      let took = Reads-event.laws.took (items lines p) event g.rest g.read in
      ap (λ (x : Place). items lines x) g.place ∙ stands_at p took.front g.rest took.parts g.follows

  pub next_goes_on : (p : Place) (next : NextEvent) → next ≡ next_in (items lines p) → GoesOn lines p next
  next_goes_on p (Got event after lookahead_line) e =
      let g = is_got (items lines p) event after lookahead_line (sym e) in
      g.read ∙ ap (λ (x : List Item). ok event x) (sym (got_stands p event after lookahead_line g))
  next_goes_on p End e = tt
  next_goes_on p (Fault line) e = tt

-- ---- a fault

abbrev last_item : Item
last_item = ending 1

-- a fault among the items of a text
record IsFaultOf (ts : List Item) (line : ℕ) : Type 0 where
  front : List Item
  at : Item
  rest : List Item
  parts : ts ≡ front ++ at ∷ rest
  line_is : line ≡ line_of at
  fault : IsEventFault front at

no_event : (ts : List Item) (rest : List Item) → event_at ts ≡ Err rest → (event : Event) (left : List Item) → IsEvent event ts left → next_is starts_event_or_end left ≡ false
no_event ts rest e event left h = by_test (next_is starts_event_or_end left) refl
  where
    by_test : (b : Bool) → next_is starts_event_or_end left ≡ b → next_is starts_event_or_end left ≡ false
    by_test true g = absurd (let both = sym (read_on event ts left h g) ∙ e in cc)
    by_test false g = g

other_event : (ts : List Item) (event : Event) (t : Item) (rest : List Item) → event_at ts ≡ ok event (t ∷ rest) → starts_event_or_end t ≡ false → (other : Event) (left : List Item) → IsEvent other ts left → next_is starts_event_or_end left ≡ false
other_event ts event t rest e stops other left h = by_test (next_is starts_event_or_end left) refl
  where
    by_test : (b : Bool) → next_is starts_event_or_end left ≡ b → next_is starts_event_or_end left ≡ false
    by_test true g =
        let same : t ∷ rest ≡ left = rest_is event other (t ∷ rest) left (sym e ∙ read_on other ts left h g) in
        let on : true ≡ starts_event_or_end t = sym g ∙ ap (λ (x : List Item). next_is starts_event_or_end x) (sym same) in
        absurd (let both : true ≡ false = on ∙ stops in cc)
    by_test false g = g

-- what was read could have gone on to the end of a text
could_go_on : (front rest : List Item) (event : Event) (more : List Item) → ((tail : List Item) → Stops starts_event_or_end tail → event_at (front ++ (more ++ tail)) ≡ ok event tail) → IsEvent event (front ++ (more ++ last_item ∷ [])) (last_item ∷ [])
could_go_on front rest event more reads = Reads-event.sound (front ++ (more ++ last_item ∷ [])) event (last_item ∷ []) (reads (last_item ∷ []) refl)

all_tokens : (front more : List Item) (event : Event) → IsEvent event (front ++ (more ++ last_item ∷ [])) (last_item ∷ []) → list_all is_lexeme front ≡ true
all_tokens front more event h =
    let F = Reads-event.takes (front ++ (more ++ last_item ∷ [])) event (last_item ∷ []) h in
    front_of front more F.0 F.1 F.2
  where
    front_of : (xs more ys : List Item) → xs ++ (more ++ last_item ∷ []) ≡ ys ++ last_item ∷ [] → list_all is_lexeme ys ≡ true → list_all is_lexeme xs ≡ true
    front_of [] more ys e g = refl
    front_of (x ∷ xs) [] [] e g = absurd (none xs e)
      where
        none : (zs : List Item) → x ∷ (zs ++ last_item ∷ []) ≡ last_item ∷ [] → ⊥
        none [] w = absurd cc
        none (z ∷ zs) w = absurd cc
    front_of (x ∷ xs) (m ∷ more) [] e g = absurd (none xs e)
      where
        none : (zs : List Item) → x ∷ (zs ++ (m ∷ more ++ last_item ∷ [])) ≡ last_item ∷ [] → ⊥
        none [] w = absurd cc
        none (z ∷ zs) w = absurd cc
    front_of (x ∷ xs) more (y ∷ ys) e g =
        let first : x ≡ y = cc in
        let others : xs ++ (more ++ last_item ∷ []) ≡ ys ++ last_item ∷ [] = cc in
        rw (first, and-left (is_lexeme y) _ g, front_of xs more ys others (and-right (is_lexeme y) _ g)) refl

fault_read : (ts rest : List Item) → IsClosed ts → event_at ts ≡ Err rest → IsFaultOf ts (next_line rest)
fault_read ts rest closed e =
    let F = Reads-event.laws.failed ts rest e in
    let L = F.live in
    let on = could_go_on F.front rest L.value L.more L.reads in
    by_rest rest refl F.front F.parts (λ t old more h. F.again t old more h) L.more L.value on
  where
    by_rest : (left : List Item) → rest ≡ left → (front : List Item) → ts ≡ front ++ rest → ((t : Item) (old more : List Item) → rest ≡ t ∷ old → event_at (front ++ t ∷ more) ≡ Err (t ∷ more)) → (more : List Item) (event : Event) → IsEvent event (front ++ (more ++ last_item ∷ [])) (last_item ∷ []) → IsFaultOf ts (next_line rest)
    by_rest [] none front parts again more event on =
        let all : ts ≡ front = parts ∙ ap (λ (x : List Item). front ++ x) none ∙ append-nil front in
        absurd (lexemes_open front (all_tokens front more event on) (subst IsClosed all closed))
    by_rest (t ∷ old) is front parts again more event on =
        record { front = front; at = t; rest = old; parts = parts ∙ ap (λ (x : List Item). front ++ x) is; line_is = ap next_line is; fault = record { more = more ++ last_item ∷ []; event = event; after = last_item ∷ []; before = on; follows = refl; none = λ others other left h. no_event (front ++ t ∷ others) (t ∷ others) (again t old others is) other left h } }

fault_after : (ts : List Item) (event : Event) (rest : List Item) → IsClosed ts → event_at ts ≡ ok event rest → next_is starts_event_or_end rest ≡ false → IsFaultOf ts (next_line rest)
fault_after ts event rest closed e stops =
    let T = Reads-event.laws.took ts event rest e in
    by_rest rest refl T.front T.parts (λ t old more h. T.same t old more h) (T.again (last_item ∷ []) refl)
  where
    by_rest : (left : List Item) → rest ≡ left → (front : List Item) → ts ≡ front ++ rest → ((t : Item) (old more : List Item) → rest ≡ t ∷ old → event_at (front ++ t ∷ more) ≡ ok event (t ∷ more)) → event_at (front ++ last_item ∷ []) ≡ ok event (last_item ∷ []) → IsFaultOf ts (next_line rest)
    by_rest [] none front parts same again =
        let all : ts ≡ front = parts ∙ ap (λ (x : List Item). front ++ x) none ∙ append-nil front in
        let on = Reads-event.sound (front ++ last_item ∷ []) event (last_item ∷ []) again in
        absurd (lexemes_open front (all_tokens front [] event on) (subst IsClosed all closed))
    by_rest (t ∷ old) is front parts same again =
        let off : starts_event_or_end t ≡ false = ap (λ (x : List Item). next_is starts_event_or_end x) (sym is) ∙ stops in
        record { front = front; at = t; rest = old; parts = parts ∙ ap (λ (x : List Item). front ++ x) is; line_is = ap next_line is; fault = record { more = last_item ∷ []; event = event; after = last_item ∷ []; before = Reads-event.sound (front ++ last_item ∷ []) event (last_item ∷ []) again; follows = refl; none = λ others other left h. other_event (front ++ t ∷ others) event t others (same t old others is) off other left h } }

fault_at_once : (ts : List Item) → IsClosed ts → next_is starts_event ts ≡ false → IsFaultOf ts (next_line ts)
unfolding IsClosed
fault_at_once [] closed h = absurd closed
fault_at_once (t ∷ ts) closed h =
    let L = Reads-event.laws.full in
    record { front = []; at = t; rest = ts; parts = refl; line_is = refl; fault = record { more = L.more ++ last_item ∷ []; event = L.value; after = last_item ∷ []; before = could_go_on [] [] L.value L.more L.reads; follows = refl; none = λ others other left g. none others other left g (next_is starts_event_or_end left) refl } }
  where
    none : (others : List Item) (other : Event) (left : List Item) → IsEvent other (t ∷ others) left → (b : Bool) → next_is starts_event_or_end left ≡ b → next_is starts_event_or_end left ≡ false
    none others other left g true on = absurd (let starts : starts_event t ≡ true = event_starts (t ∷ others) other left (read_on other (t ∷ others) left g on) (Stops-next left on) in let both : true ≡ false = sym starts ∙ h in cc)
    none others other left g false off = off

fault_by : (ts : List Item) (r : Read Event) (line : ℕ) → IsClosed ts → event_at ts ≡ r → got (followed starts_event_or_end r) ≡ Fault line → IsFaultOf ts line
fault_by ts (Err rest) line closed e g = subst (λ (n : ℕ). IsFaultOf ts n) (let same : next_line rest ≡ line = cc in same) (fault_read ts rest closed e)
fault_by ts (Ok x) line closed e g = by_test (next_is starts_event_or_end x.1) refl
  where
    by_test : (b : Bool) → next_is starts_event_or_end x.1 ≡ b → IsFaultOf ts line
    by_test true h = absurd (let made = rw h at g in cc)
    by_test false h =
        let made : Fault (next_line x.1) ≡ Fault line = rw h at g in
        let same : next_line x.1 ≡ line = cc in
        subst (λ (n : ℕ). IsFaultOf ts n) same (fault_after ts x.0 x.1 closed e h)

end_is_no_start : (ts : List Item) → next_is starts_event ts ≡ true → next_is is_end ts ≡ false
end_is_no_start [] h = absurd cc
end_is_no_start (t ∷ ts) h = by_test (is_end t) refl
  where
    by_test : (b : Bool) → is_end t ≡ b → is_end t ≡ false
    by_test true e = absurd (let both : true ≡ false = sym h ∙ end_no_start t e in cc)
    by_test false e = e

is_fault : (ts : List Item) (line : ℕ) → IsClosed ts → next_in ts ≡ Fault line → IsFaultOf ts line × (next_is is_end ts ≡ false)
unfolding next_in
is_fault ts line closed e = by_test (next_is starts_event ts) refl
  where
    by_end : (b : Bool) → next_is is_end ts ≡ b → next_is starts_event ts ≡ false → cond b End (Fault (next_line ts)) ≡ Fault line → IsFaultOf ts line × (next_is is_end ts ≡ false)
    by_end true h off g = absurd cc
    by_end false h off g = let same : next_line ts ≡ line = cc in (subst (λ (n : ℕ). IsFaultOf ts n) same (fault_at_once ts closed off), h)

    by_test : (b : Bool) → next_is starts_event ts ≡ b → IsFaultOf ts line × (next_is is_end ts ≡ false)
    by_test true h = (fault_by ts (event_at ts) line closed refl (rw h at e), end_is_no_start ts h)
    by_test false h = by_end (next_is is_end ts) refl h (rw h at e)

is_over : (ts : List Item) → next_in ts ≡ End → next_is is_end ts ≡ true
unfolding next_in
is_over ts e = by_test (next_is starts_event ts) refl
  where
    by_read : (r : Read Event) → got r ≡ End → ⊥
    by_read (Ok x) g = absurd cc
    by_read (Err rest) g = absurd cc

    by_end : (b : Bool) → next_is is_end ts ≡ b → cond b End (Fault (next_line ts)) ≡ End → next_is is_end ts ≡ true
    by_end true h g = h
    by_end false h g = absurd cc

    by_test : (b : Bool) → next_is starts_event ts ≡ b → next_is is_end ts ≡ true
    by_test true h = absurd (by_read (followed starts_event_or_end (event_at ts)) (rw h at e))
    by_test false h = by_end (next_is is_end ts) refl (rw h at e)

-- ---- the next event, as the grammar gives it

pub next_is_so : (lines : List (List ℕ)) → list_all has_no_newline lines ≡ true → ItemsGoOn → (p : Place) (next : NextEvent) → next ≡ next_in (items lines p) → IsNextEvent lines p next
next_is_so lines plain law p (Got event after lookahead_line) e =
    let g = is_got (items lines p) event after lookahead_line (sym e) in
    let there : items lines after ≡ g.rest = got_stands lines plain law p event after lookahead_line g in
    rw there (Reads-event.sound (items lines p) event g.rest g.read, g.follows, g.reached)
next_is_so lines plain law p End e = is_over (items lines p) (sym e)
next_is_so lines plain law p (Fault line) e =
    let F = is_fault (items lines p) line (items_closed lines p) (sym e) in
    (F.0.front, F.0.at, F.0.rest, F.0.parts, F.0.line_is, F.0.fault, F.1)
