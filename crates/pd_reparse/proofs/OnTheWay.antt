-- The steps of the loop over events.
use Rattle.std.proofs.Common.{◌≡◌, ℕ, zero, suc, ◌+◌, ◌-◌, ◌<◌, Bool, true, false, cond, List, [], ◌∷◌, ◌++◌, length, Option, Some, None, is_some, Ok, Err, refl, sym, ap, ◌∙◌, arith, append_assoc}
use Rattle.std.proofs.lemmas.List.{append-nil, length-append}
use Rattle.pd_lex.specs.declared.token.Place.{Place}
use Rattle.pd_lex.specs.Tokens.{Item}
use Rattle.pd_script.specs.declared.script_events.Event.{Event}
use Rattle.pd_script.specs.Items.{starts_event, is_end, starts_event_or_end, next_is}
use Rattle.pd_script.specs.Reader.{Read}
use Rattle.pd_script.specs.EventReading.{next_line, event_at}
use Rattle.pd_script.specs.Script.{followed, may_follow}
use Rattle.pd_script.proofs.Apart.{or-right}
use Rattle.pd_script.proofs.Laws.{rest_is, ok}
use Rattle.pd_script.specs.declared.event_reader.NextEvent.TheVariants.{Got, End, Fault}
use Rattle.pd_reparse.specs.declared.parsed_event.ParsedEvent.{ParsedEvent}
use Rattle.pd_reparse.specs.declared.reparse.ReadStep.TheVariants.{Goes}
use Rattle.pd_reparse.specs.Steps.{IsStep, in_front}
use Rattle.pd_script.specs.Next.{place_of_next_token_or_end, lookahead_line_of, got, next_in}
use Rattle.pd_reparse.specs.Reading.{with_parsed_event, no_parsed_event, parsed_events_in}

-- ---- the next event decides

pub record IsGot (ts : List Item) (e : Event) (after : Place) (lookahead_line : Option ℕ) : Type 0 where
  pub rest : List Item
  pub start : next_is starts_event ts ≡ true
  pub reads : event_at ts ≡ ok e rest
  pub follows : next_is starts_event_or_end rest ≡ true
  pub place : place_of_next_token_or_end rest ≡ after
  pub reach_is : lookahead_line_of rest ≡ lookahead_line

got_by : (ts : List Item) (e : Event) (after : Place) (lookahead_line : Option ℕ) (r : Read Event) → next_is starts_event ts ≡ true → event_at ts ≡ r → got (followed starts_event_or_end r) ≡ Got e after lookahead_line → IsGot ts e after lookahead_line
got_by ts e after lookahead_line (Err rest) start h g = absurd cc
got_by ts e after lookahead_line (Ok x) start h g = by_test (next_is starts_event_or_end x.1) refl g
  where
    by_test : (b : Bool) → next_is starts_event_or_end x.1 ≡ b → got (cond b (Ok x) (Err x.1)) ≡ Got e after lookahead_line → IsGot ts e after lookahead_line
    by_test true f g = let same : x.0 ≡ e = cc in record { rest = x.1; start = start; reads = h ∙ ap (λ (v : Event). ok v x.1) same; follows = f; place = cc; reach_is = cc }
    by_test false f g = absurd cc

pub got_is : (ts : List Item) (e : Event) (after : Place) (lookahead_line : Option ℕ) → next_in ts ≡ Got e after lookahead_line → IsGot ts e after lookahead_line
unfolding next_in
got_is ts e after lookahead_line h = by_test (next_is starts_event ts) refl h
  where
    by_test : (b : Bool) → next_is starts_event ts ≡ b → cond b (got (followed starts_event_or_end (event_at ts))) (cond (next_is is_end ts) End (Fault (next_line ts))) ≡ Got e after lookahead_line → IsGot ts e after lookahead_line
    by_test true start g = got_by ts e after lookahead_line (event_at ts) start refl g
    by_test false start g = by_end (next_is is_end ts) g
      where
        by_end : (b : Bool) → cond b End (Fault (next_line ts)) ≡ Got e after lookahead_line → IsGot ts e after lookahead_line
        by_end true g = absurd cc
        by_end false g = absurd cc

no_end_got : (r : Read Event) → got r ≡ End → ⊥
no_end_got (Ok x) h = cc
no_end_got (Err rest) h = cc

pub at_end_is : (n : ℕ) (ts : List Item) → next_in ts ≡ End → parsed_events_in n ts ≡ record { events = []; fault = None }
unfolding next_in parsed_events_in
at_end_is n ts h = by_test (next_is starts_event ts) refl h
  where
    by_end : (b : Bool) → next_is starts_event ts ≡ false → next_is is_end ts ≡ b → cond b End (Fault (next_line ts)) ≡ End → (m : ℕ) → parsed_events_in m ts ≡ record { events = []; fault = None }
    by_end true start e g zero = rw e refl
    by_end true start e g (suc m) = rw (start, e) refl
    by_end false start e g m = absurd cc

    by_test : (b : Bool) → next_is starts_event ts ≡ b → cond b (got (followed starts_event_or_end (event_at ts))) (cond (next_is is_end ts) End (Fault (next_line ts))) ≡ End → parsed_events_in n ts ≡ record { events = []; fault = None }
    by_test true start g = absurd (no_end_got (followed starts_event_or_end (event_at ts)) g)
    by_test false start g = by_end (next_is is_end ts) start refl g n

not_followed : (n : ℕ) (ts : List Item) → next_is starts_event_or_end ts ≡ false → next_is (may_follow n) ts ≡ false
not_followed zero [] h = refl
not_followed (suc n) [] h = refl
not_followed zero (t ∷ ts) h = by_test (is_end t) refl
  where
    by_test : (b : Bool) → is_end t ≡ b → is_end t ≡ false
    by_test true e = absurd (let both = sym h ∙ or-right (starts_event t) (is_end t) e in cc)
    by_test false e = e
not_followed (suc n) (t ∷ ts) h = h

pub fault_is : (n line : ℕ) (ts : List Item) → next_in ts ≡ Fault line → parsed_events_in (suc n) ts ≡ record { events = []; fault = Some line }
unfolding next_in parsed_events_in
fault_is n line ts h = by_test (next_is starts_event ts) refl h
  where
    by_read : (r : Read Event) → got (followed starts_event_or_end r) ≡ Fault line → with_parsed_event (parsed_events_in n) (followed (may_follow n) r) ≡ record { events = []; fault = Some line }
    by_read (Err rest) g = let same : next_line rest ≡ line = cc in rw same refl
    by_read (Ok x) g = by_next (next_is starts_event_or_end x.1) refl g
      where
        by_next : (b : Bool) → next_is starts_event_or_end x.1 ≡ b → got (cond b (Ok x) (Err x.1)) ≡ Fault line → with_parsed_event (parsed_events_in n) (followed (may_follow n) (Ok x)) ≡ record { events = []; fault = Some line }
        by_next true f g = absurd cc
        by_next false f g = let same : next_line x.1 ≡ line = cc in rw (not_followed n x.1 f, same) refl

    by_test : (b : Bool) → next_is starts_event ts ≡ b → cond b (got (followed starts_event_or_end (event_at ts))) (cond (next_is is_end ts) End (Fault (next_line ts))) ≡ Fault line → cond (next_is starts_event ts) (with_parsed_event (parsed_events_in n) (followed (may_follow n) (event_at ts))) (no_parsed_event ts) ≡ record { events = []; fault = Some line }
    by_test true start g = rw start (by_read (event_at ts) g)
    by_test false start g = rw start (by_end (next_is is_end ts) refl g)
      where
        by_end : (b : Bool) → next_is is_end ts ≡ b → cond b End (Fault (next_line ts)) ≡ Fault line → no_parsed_event ts ≡ record { events = []; fault = Some line }
        by_end true e g = absurd cc
        by_end false e g = let same : next_line ts ≡ line = cc in rw (e, same) refl

-- ---- an event that is got

ends_there : (rest : List Item) → lookahead_line_of rest ≡ None → next_is is_end rest ≡ true
ends_there rest h = by_test (next_is is_end rest) refl h
  where
    by_test : (b : Bool) → next_is is_end rest ≡ b → cond b None (Some (next_line rest)) ≡ None → next_is is_end rest ≡ true
    by_test true e g = e
    by_test false e g = absurd cc

goes_further : (rest : List Item) (line : ℕ) → lookahead_line_of rest ≡ Some line → (next_is is_end rest ≡ false) × (next_line rest ≡ line)
goes_further rest line h = by_test (next_is is_end rest) refl h
  where
    by_test : (b : Bool) → next_is is_end rest ≡ b → cond b None (Some (next_line rest)) ≡ Some line → (next_is is_end rest ≡ false) × (next_line rest ≡ line)
    by_test true e g = absurd cc
    by_test false e g = (e, cc)

-- the last event that a script may have, and another one after it
pub one_too_many : (ts : List Item) (e : Event) (after : Place) (line : ℕ) → next_in ts ≡ Got e after (Some line) → parsed_events_in 1 ts ≡ record { events = []; fault = Some line }
unfolding parsed_events_in
one_too_many ts e after line h =
    let G = got_is ts e after (Some line) h in
    let F = goes_further G.rest line G.reach_is in
    rw (G.start, G.reads, F.0, F.1) refl

-- it is kept
pub got_reused : (n : ℕ) (ts : List Item) (e : Event) (after : Place) (lookahead_line : Option ℕ) (following : List Item) → next_in ts ≡ Got e after lookahead_line → followed starts_event_or_end (event_at ts) ≡ Ok (e, following) → (n ≡ 0 → lookahead_line ≡ None) → (parsed_events_in (suc n) ts ≡ in_front (record { event = e; lookahead_line = lookahead_line; after = after } ∷ []) (parsed_events_in n following)) × (n ≡ 0 → next_is is_end following ≡ true)
unfolding parsed_events_in
got_reused n ts e after lookahead_line following h there few =
    let G = got_is ts e after lookahead_line h in
    let read : followed starts_event_or_end (event_at ts) ≡ ok e G.rest = rw (G.reads, G.follows) refl in
    let same : G.rest ≡ following = rest_is e e G.rest following (sym read ∙ there) in
    let follows : next_is (may_follow n) G.rest ≡ true = may n few G.rest G.reach_is G.follows in
    let here : parsed_events_in (suc n) ts ≡ in_front (record { event = e; lookahead_line = lookahead_line; after = after } ∷ []) (parsed_events_in n G.rest) = rw (G.start, G.reads, follows, G.place, G.reach_is) refl in
    (here ∙ ap (λ (l : List Item). in_front (record { event = e; lookahead_line = lookahead_line; after = after } ∷ []) (parsed_events_in n l)) same, λ z. ap (next_is is_end) (sym same) ∙ ends_there G.rest (G.reach_is ∙ few z))
  where
    may : (m : ℕ) → (m ≡ 0 → lookahead_line ≡ None) → (rest : List Item) → lookahead_line_of rest ≡ lookahead_line → next_is starts_event_or_end rest ≡ true → next_is (may_follow m) rest ≡ true
    may zero few rest r f = ends_there rest (r ∙ few refl)
    may (suc m) few rest r f = f

-- ---- steps

pub stops_at_limit : (ts : List Item) (n : ℕ) (e : Event) (after : Place) (lookahead_line : Option ℕ) → next_in ts ≡ Got e after lookahead_line → n ≡ 0 → is_some lookahead_line ≡ true → parsed_events_in (suc n) ts ≡ record { events = []; fault = lookahead_line }
stops_at_limit ts n e after (Some line) h z some = ap (λ (m : ℕ). parsed_events_in (suc m) ts) z ∙ one_too_many ts e after line h
stops_at_limit ts n e after None h z some = absurd cc

pub goes_further_on : (rest ts : List Item) (n : ℕ) (e : Event) (after : Place) (lookahead_line : Option ℕ) → next_in ts ≡ Got e after lookahead_line → followed starts_event_or_end (event_at ts) ≡ Ok (e, rest) → (n ≡ 0 → is_some lookahead_line ≡ false) → IsStep rest ts n (record { event = e; lookahead_line = lookahead_line; after = after }) Goes
goes_further_on rest ts n e after lookahead_line h there few = got_reused n ts e after lookahead_line rest h there (λ z. none_is lookahead_line (few z))
  where
    none_is : (r : Option ℕ) → is_some r ≡ false → r ≡ None
    none_is None e = refl
    none_is (Some line) e = absurd cc

-- ---- the loop

-- what was found on the way, and what is found further on
pub record OnTheWay (front : List ParsedEvent) (limit : ℕ) (start : List Item) (events : List ParsedEvent) (i : ℕ) (now : List Item) : Type 0 where
  pub whole : in_front events (parsed_events_in (4096 - i) now) ≡ in_front front (parsed_events_in limit start)
  pub count : length events ≡ i
  pub last : i ≡ 4096 → next_is is_end now ≡ true

pub on_the_way : (front : List ParsedEvent) (start : List Item) → length front < 4096 → OnTheWay front (4096 - length front) start front (length front) start
on_the_way front start few = record { whole = refl; count = refl; last = λ e. absurd (omega (arith, e, few)) }

pub one_more : (front : List ParsedEvent) (limit : ℕ) (start : List Item) (events : List ParsedEvent) (i : ℕ) (rest now : List Item) (d : ParsedEvent) → OnTheWay front limit start events i now → i < 4096 → IsStep rest now (4096 - i - 1) d Goes → OnTheWay front limit start (events ++ d ∷ []) (i + 1) rest
one_more front limit start events i rest now d W lt S =
    let n = 4096 - (i + 1) in
    let is : 4096 - i ≡ suc (4096 - i - 1) = omega (arith, lt) in
    let less : 4096 - i - 1 ≡ n = omega (arith, lt) in
    let goes : parsed_events_in (4096 - i) now ≡ in_front (d ∷ []) (parsed_events_in n rest) = ap (λ (m : ℕ). parsed_events_in m now) is ∙ S.0 ∙ ap (λ (m : ℕ). in_front (d ∷ []) (parsed_events_in m rest)) less in
    record {
      whole = ap (λ (es : List ParsedEvent). record { events = es; fault = (parsed_events_in n rest).fault }) (append_assoc events (d ∷ []) (parsed_events_in n rest).events) ∙ ap (in_front events) (sym goes) ∙ W.whole;
      count = length-append events (d ∷ []) ∙ (let c = W.count in omega (arith, c));
      last = λ z. S.1 (omega (arith, z));
    }

-- nothing is found further on
pub no_more : (front : List ParsedEvent) (limit : ℕ) (start : List Item) (events : List ParsedEvent) (i : ℕ) (now : List Item) (fault : Option ℕ) → OnTheWay front limit start events i now → parsed_events_in (4096 - i) now ≡ record { events = []; fault = fault } → record { events = events; fault = fault } ≡ in_front front (parsed_events_in limit start)
no_more front limit start events i now fault W none =
    ap (λ (es : List ParsedEvent). record { events = es; fault = fault }) (sym (append-nil events)) ∙ ap (in_front events) (sym none) ∙ W.whole

pub none_more : (front : List ParsedEvent) (limit : ℕ) (start : List Item) (events : List ParsedEvent) (i : ℕ) (now : List Item) (fault : Option ℕ) → OnTheWay front limit start events i now → i < 4096 → parsed_events_in (suc (4096 - i - 1)) now ≡ record { events = []; fault = fault } → record { events = events; fault = fault } ≡ in_front front (parsed_events_in limit start)
none_more front limit start events i now fault W lt S =
    let is : 4096 - i ≡ suc (4096 - i - 1) = omega (arith, lt) in
    no_more front limit start events i now fault W (ap (λ (m : ℕ). parsed_events_in m now) is ∙ S)

pub at_limit : (front : List ParsedEvent) (limit : ℕ) (start : List Item) (events : List ParsedEvent) (i : ℕ) (now : List Item) → OnTheWay front limit start events i now → i ≡ 4096 → record { events = events; fault = None } ≡ in_front front (parsed_events_in limit start)
unfolding parsed_events_in
at_limit front limit start events i now W e =
    let left : 4096 - i ≡ 0 = omega (arith, e) in
    no_more front limit start events i now None W (ap (λ (m : ℕ). parsed_events_in m now) left ∙ rw (W.last e) refl)
