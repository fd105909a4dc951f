-- The steps of the loop over events.
use Rattle.std.proofs.Common.{◌≡◌, ℕ, zero, suc, Bool, true, false, cond, List, [], ◌∷◌, ◌++◌, is_some, Option, Some, None, Ok, Err, refl, sym, ap, ◌∙◌, append_assoc}
use Rattle.std.proofs.lemmas.List.{append-nil}
use Rattle.pd_lex.specs.declared.token.Place.{Place}
use Rattle.pd_lex.specs.Tokens.{Item}
use Rattle.pd_script.specs.declared.script_events.Event.{Event}
use Rattle.pd_script.specs.declared.parsed.EventsAndFault.{EventsAndFault}
use Rattle.pd_script.specs.declared.event_reader.NextEvent.TheVariants.{Got, End, Fault}
use Rattle.pd_script.specs.Items.{is_end, starts_event, starts_event_or_end, next_is}
use Rattle.pd_script.specs.Reader.{Read}
use Rattle.pd_script.specs.EventReading.{next_line, event_at}
use Rattle.pd_script.specs.Script.{found_in, followed, may_follow, with_event, at_end, in_front}
use Rattle.pd_script.specs.Next.{place_of_next_token_or_end, lookahead_line_of, got, next_in}
use Rattle.pd_script.proofs.Laws.{ok, rest_is}
use Rattle.pd_script.proofs.Apart.{or-right}

-- ---- one event more, by what comes next

found_step : (n : ℕ) (ts : List Item) (r : Read Event) → next_is starts_event ts ≡ true → followed (may_follow n) (event_at ts) ≡ r → found_in (suc n) ts ≡ with_event (found_in n) r
unfolding found_in
found_step n ts r start h = rw (start, h) refl

found_none : (n : ℕ) (ts : List Item) → next_is starts_event ts ≡ false → found_in n ts ≡ at_end ts
unfolding found_in
found_none zero ts h = refl
found_none (suc n) ts h = rw h refl

pub found_zero : (n : ℕ) (ts : List Item) → n ≡ 0 → found_in n ts ≡ at_end ts
unfolding found_in
found_zero n ts h = rw h refl

-- an event that was read, with what is left, and with what may follow it
record Taken (ts : List Item) (e : Event) (rest : List Item) : Type 0 where
  start : next_is starts_event ts ≡ true
  read : event_at ts ≡ ok e rest
  follows : next_is starts_event_or_end rest ≡ true

taken_by : (ts : List Item) (x : Read Event) (e : Event) (rest : List Item) → event_at ts ≡ x → next_is starts_event ts ≡ true → followed starts_event_or_end x ≡ ok e rest → Taken ts e rest
taken_by ts (Err left) e rest h start g = absurd cc
taken_by ts (Ok x) e rest h start g = by_test (next_is starts_event_or_end x.1) refl
  where
    by_test : (b : Bool) → next_is starts_event_or_end x.1 ≡ b → Taken ts e rest
    by_test true on =
        let made : ok x.0 x.1 ≡ ok e rest = rw on at g in
        let left : x.1 ≡ rest = rest_is x.0 e x.1 rest made in
        record { start = start; read = h ∙ made; follows = rw left at on }
    by_test false on = absurd (let made = rw on at g in cc)

starts : (ts : List Item) (e : Event) (after : Place) (lookahead_line : Option ℕ) → next_in ts ≡ Got e after lookahead_line → next_is starts_event ts ≡ true
unfolding next_in
starts ts e after lookahead_line h = by_test (next_is starts_event ts) refl
  where
    by_end : (b : Bool) → cond b End (Fault (next_line ts)) ≡ Got e after lookahead_line → ⊥
    by_end true g = absurd cc
    by_end false g = absurd cc

    by_test : (b : Bool) → next_is starts_event ts ≡ b → next_is starts_event ts ≡ true
    by_test true start = start
    by_test false start = absurd (by_end (next_is is_end ts) (rw start at h))

taken : (ts : List Item) (e : Event) (after : Place) (lookahead_line : Option ℕ) (rest : List Item) → Got e after lookahead_line ≡ next_in ts → followed starts_event_or_end (event_at ts) ≡ ok e rest → Taken ts e rest
taken ts e after lookahead_line rest h g = taken_by ts (event_at ts) e rest refl (starts ts e after lookahead_line (sym h)) g

-- the reach is that of what is left
reaches : (ts : List Item) (e : Event) (after : Place) (lookahead_line : Option ℕ) (rest : List Item) → Got e after lookahead_line ≡ next_in ts → followed starts_event_or_end (event_at ts) ≡ ok e rest → lookahead_line ≡ lookahead_line_of rest
unfolding next_in
reaches ts e after lookahead_line rest h g =
    let start = starts ts e after lookahead_line (sym h) in
    let made : Got e after lookahead_line ≡ Got e (place_of_next_token_or_end rest) (lookahead_line_of rest) = rw (start, g) at h in
    cc

if_follows : (b : Bool) (e : Event) (rest : List Item) → b ≡ true → ◌≡◌ {A = Read Event} (cond b (Ok (e, rest)) (Err rest)) (ok e rest)
if_follows b e rest h = rw h refl

found_taken : (n : ℕ) (ts : List Item) (e : Event) (rest : List Item) → Taken ts e rest → next_is (may_follow n) rest ≡ true → found_in (suc n) ts ≡ in_front (e ∷ []) (found_in n rest)
found_taken n ts e rest t may = found_step n ts (ok e rest) t.start (rw t.read (if_follows (next_is (may_follow n) rest) e rest may))

-- an event that may be kept: more may come, or the end follows it
pub found_got : (n m : ℕ) (ts : List Item) (e : Event) (after : Place) (lookahead_line : Option ℕ) (rest : List Item) → n ≡ suc m → Got e after lookahead_line ≡ next_in ts → followed starts_event_or_end (event_at ts) ≡ ok e rest → (m ≡ 0 → is_some lookahead_line ≡ false) → found_in n ts ≡ in_front (e ∷ []) (found_in m rest)
found_got n zero ts e after lookahead_line rest is h g last =
    let end : next_is is_end rest ≡ true = no_reach (next_is is_end rest) refl (ap is_some (sym (reaches ts e after lookahead_line rest h g)) ∙ last refl) in
    ap (λ (k : ℕ). found_in k ts) is ∙ found_taken 0 ts e rest (taken ts e after lookahead_line rest h g) end
  where
    no_reach : (b : Bool) → next_is is_end rest ≡ b → is_some (lookahead_line_of rest) ≡ false → next_is is_end rest ≡ true
    no_reach true t r = t
    no_reach false t r = absurd (let made = rw t at r in cc)
found_got n (suc m) ts e after lookahead_line rest is h g last =
    let t = taken ts e after lookahead_line rest h g in
    ap (λ (k : ℕ). found_in k ts) is ∙ found_taken (suc m) ts e rest t t.follows

-- the last that a script may have, where another one follows it
pub found_last : (n : ℕ) (ts : List Item) (e : Event) (after : Place) (lookahead_line : Option ℕ) (rest : List Item) → n ≡ 1 → Got e after lookahead_line ≡ next_in ts → followed starts_event_or_end (event_at ts) ≡ ok e rest → is_some lookahead_line ≡ true → found_in n ts ≡ record { events = []; fault = lookahead_line }
found_last n ts e after lookahead_line rest is h g some = by_test (next_is is_end rest) refl (reaches ts e after lookahead_line rest h g)
  where
    t : Taken ts e rest
    t = taken ts e after lookahead_line rest h g

    by_test : (b : Bool) → next_is is_end rest ≡ b → lookahead_line ≡ lookahead_line_of rest → found_in n ts ≡ record { events = []; fault = lookahead_line }
    by_test true end r =
        let none : lookahead_line ≡ None = rw end at r in
        absurd (let both : true ≡ false = sym some ∙ ap is_some none in cc)
    by_test false end r =
        let line_is : lookahead_line ≡ Some (next_line rest) = rw end at r in
        let off : followed (may_follow 0) (event_at ts) ≡ Err rest = rw (t.read, end) refl in
        ap (λ (k : ℕ). found_in k ts) is ∙ found_step 0 ts (Err rest) t.start off ∙ ap (λ (k : Option ℕ). record { events = []; fault = k }) (sym line_is)

ends : (ts : List Item) → End ≡ next_in ts → (next_is starts_event ts ≡ false) × (next_is is_end ts ≡ true)
unfolding next_in
ends ts h = by_test (next_is starts_event ts) refl
  where
    by_read : (r : Read Event) → End ≡ got r → ⊥
    by_read (Ok x) g = absurd cc
    by_read (Err rest) g = absurd cc

    by_end : (b : Bool) → next_is is_end ts ≡ b → End ≡ cond b End (Fault (next_line ts)) → next_is is_end ts ≡ true
    by_end true e g = e
    by_end false e g = absurd cc

    by_test : (b : Bool) → next_is starts_event ts ≡ b → (next_is starts_event ts ≡ false) × (next_is is_end ts ≡ true)
    by_test true s = absurd (by_read (followed starts_event_or_end (event_at ts)) (rw s at h))
    by_test false s = (s, by_end (next_is is_end ts) refl (rw s at h))

pub found_over : (n : ℕ) (ts : List Item) → End ≡ next_in ts → found_in n ts ≡ record { events = []; fault = None }
found_over n ts h = let E = ends ts h in found_none n ts E.0 ∙ rw E.1 refl

may_go : (k : ℕ) (t : Item) → may_follow k t ≡ true → starts_event_or_end t ≡ false → ⊥
may_go zero t w v = absurd (let both : true ≡ false = sym (or-right (starts_event t) (is_end t) w) ∙ v in cc)
may_go (suc k) t w v = absurd (let both : true ≡ false = sym w ∙ v in cc)

-- a fault while events may come
pub found_fault : (n m : ℕ) (ts : List Item) (line : ℕ) → n ≡ suc m → Fault line ≡ next_in ts → found_in n ts ≡ record { events = []; fault = Some line }
unfolding next_in
found_fault n m ts line is h = ap (λ (k : ℕ). found_in k ts) is ∙ by_test (next_is starts_event ts) refl
  where
    none : List Event
    none = []

    by_may : (b : Bool) (rest : List Item) (e : Event) → next_is (may_follow m) rest ≡ b → next_is starts_event_or_end rest ≡ false → next_is (may_follow m) rest ≡ false
    by_may true [] e may off = absurd cc
    by_may true (t ∷ rest) e may off = absurd (may_go m t may off)
    by_may false rest e may off = may

    by_read : (x : Read Event) → event_at ts ≡ x → Fault line ≡ got (followed starts_event_or_end x) → next_is starts_event ts ≡ true → found_in (suc m) ts ≡ record { events = []; fault = Some line }
    by_read (Err rest) e g start =
        let line_is : next_line rest ≡ line = cc in
        found_step m ts (Err rest) start (rw e refl) ∙ ap (λ (k : ℕ). record { events = none; fault = Some k }) line_is
    by_read (Ok x) e g start = by_follow (next_is starts_event_or_end x.1) refl
      where
        by_follow : (b : Bool) → next_is starts_event_or_end x.1 ≡ b → found_in (suc m) ts ≡ record { events = []; fault = Some line }
        by_follow true on = absurd (let made = rw on at g in cc)
        by_follow false on =
            let made : Fault line ≡ Fault (next_line x.1) = rw on at g in
            let line_is : next_line x.1 ≡ line = cc in
            let off : next_is (may_follow m) x.1 ≡ false = by_may (next_is (may_follow m) x.1) x.1 x.0 refl on in
            found_step m ts (Err x.1) start (rw (e, off) refl) ∙ ap (λ (k : ℕ). record { events = none; fault = Some k }) line_is

    by_end : (b : Bool) → next_is is_end ts ≡ b → next_is starts_event ts ≡ false → Fault line ≡ cond b End (Fault (next_line ts)) → found_in (suc m) ts ≡ record { events = []; fault = Some line }
    by_end true e s g = absurd cc
    by_end false e s g =
        let line_is : next_line ts ≡ line = cc in
        found_none (suc m) ts s ∙ rw e refl ∙ ap (λ (k : ℕ). record { events = none; fault = Some k }) line_is

    by_test : (b : Bool) → next_is starts_event ts ≡ b → found_in (suc m) ts ≡ record { events = []; fault = Some line }
    by_test true s = by_read (event_at ts) refl (rw s at h) s
    by_test false s = by_end (next_is is_end ts) refl s (rw s at h)

-- ---- events in front of others

pub in_front-nil : (f : EventsAndFault) → in_front [] f ≡ f
in_front-nil f = refl

pub in_front-append : (es : List Event) (e : Event) (f : EventsAndFault) → in_front (es ++ e ∷ []) f ≡ in_front es (in_front (e ∷ []) f)
in_front-append es e f = rw append_assoc refl

-- events in front of none
pub in_front-none : (es : List Event) (fault : Option ℕ) → in_front es (record { events = []; fault = fault }) ≡ record { events = es; fault = fault }
in_front-none es fault = rw append-nil refl
