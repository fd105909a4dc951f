-- The events that are kept are those before the fault whose next token is before it too.
use Rattle.std.proofs.Common.{◌≡◌, ℕ, zero, suc, Bool, true, false, cond, List, [], ◌∷◌, ◌++◌, length, Option, Some, None, Ok, Err, refl, sym, ap, subst, ◌∙◌, arith, append_assoc, inl, inr}
use Rattle.std.specs.Prelude.{◌||◌, ◌⊎◌}
use Rattle.std.specs.List.{list_all}
use Rattle.std.proofs.lemmas.List.Folds.{list_all-append}
use Rattle.std.proofs.lemmas.List.{length-append, append_cancel_right}
use Rattle.pd_lex.specs.declared.token.TokenKind.TheVariants as kinds
use Rattle.pd_lex.specs.Tokens.{Item, ending, line_of}
use Rattle.pd_script.specs.declared.script_header.HeaderItem.{HeaderItem}
use Rattle.pd_script.specs.declared.script_events.Event.{Event}
use Rattle.pd_script.specs.declared.timing.Time.{Time}
use Rattle.pd_script.specs.declared.timing.Time.TheVariants as times
use Rattle.pd_script.specs.declared.timing.BlockingEnd.{BlockingEnd}
use Rattle.pd_script.specs.declared.parsed.EventsAndFault.{EventsAndFault}
use Rattle.pd_script.specs.Values.{microseconds}
use Rattle.pd_script.specs.Items.{is_header, is_num, is_symbol, is_end, starts_event, starts_event_or_end, text_of, next_is}
use Rattle.pd_script.proofs.Plain.{is_plain}
use Rattle.pd_script.specs.Reader.{Read, then_read}
use Rattle.pd_script.specs.EventReading.{next_line, event_at, end_at, events_at}
use Rattle.pd_script.specs.Grammar.{IsTime, IsMaybeBlockingEnd, IsEvent}
use Rattle.pd_script.specs.Script.{found_in, followed, may_follow, with_event, at_end, in_front, script_in, header_of, after_header}
use Rattle.pd_script.specs.Faults.{IsHeader, AreEvents, IsScript, IsKept, IsRead, IsReadTo}
use Rattle.pd_script.proofs.HeaderLaws.{header_has_end}
use Rattle.pd_script.proofs.Laws.{Full, Stops, ok, value_is, rest_is}
use Rattle.pd_script.proofs.Apart.{or-no, or-right, not-true, not-false}
use Rattle.pd_script.proofs.ArgumentLaws.{a_token}
use Rattle.pd_script.proofs.TokenLaws.{but}
use Rattle.pd_script.proofs.GrammarLaws.{Reads-action, Reads-event}
use Rattle.pd_script.proofs.ScriptLaws.{header_at, header_took, header_sound, Laws-events, events_complete, script_at_fault, script_is, fault_is, fault_somewhere, IsClosed}

-- ---- the fault that is found is the one that reading meets

abbrev IsFound : EventsAndFault → Read (List Event) → Type 0
IsFound f (Ok x) = (f.fault ≡ None) × (f.events ≡ x.0)
IsFound f (Err rest) = f.fault ≡ Some (next_line rest)

end_found : (ts : List Item) → IsFound (at_end ts) (end_at ts)
end_found [] = refl
end_found (t ∷ ts) = by_test (is_end t) refl
  where
    by_test : (b : Bool) → is_end t ≡ b → IsFound (at_end (t ∷ ts)) (end_at (t ∷ ts))
    by_test true h = rw h (refl, refl)
    by_test false h = rw h refl

not_followed : (n : ℕ) (ts : List Item) → next_is (may_follow n) ts ≡ false → events_at n ts ≡ Err ts
unfolding events_at
not_followed zero [] h = refl
not_followed (suc n) [] h = refl
not_followed zero (t ∷ ts) h = rw h refl
not_followed (suc n) (t ∷ ts) h = let g = or-no (starts_event t) (is_end t) h in rw (g.0, g.1) refl

abbrev then_one : Event → Read (List Event) → Read (List Event)
then_one e (Ok x) = Ok (e ∷ x.0, x.1)
then_one e (Err rest) = Err rest

then_one_is : (e : Event) (x : Read (List Event)) → then_read x (λ es rest. Ok (e ∷ es, rest)) ≡ then_one e x
then_one_is e (Ok x) = refl
then_one_is e (Err x) = refl

add_found : (e : Event) (f : EventsAndFault) (x : Read (List Event)) → IsFound f x → IsFound (in_front (e ∷ []) f) (then_one e x)
add_found e f (Ok x) h = (h.0, ap (λ (es : List Event). e ∷ es) h.1)
add_found e f (Err x) h = h

event_found : (n : ℕ) (e : Event) (r : List Item) (b : Bool) → next_is (may_follow n) r ≡ b → IsFound (found_in n r) (events_at n r) → IsFound (with_event (found_in n) (cond b (Ok (e, r)) (Err r))) (then_one e (events_at n r))
event_found n e r true h ih = add_found e (found_in n r) (events_at n r) ih
event_found n e r false h ih = rw (not_followed n r h) refl

read_found : (n : ℕ) (x : Read Event) → ((r : List Item) → IsFound (found_in n r) (events_at n r)) → IsFound (with_event (found_in n) (followed (may_follow n) x)) (then_read x (λ e r. then_read (events_at n r) (λ es rest. Ok (e ∷ es, rest))))
read_found n (Ok x) ih = rw (then_one_is x.0 (events_at n x.1)) (event_found n x.0 x.1 (next_is (may_follow n) x.1) refl (ih x.1))
read_found n (Err rest) ih = refl

found_by : (n : ℕ) (ts : List Item) (b : Bool) → next_is starts_event ts ≡ b → ((r : List Item) → IsFound (found_in n r) (events_at n r)) → IsFound (found_in (suc n) ts) (events_at (suc n) ts)
unfolding found_in events_at
found_by n ts true h ih = rw h (read_found n (event_at ts) ih)
found_by n ts false h ih = rw h (end_found ts)

pub found_is : (n : ℕ) (ts : List Item) → IsFound (found_in n ts) (events_at n ts)
unfolding found_in events_at
found_is zero ts = end_found ts
found_is (suc n) ts = found_by n ts (next_is starts_event ts) refl (λ r. found_is n r)

-- ---- a token that begins an event is never its fault

either_is : (a b : Bool) → b ≡ false → (a || b) ≡ true → a ≡ true
either_is true b h g = refl
either_is false b h g = absurd cc

other_is : (a b : Bool) → a ≡ false → (a || b) ≡ true → b ≡ true
other_is true b h g = absurd cc
other_is false b h g = g

a_num : Item
a_num = a_token kinds.Int (48 ∷ [])

num_spelled : is_num a_num ≡ true
unfolding a_num microseconds
num_spelled = refl

num_plain : list_all is_plain (a_num ∷ []) ≡ true
unfolding a_num
num_plain = refl

abbrev number_of : Item → ℕ × ℕ
number_of t = (line_of t, microseconds (text_of t))

-- a spelling of a time, and an action after it
after_time : (t : Item) (more : List Item) (time : ℕ × Time) → ((xs : List Item) → IsTime time (t ∷ (more ++ xs)) xs) → list_all is_plain more ≡ true → Full event_at starts_event_or_end (t ∷ [])
unfolding IsEvent IsMaybeBlockingEnd
after_time t more time h plain =
    let A = Reads-action.laws.full in
    let e : Event = record { line = time.0; time = time.1; blocking_end = None; action = A.value } in
    record {
      more = more ++ A.more;
      value = e;
      spelled = rw (list_all-append is_plain more A.more, plain, A.spelled) refl;
      reads = λ tail st. (let xs : List Item = A.more ++ tail in
          let action = Reads-action.sound xs A.value tail (A.reads tail st) in
          let none : Option BlockingEnd = None in
          let it : IsEvent e (t ∷ (more ++ xs)) tail = (time, xs, h xs, (none, xs, inr (refl, refl), (A.value, tail, action, (refl, refl)))) in
          rw append_assoc (Reads-event.complete (t ∷ (more ++ xs)) e tail it st));
    }

begins_event : (t : Item) → starts_event t ≡ true → Full event_at starts_event_or_end (t ∷ [])
unfolding IsTime
begins_event t h = by_test (is_symbol 42 t) (is_symbol 43 t) refl refl
  where
    by_test : (a b : Bool) → is_symbol 42 t ≡ a → is_symbol 43 t ≡ b → Full event_at starts_event_or_end (t ∷ [])
    by_test true b star plus = after_time t [] (line_of t, times.Any) (λ xs. inl (line_of t, xs, (t, xs, (refl, star), (refl, refl)), (refl, refl))) refl
    by_test false true star plus =
        after_time t (a_num ∷ []) (line_of t, times.Relative (number_of a_num).1) (λ xs. inr (inl (line_of t, a_num ∷ xs, (t, a_num ∷ xs, (refl, plus), (refl, refl)), (number_of a_num, xs, (a_num, xs, (refl, num_spelled), (refl, refl)), inr (refl, refl))))) num_plain
    by_test false false star plus =
        let some : (is_num t || is_symbol 43 t) ≡ true = either_is (is_num t || is_symbol 43 t) (is_symbol 42 t) star h in
        let n : is_num t ≡ true = either_is (is_num t) (is_symbol 43 t) plus some in
        after_time t [] (line_of t, times.Absolute (number_of t).1) (λ xs. inr (inr (number_of t, xs, (t, xs, (refl, n), (refl, refl)), inr (refl, refl)))) refl

both_ways : (n : ℕ) (ts rest : List Item) (es : List Event) → events_at n ts ≡ ok es [] → events_at n ts ≡ Err rest → ⊥
both_ways n ts rest es h g = absurd (let e = sym h ∙ g in cc)

-- so an event may be kept only if something is between it and the fault
not_at_once : (n : ℕ) (t : Item) (rest : List Item) → may_follow n t ≡ true → events_at n (t ∷ rest) ≡ Err (t ∷ rest) → ⊥
unfolding events_at
not_at_once zero t rest f e = absurd (let got = rw f at e in cc)
not_at_once (suc n) t rest f e = by_test (starts_event t) refl
  where
    by_test : (b : Bool) → starts_event t ≡ b → ⊥
    by_test true h =
        let E = begins_event t h in
        let tail : List Item = ending 1 ∷ [] in
        let F = (Laws-events (suc n)).failed (t ∷ rest) (t ∷ rest) e in
        let none : List Item = [] in
        let empty : none ≡ F.front = append_cancel_right none F.front (t ∷ rest) F.parts in
        let again : events_at (suc n) (F.front ++ t ∷ (E.more ++ tail)) ≡ Err (t ∷ (E.more ++ tail)) = F.again t rest (E.more ++ tail) refl in
        let here : events_at (suc n) (t ∷ (E.more ++ tail)) ≡ Err (t ∷ (E.more ++ tail)) = subst (λ (x : List Item). events_at (suc n) (x ++ t ∷ (E.more ++ tail)) ≡ Err (t ∷ (E.more ++ tail))) (sym empty) again in
        let spelled = Reads-event.sound (t ∷ (E.more ++ tail)) E.value tail (E.reads tail refl) in
        let good : events_at (suc n) (t ∷ (E.more ++ tail)) ≡ ok (E.value ∷ []) [] = events_complete (suc n) (E.value ∷ []) (t ∷ (E.more ++ tail)) [] (record { last = ending 1; goes = (tail, spelled, refl); ends = refl }) (omega arith) in
        both_ways (suc n) (t ∷ (E.more ++ tail)) (t ∷ (E.more ++ tail)) (E.value ∷ []) good here
    by_test false h = absurd (let ends : is_end t ≡ true = other_is (starts_event t) (is_end t) h f in let got = rw (h, ends) at e in cc)

-- ---- what is kept

record Kept (es : List Event) (front : List Item) : Type 0 where
  others : List Item
  goes : AreEvents es front others
  reached : (es ≡ []) ⊎ (next_is starts_event_or_end others ≡ true)
  last : (e : Event) (next : Item) (more : List Item) → IsEvent e others (next ∷ more) → starts_event_or_end next ≡ true → ⊥

kept_nothing : (front : List Item) → ((e : Event) (next : Item) (more : List Item) → IsEvent e front (next ∷ more) → starts_event_or_end next ≡ true → ⊥) → Kept [] front
kept_nothing front none = record { others = front; goes = refl; reached = inl refl; last = none }

no_event : (e : Event) (next : Item) (more : List Item) → IsEvent e [] (next ∷ more) → ⊥
no_event e next more h =
    let T = Reads-event.takes [] e (next ∷ more) h in
    omega (arith, ap length T.1, length-append T.0 (next ∷ more))

kept_at_once : (front : List Item) (t : Item) (rest : List Item) → t ∷ rest ≡ front ++ t ∷ rest → Kept [] front
kept_at_once front t rest e =
    let none : List Item = [] in
    let empty : none ≡ front = append_cancel_right none front (t ∷ rest) e in
    subst (λ (x : List Item). Kept [] x) empty (kept_nothing none (λ f next more h g. no_event f next more h))

-- an event that is spelled before a fault, and followed by what may follow one, is read
read_before : (e : Event) (front : List Item) (next : Item) (more : List Item) (t : Item) (rest : List Item) → IsEvent e front (next ∷ more) → starts_event_or_end next ≡ true → event_at (front ++ t ∷ rest) ≡ ok e (next ∷ (more ++ t ∷ rest))
read_before e front next more t rest h g =
    let first : event_at front ≡ ok e (next ∷ more) = Reads-event.complete front e (next ∷ more) h g in
    let P = Reads-event.laws.took front e (next ∷ more) first in
    let parts : front ++ t ∷ rest ≡ P.front ++ next ∷ (more ++ t ∷ rest) = ap (λ (x : List Item). x ++ t ∷ rest) P.parts ∙ append_assoc P.front (next ∷ more) (t ∷ rest) in
    rw parts (P.same next more (more ++ t ∷ rest) refl)

end_fault : (ts rest : List Item) → end_at ts ≡ Err rest → ts ≡ rest
end_fault [] rest e = cc
end_fault (t ∷ ts) rest e = by_test (is_end t) refl
  where
    by_test : (b : Bool) → is_end t ≡ b → t ∷ ts ≡ rest
    by_test true h = absurd (let got = rw h at e in cc)
    by_test false h = (let got = rw h at e in cc)

then_err : (e : Event) (x : Read (List Event)) (rest : List Item) → then_read x (λ es r. Ok (e ∷ es, r)) ≡ Err rest → x ≡ Err rest
then_err e (Ok x) rest h = absurd cc
then_err e (Err x) rest h = cc

-- an event that was read from what is before a fault, with what is left of that
event_before : (us front : List Item) (e : Event) (m middle : List Item) (t : Item) (rest : List Item) → us ≡ front ++ t ∷ rest → event_at us ≡ ok e m → m ≡ middle ++ t ∷ rest → (middle ≡ [] → ⊥) → IsEvent e front middle
event_before us front e m [] t rest parts h left some = absurd (some refl)
event_before us front e m (u ∷ middle) t rest parts h left some =
    let P = Reads-event.laws.took us e m h in
    let whole : (P.front ++ u ∷ middle) ++ t ∷ rest ≡ front ++ t ∷ rest = append_assoc P.front (u ∷ middle) (t ∷ rest) ∙ ap (λ (x : List Item). P.front ++ x) (sym left) ∙ sym P.parts ∙ parts in
    let same : P.front ++ u ∷ middle ≡ front = append_cancel_right (P.front ++ u ∷ middle) front (t ∷ rest) whole in
    subst (λ (x : List Item). IsEvent e x (u ∷ middle)) same (Reads-event.sound (P.front ++ u ∷ middle) e (u ∷ middle) (P.same u (middle ++ t ∷ rest) middle left))

-- what may follow an event and is before the fault goes on
goes_on_before : (n : ℕ) (m middle : List Item) (t : Item) (rest : List Item) → next_is (may_follow n) m ≡ true → m ≡ middle ++ t ∷ rest → (middle ≡ [] → ⊥) → next_is starts_event_or_end middle ≡ true
goes_on_before n m [] t rest f left some = absurd (some refl)
goes_on_before zero m (u ∷ middle) t rest f left some = or-right (starts_event u) (is_end u) (subst (λ (x : List Item). next_is (may_follow zero) x ≡ true) left f)
goes_on_before (suc n) m (u ∷ middle) t rest f left some = subst (λ (x : List Item). next_is (may_follow (suc n)) x ≡ true) left f

still_reached : (es : List Event) (middle others : List Item) → AreEvents es middle others → next_is starts_event_or_end middle ≡ true → (es ≡ []) ⊎ (next_is starts_event_or_end others ≡ true) → next_is starts_event_or_end others ≡ true
still_reached es middle others goes on (inr h) = h
still_reached [] middle others goes on (inl h) = rw (← goes) on
still_reached (e ∷ es) middle others goes on (inl h) = absurd cc

kept_more : (us front : List Item) (e : Event) (es : List Event) (m middle : List Item) (t : Item) (rest : List Item) → us ≡ front ++ t ∷ rest → event_at us ≡ ok e m → m ≡ middle ++ t ∷ rest → (middle ≡ [] → ⊥) → next_is starts_event_or_end middle ≡ true → Kept es middle → Kept (e ∷ es) front
kept_more us front e es m middle t rest parts h left some on K =
    record { others = K.others; goes = (middle, event_before us front e m middle t rest parts h left some, K.goes); reached = inr (still_reached es middle K.others K.goes on K.reached); last = K.last }

too_long : (t next : Item) (more rest : List Item) → t ∷ rest ≡ next ∷ (more ++ t ∷ rest) → ⊥
too_long t next more rest e = omega (arith, ap length e, length-append more (t ∷ rest))

kept_followed : (n : ℕ) (us front : List Item) (t : Item) (rest : List Item) (e : Event) (m : List Item) (b : Bool) → next_is (may_follow n) m ≡ b → us ≡ front ++ t ∷ rest → event_at us ≡ ok e m → events_at n m ≡ Err (t ∷ rest) → ((middle : List Item) → m ≡ middle ++ t ∷ rest → Kept (found_in n m).events middle) → Kept (with_event (found_in n) (cond b (Ok (e, m)) (Err m))).events front
kept_followed n us front t rest e m true f parts h fault ih =
    let M = (Laws-events n).failed m (t ∷ rest) fault in
    let some : M.front ≡ [] → ⊥ = λ none. (let left : m ≡ t ∷ rest = M.parts ∙ ap (λ (x : List Item). x ++ t ∷ rest) none in
    not_at_once n t rest (subst (λ (x : List Item). next_is (may_follow n) x ≡ true) left f) (subst (λ (x : List Item). events_at n x ≡ Err (t ∷ rest)) left fault)) in
    kept_more us front e (found_in n m).events m M.front t rest parts h M.parts some (goes_on_before n m M.front t rest f M.parts some) (ih M.front M.parts)
kept_followed n us front t rest e m false f parts h fault ih =
    let there : m ≡ t ∷ rest = (let both = sym (not_followed n m f) ∙ fault in cc) in
    kept_nothing front (λ d next more spelled g. (let other = sym h ∙ subst (λ (x : List Item). event_at x ≡ ok d (next ∷ (more ++ t ∷ rest))) (sym parts) (read_before d front next more t rest spelled g) in
    too_long t next more rest (sym there ∙ rest_is e d m (next ∷ (more ++ t ∷ rest)) other)))

kept_read : (n : ℕ) (us front : List Item) (t : Item) (rest : List Item) (r : Read Event) → event_at us ≡ r → us ≡ front ++ t ∷ rest → then_read r (λ e m. then_read (events_at n m) (λ es left. Ok (e ∷ es, left))) ≡ Err (t ∷ rest) → ((m middle : List Item) → m ≡ middle ++ t ∷ rest → events_at n m ≡ Err (t ∷ rest) → Kept (found_in n m).events middle) → Kept (with_event (found_in n) (followed (may_follow n) r)).events front
kept_read n us front t rest (Err d) h parts fault ih =
    kept_nothing front (λ f next more spelled g. absurd (let other = sym h ∙ subst (λ (x : List Item). event_at x ≡ ok f (next ∷ (more ++ t ∷ rest))) (sym parts) (read_before f front next more t rest spelled g) in cc))
kept_read n us front t rest (Ok x) h parts fault ih =
    let others = then_err x.0 (events_at n x.1) (t ∷ rest) fault in
    kept_followed n us front t rest x.0 x.1 (next_is (may_follow n) x.1) refl parts h others (λ middle left. ih x.1 middle left others)

kept_by : (n : ℕ) (us front : List Item) (t : Item) (rest : List Item) (b : Bool) → next_is starts_event us ≡ b → us ≡ front ++ t ∷ rest → events_at (suc n) us ≡ Err (t ∷ rest) → ((m middle : List Item) → m ≡ middle ++ t ∷ rest → events_at n m ≡ Err (t ∷ rest) → Kept (found_in n m).events middle) → Kept (found_in (suc n) us).events front
unfolding found_in events_at
kept_by n us front t rest true h parts fault ih = rw h (kept_read n us front t rest (event_at us) refl parts (rw h at fault) ih)
kept_by n us front t rest false h parts fault ih = rw h (kept_at_once front t rest (sym (end_fault us (t ∷ rest) (rw h at fault)) ∙ parts))

kept_is : (n : ℕ) (us front : List Item) (t : Item) (rest : List Item) → us ≡ front ++ t ∷ rest → events_at n us ≡ Err (t ∷ rest) → Kept (found_in n us).events front
unfolding found_in events_at
kept_is zero us front t rest parts fault = kept_at_once front t rest (sym (end_fault us (t ∷ rest) fault) ∙ parts)
kept_is (suc n) us front t rest parts fault = kept_by n us front t rest (next_is starts_event us) refl parts fault (λ m middle left g. kept_is n m middle t rest left g)

-- ---- with the header

after_stops : (ts : List Item) → Stops (but is_header) (after_header ts)
after_stops [] = tt
after_stops (t ∷ ts) = by_test (is_header t) refl (after_stops ts)
  where
    by_test : (b : Bool) → is_header t ≡ b → Stops (but is_header) (after_header ts) → Stops (but is_header) (after_header (t ∷ ts))
    by_test true h ih = rw h ih
    by_test false h ih = rw h (not-false (is_header t) h)

Stops-front : (s : Item → Bool) (front rest : List Item) → Stops s (front ++ rest) → Stops s front
Stops-front s [] rest h = tt
Stops-front s (t ∷ front) rest h = h

no_header_next : (ts : List Item) → Stops (but is_header) ts → next_is is_header ts ≡ false
no_header_next [] h = refl
no_header_next (t ∷ ts) h = not-true (is_header t) h

never : (b : Bool) → (b ≡ true → ⊥) → b ≡ false
never true h = absurd (h refl)
never false h = refl

next_refused : (front others : List Item) (e : Event) (left : List Item) → ((d : Event) (next : Item) (more : List Item) → IsEvent d others (next ∷ more) → starts_event_or_end next ≡ true → ⊥) → IsEvent e others left → next_is starts_event_or_end left ≡ true → ⊥
next_refused front others e [] last h g = absurd cc
next_refused front others e (t ∷ left) last h g = last e t left h g

pub kept_with_header : (ts front : List Item) (t : Item) (rest : List Item) → ts ≡ front ++ t ∷ rest → events_at 4096 (after_header ts) ≡ Err (t ∷ rest) → IsKept (header_of ts) (found_in 4096 (after_header ts)).events front
kept_with_header ts front t rest parts fault =
    let H = header_took ts in
    let E = (Laws-events 4096).failed (after_header ts) (t ∷ rest) fault in
    let K = kept_is 4096 (after_header ts) E.front t rest E.parts fault in
    let whole : (H.front ++ E.front) ++ t ∷ rest ≡ front ++ t ∷ rest = append_assoc H.front E.front (t ∷ rest) ∙ ap (λ (x : List Item). H.front ++ x) (sym E.parts) ∙ sym H.parts ∙ parts in
    let same : H.front ++ E.front ≡ front = append_cancel_right (H.front ++ E.front) front (t ∷ rest) whole in
    let stops : Stops (but is_header) E.front = Stops-front (but is_header) E.front (t ∷ rest) (subst (λ (x : List Item). Stops (but is_header) x) E.parts (after_stops ts)) in
    let read : header_at (H.front ++ E.front) ≡ ok (header_of ts) E.front = H.again E.front stops in
    let spelled = header_sound (H.front ++ E.front) in
    let there : IsHeader (header_of ts) (H.front ++ E.front) E.front = subst (λ (x : List Item). IsHeader (header_of ts) (H.front ++ E.front) x) (rest_is _ _ _ _ read) (subst (λ (x : List HeaderItem). IsHeader x (H.front ++ E.front) (after_header (H.front ++ E.front))) (value_is _ _ _ _ read) spelled) in
    record {
      after = E.front;
      others = K.others;
      begins = subst (λ (x : List Item). IsHeader (header_of ts) x E.front) same there;
      whole = no_header_next E.front stops;
      goes = K.goes;
      reached = K.reached;
      last = λ e left h. never (next_is starts_event_or_end left) (λ g. next_refused E.front K.others e left K.last h g);
    }

-- ---- what the items of a text are read as

read_by : (ts : List Item) → IsClosed ts → (r : Read (List Event)) → events_at 4096 (after_header ts) ≡ r → IsFound (found_in 4096 (after_header ts)) r → IsReadTo ts (script_in ts) (script_in ts).fault
unfolding script_in
read_by ts c (Ok x) e found =
    let S = script_is ts x.0 x.1 c e in
    rw found.0 (subst (λ (es : List Event). IsScript (header_of ts) es ts) (sym found.1) S)
read_by ts c (Err []) e found = absurd (fault_somewhere ts c (script_at_fault ts [] e))
read_by ts c (Err (t ∷ rest)) e found =
    let F = fault_is ts t rest (script_at_fault ts (t ∷ rest) e) in
    rw found (F.0, t, rest, F.1, refl, F.2, kept_with_header ts F.0 t rest F.1 e)

pub script_read : (ts : List Item) → IsClosed ts → IsRead ts (script_in ts) (script_in ts).fault
unfolding script_in
script_read ts c = (header_has_end ts, read_by ts c (events_at 4096 (after_header ts)) refl (found_is 4096 (after_header ts)))
