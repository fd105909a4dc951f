-- Whole scripts are read as they are spelled, and a fault is the first item at which none goes on.
use Rattle.std.proofs.Common.{◌≡◌, ℕ, zero, suc, ◌≤◌, Bool, true, false, cond, List, [], ◌∷◌, ◌++◌, length, Ok, Err, refl, sym, ap, subst, ◌∙◌, arith, append_assoc}
use Rattle.std.specs.List.{list_all}
use Rattle.std.proofs.lemmas.List.{append-nil, length-append}
use Rattle.std.proofs.lemmas.List.Folds.{list_all-append}
use Rattle.pd_lex.specs.Tokens.{Item, lexeme, ending, bad}
use Rattle.pd_script.specs.declared.script_header.HeaderItem.{HeaderItem}
use Rattle.pd_script.specs.declared.script_events.Event.{Event}
use Rattle.pd_script.specs.Items.{is_header, is_header_kind, is_num, is_symbol, is_num_kind, is_symbol_kind, is_end, starts_event, starts_event_or_end, next_is}
use Rattle.pd_script.specs.Script.{header_of, after_header}
use Rattle.pd_script.specs.Reader.{Reader, ◌>>=◌, done, one}
use Rattle.pd_script.specs.EventReading.{time_at, event_at, end_at, events_at}
use Rattle.pd_script.specs.Faults.{IsHeader, AreEvents, IsScript, IsFault}
use Rattle.pd_script.proofs.Plain.{all_plain}
use Rattle.pd_script.proofs.Laws.{Laws, Laws-one, Laws-bind, Laws-done, Laws-when, Took, Stops, Stops-any, any, ok, widen, then_ok, value_is, rest_is, next-yes}
use Rattle.pd_script.proofs.Apart.{and-left, and-right, or-left, or-right, not-true, not-false, apart, num_kind, symbol_kind, end_no_token, is_lexeme, lexical}
use Rattle.pd_script.proofs.TokenLaws.{but, NoStart, goes_on_not}
use Rattle.pd_script.proofs.GrammarLaws.{Reads-event, end_no_start}

-- ---- headers

abbrev pub header_at : Reader (List HeaderItem)
header_at ts = Ok (header_of ts, after_header ts)

header_stop : (ts : List Item) → Stops (but is_header) ts → header_at ts ≡ ok [] ts
header_stop [] h = refl
header_stop (t ∷ ts) h = rw (not-true (is_header t) h) refl

pub header_took : (ts : List Item) → Took header_at (but is_header) ts (header_of ts) (after_header ts)
header_took [] = record { front = []; parts = refl; same = λ t old more h. absurd cc; again = λ more h. header_stop more h }
header_took (t ∷ ts) = by_test (is_header t) refl (header_took ts)
  where
    by_test : (b : Bool) → is_header t ≡ b → Took header_at (but is_header) ts (header_of ts) (after_header ts) → Took header_at (but is_header) (t ∷ ts) (header_of (t ∷ ts)) (after_header (t ∷ ts))
    by_test true h T =
        rw h (record {
          front = t ∷ T.front;
          parts = ap (λ (x : List Item). t ∷ x) T.parts;
          same = λ u old more g. (let e = T.same u old more g in rw (h, value_is _ _ _ _ e, rest_is _ _ _ _ e) refl);
          again = λ more g. (let e = T.again more g in rw (h, value_is _ _ _ _ e, rest_is _ _ _ _ e) refl);
        })
    by_test false h T =
        rw h (record {
          front = [];
          parts = refl;
          same = λ u old more g. (let first : t ≡ u = cc in header_stop (u ∷ more) (not-false (is_header u) (ap is_header (sym first) ∙ h)));
          again = λ more g. header_stop more g;
        })

Laws-header : Laws header_at any (but is_header)
Laws-header = record {
  took = λ ts v rest e. subst (λ (x : List HeaderItem). Took header_at (but is_header) ts x rest) (value_is (header_of ts) v (after_header ts) rest e) (subst (λ (x : List Item). Took header_at (but is_header) ts (header_of ts) x) (rest_is (header_of ts) v (after_header ts) rest e) (header_took ts));
  failed = λ ts rest e. absurd cc;
  full = record { more = []; value = []; spelled = refl; reads = λ tail h. header_stop tail h };
  begins = λ ts v rest e h. Stops-any ts;
}

pub header_sound : (ts : List Item) → IsHeader (header_of ts) ts (after_header ts)
header_sound [] = refl
header_sound (t ∷ ts) = by_test (is_header t) refl (header_sound ts)
  where
    by_test : (b : Bool) → is_header t ≡ b → IsHeader (header_of ts) ts (after_header ts) → IsHeader (header_of (t ∷ ts)) (t ∷ ts) (after_header (t ∷ ts))
    by_test true h ih = rw h (t, ts, refl, h, refl, ih)
    by_test false h ih = rw h refl

pub header_complete : (hs : List HeaderItem) (ts rest : List Item) → IsHeader hs ts rest → Stops (but is_header) rest → header_at ts ≡ ok hs rest
header_complete [] ts rest h stops = rw h (header_stop rest stops)
header_complete (i ∷ hs) ts rest h stops =
    let e = header_complete hs h.1 rest h.5 stops in
    rw (h.2, h.3, h.4, value_is _ _ _ _ e, rest_is _ _ _ _ e) refl

pub header_takes : (hs : List HeaderItem) (ts rest : List Item) → IsHeader hs ts rest → (front : List Item) × (ts ≡ front ++ rest) × (list_all is_lexeme front ≡ true)
header_takes [] ts rest h = ([], h, refl)
header_takes (i ∷ hs) ts rest h =
    let R = header_takes hs h.1 rest h.5 in
    (h.0 ∷ R.0, h.2 ∙ ap (λ (x : List Item). h.0 ∷ x) R.1, rw (lexical is_header_kind is_header (record { kind = λ x g. g }) h.0 h.3, R.2) refl)

-- ---- events

end : Laws (one is_end) is_end any
end = Laws-one is_end (ending 1) refl refl

Laws-end : Laws end_at is_end any
Laws-end = Laws-bind (one is_end) (λ t. done []) is_end any any any end (λ t. Laws-done [] any) (λ t h. refl)

event_nothing : (v : Event) (rest : List Item) → event_at [] ≡ ok v rest → ⊥
unfolding event_at time_at
event_nothing v rest e = absurd cc

abbrev event_and : ℕ → Reader (List Event)
event_and n = event_at >>= (λ e. events_at n >>= (λ es. done (e ∷ es)))

pub Laws-events : (n : ℕ) → Laws (events_at n) starts_event_or_end any
unfolding events_at
Laws-events zero = widen is_end starts_event_or_end Laws-end (λ t h. or-right (starts_event t) (is_end t) h)
Laws-events (suc n) =
    Laws-when starts_event (event_and n) end_at starts_event is_end starts_event_or_end any
    (Laws-bind event_at _ starts_event starts_event_or_end starts_event_or_end any Reads-event.laws
    (λ e. Laws-bind (events_at n) (λ es. done (e ∷ es)) starts_event_or_end any any any (Laws-events n) (λ es. Laws-done (e ∷ es) any) (λ t h. refl))
    (λ t h. h))
    Laws-end
    (λ t h. h)
    end_no_start
    (λ w rest e. let b = then_ok (event_at []) (λ a. events_at n >>= (λ es. done (a ∷ es))) (w, rest) e in event_nothing b.0.0 b.0.1 b.1)
    (λ t h. or-left (starts_event t) (is_end t) h)
    (λ t h. or-right (starts_event t) (is_end t) h)

-- events, and then the end
pub record Ends (es : List Event) (ts rest : List Item) : Type 0 where
  pub last : Item
  pub goes : AreEvents es ts (last ∷ rest)
  pub ends : is_end last ≡ true

end_sound : (ts : List Item) (es : List Event) (rest : List Item) → end_at ts ≡ ok es rest → Ends es ts rest × (length es ≤ 0)
end_sound [] es rest e = absurd cc
end_sound (t ∷ ts) es rest e = by_test (is_end t) refl
  where
    by_test : (b : Bool) → is_end t ≡ b → Ends es (t ∷ ts) rest × (length es ≤ 0)
    by_test true h =
        let none : List Event = [] in
        let got : ok none ts ≡ ok es rest = rw h at e in
        let value : none ≡ es = value_is none es ts rest got in
        let left : ts ≡ rest = rest_is none es ts rest got in
        subst (λ (x : List Event). Ends x (t ∷ ts) rest × (length x ≤ 0)) value (record { last = t; goes = ap (λ (x : List Item). t ∷ x) left; ends = h }, omega arith)
    by_test false h = absurd (let got = rw h at e in cc)

and_sound : (n : ℕ) (ts : List Item) (es : List Event) (rest : List Item) → event_and n ts ≡ ok es rest → ((us : List Item) (fs : List Event) (r : List Item) → events_at n us ≡ ok fs r → Ends fs us r × (length fs ≤ n)) → Ends es ts rest × (length es ≤ suc n)
and_sound n ts es rest e ih =
    let a = then_ok (event_at ts) _ (es, rest) e in
    let b = then_ok (events_at n a.0.1) _ (es, rest) a.2 in
    let made : List Event = a.0.0 ∷ b.0.0 in
    let left : b.0.1 ≡ rest = rest_is made es b.0.1 rest b.2 in
    let value : made ≡ es = value_is made es b.0.1 rest b.2 in
    let S = ih a.0.1 b.0.0 b.0.1 b.1 in
    let it : Ends made ts b.0.1 = record { last = S.0.last; goes = (a.0.1, Reads-event.sound ts a.0.0 a.0.1 a.1, S.0.goes); ends = S.0.ends } in
    let bound : length made ≤ suc n = omega (arith, S.1) in
    (subst (λ (x : List Event). Ends x ts rest) value (subst (λ (x : List Item). Ends made ts x) left it), subst (λ (x : List Event). length x ≤ suc n) value bound)

pub events_sound : (n : ℕ) (ts : List Item) (es : List Event) (rest : List Item) → events_at n ts ≡ ok es rest → Ends es ts rest × (length es ≤ n)
unfolding events_at
events_sound zero ts es rest e = end_sound ts es rest e
events_sound (suc n) ts es rest e = by_test (next_is starts_event ts) e (λ us fs r g. events_sound n us fs r g)
  where
    by_test : (b : Bool) → cond b (event_and n ts) (end_at ts) ≡ ok es rest → ((us : List Item) (fs : List Event) (r : List Item) → events_at n us ≡ ok fs r → Ends fs us r × (length fs ≤ n)) → Ends es ts rest × (length es ≤ suc n)
    by_test true h ih = and_sound n ts es rest h ih
    by_test false h ih = let S = end_sound ts es rest h in (S.0, omega (arith, S.1))

pub event_starts : (ts : List Item) (e : Event) (rest : List Item) → event_at ts ≡ ok e rest → Stops starts_event_or_end rest → next_is starts_event ts ≡ true
event_starts ts e rest h stops = next-yes starts_event starts_event ts (λ t g. g) (λ none. event_nothing e rest (subst (λ (x : List Item). event_at x ≡ ok e rest) none h)) (Reads-event.laws.begins ts e rest h stops)

pub events_complete : (n : ℕ) (es : List Event) (ts rest : List Item) → Ends es ts rest → length es ≤ n → events_at n ts ≡ ok es rest
unfolding events_at
events_complete zero [] ts rest h le = rw (h.goes, h.ends) refl
events_complete (suc n) [] ts rest h le = rw (h.goes, end_no_start h.last h.ends, h.ends) refl
events_complete zero (e ∷ es) ts rest h le = absurd (omega arith)
events_complete (suc n) (e ∷ es) ts rest h le =
    let middle : List Item = h.goes.0 in
    let others = events_complete n es middle rest (record { last = h.last; goes = h.goes.2; ends = h.ends }) (omega arith) in
    let stops = (Laws-events n).begins middle es rest others (Stops-any rest) in
    let first : event_at ts ≡ ok e middle = Reads-event.complete ts e middle h.goes.1 stops in
    rw (event_starts ts e middle first stops, first, others) refl

pub events_take : (es : List Event) (ts rest : List Item) → AreEvents es ts rest → (front : List Item) × (ts ≡ front ++ rest) × (list_all is_lexeme front ≡ true)
events_take [] ts rest h = ([], h, refl)
events_take (e ∷ es) ts rest h =
    let first = Reads-event.takes ts e h.0 h.1 in
    let others = events_take es h.0 rest h.2 in
    (first.0 ++ others.0, first.1 ∙ ap (λ (x : List Item). first.0 ++ x) others.1 ∙ sym (append_assoc first.0 others.0 rest), rw (list_all-append is_lexeme first.0 others.0, first.2, others.2) refl)

-- ---- scripts

abbrev pub script_at : ℕ → Reader (List HeaderItem × List Event)
script_at n = header_at >>= (λ h. events_at n >>= (λ es. done (h, es)))

header_no_start : NoStart is_header
header_no_start = record {
  num_is = apart is_num_kind is_header_kind is_num is_header refl num_kind (record { kind = λ x g. g });
  plus_is = apart is_symbol_kind is_header_kind (is_symbol 43) is_header refl (symbol_kind 43) (record { kind = λ x g. g });
  star_is = apart is_symbol_kind is_header_kind (is_symbol 42) is_header refl (symbol_kind 42) (record { kind = λ x g. g });
  end_is = λ t h. end_no_token (λ kind text. is_header_kind kind) t h;
}

goes_on_no_header : (t : Item) → starts_event_or_end t ≡ true → but is_header t ≡ true
goes_on_no_header t h = not-false (is_header t) (goes_on_not is_header header_no_start t h)

Laws-script : (n : ℕ) → Laws (script_at n) any any
Laws-script n =
    Laws-bind header_at _ any (but is_header) starts_event_or_end any Laws-header
    (λ h. Laws-bind (events_at n) (λ es. done (h, es)) starts_event_or_end any any any (Laws-events n) (λ es. Laws-done (h, es) any) (λ t g. refl))
    goes_on_no_header

-- the parts of a script that was read
record Parts (n : ℕ) (h : List HeaderItem) (es : List Event) (ts rest : List Item) : Type 0 where
  header : h ≡ header_of ts
  events : events_at n (after_header ts) ≡ ok es rest

script_parts : (n : ℕ) (h : List HeaderItem) (es : List Event) (ts rest : List Item) → script_at n ts ≡ ok (h, es) rest → Parts n h es ts rest
script_parts n h es ts rest e =
    let b = then_ok (events_at n (after_header ts)) (λ fs. done (header_of ts, fs)) ((h, es), rest) e in
    let value = value_is (header_of ts, b.0.0) (h, es) b.0.1 rest b.2 in
    let left : b.0.1 ≡ rest = rest_is (header_of ts, b.0.0) (h, es) b.0.1 rest b.2 in
    record { header = sym (ap (λ (x : List HeaderItem × List Event). x.0) value); events = b.1 ∙ ap (λ (x : List Event). ok x b.0.1) (ap (λ (x : List HeaderItem × List Event). x.1) value) ∙ ap (λ (x : List Item). ok es x) left }

script_sound : (h : List HeaderItem) (es : List Event) (ts : List Item) → script_at 4096 ts ≡ ok (h, es) [] → IsScript h es ts
script_sound h es ts e =
    let P = script_parts 4096 h es ts [] e in
    let S = events_sound 4096 (after_header ts) es [] P.events in
    record { after = after_header ts; end = S.0.last; begins = subst (λ (x : List HeaderItem). IsHeader x ts (after_header ts)) (sym P.header) (header_sound ts); goes = S.0.goes; ends = S.0.ends; limit = S.1 }

Stops-header : (ts : List Item) → Stops starts_event_or_end ts → Stops (but is_header) ts
Stops-header [] h = tt
Stops-header (t ∷ ts) h = goes_on_no_header t h

pub script_complete : (h : List HeaderItem) (es : List Event) (ts : List Item) → IsScript h es ts → script_at 4096 ts ≡ ok (h, es) []
script_complete h es ts s =
    let events = events_complete 4096 es s.after [] (record { last = s.end; goes = s.goes; ends = s.ends }) s.limit in
    let stops = Stops-header s.after ((Laws-events 4096).begins s.after es [] events (Stops-any [])) in
    let e = header_complete h ts s.after s.begins stops in
    rw (value_is _ _ _ _ e, rest_is _ _ _ _ e, events) refl

-- what was read of items, and where it went wrong
pub fault_is : (ts : List Item) (t : Item) (rest : List Item) → script_at 4096 ts ≡ Err (t ∷ rest) → (front : List Item) × (ts ≡ front ++ t ∷ rest) × IsFault front t
fault_is ts t rest e =
    let F = (Laws-script 4096).failed ts (t ∷ rest) e in
    let L = F.live in
    let S = script_sound L.value.0 L.value.1 (F.front ++ (L.more ++ [])) (L.reads [] tt) in
    let more : L.more ++ [] ≡ L.more = append-nil L.more in (
      F.front,
      F.parts,
      record {
        before = record { more = L.more; header = L.value.0; events = L.value.1; script = subst (λ (x : List Item). IsScript L.value.0 L.value.1 (F.front ++ x)) more S };
        plain = all_plain L.more L.spelled;
        none = λ b. (let c = script_complete b.header b.events ((F.front ++ t ∷ []) ++ b.more) b.script in
            let d : script_at 4096 ((F.front ++ t ∷ []) ++ b.more) ≡ Err (t ∷ b.more) = rw append_assoc (F.again t rest b.more refl) in
            absurd (let both = sym c ∙ d in cc));
      },
    )

-- ---- the items of a text: tokens, and then the end or a bad place

unfoldable pub IsClosed : List Item → Type 0
IsClosed [] = ⊥
IsClosed (lexeme x ∷ ts) = IsClosed ts
IsClosed (ending line ∷ ts) = ts ≡ []
IsClosed (bad line ∷ ts) = ts ≡ []

closed_end : (front : List Item) (last : Item) (rest : List Item) → list_all is_lexeme front ≡ true → is_end last ≡ true → IsClosed (front ++ last ∷ rest) → rest ≡ []
unfolding IsClosed
closed_end [] (lexeme x) rest h e c = absurd cc
closed_end [] (ending line) rest h e c = c
closed_end [] (bad line) rest h e c = absurd cc
closed_end (lexeme x ∷ front) last rest h e c = closed_end front last rest h e c
closed_end (ending line ∷ front) last rest h e c = absurd cc
closed_end (bad line ∷ front) last rest h e c = absurd cc

-- a script's tokens and its end
ends_closed : (es : List Event) (ts rest : List Item) → Ends es ts rest → IsClosed ts → rest ≡ []
ends_closed es ts rest s c =
    let F = events_take es ts (s.last ∷ rest) s.goes in
    closed_end F.0 s.last rest F.2 s.ends (subst IsClosed F.1 c)

after_closed : (ts : List Item) → IsClosed ts → IsClosed (after_header ts)
unfolding IsClosed
after_closed [] c = c
after_closed (lexeme x ∷ ts) c = by_test (is_header (lexeme x)) refl (after_closed ts c)
  where
    by_test : (b : Bool) → is_header (lexeme x) ≡ b → IsClosed (after_header ts) → IsClosed (after_header (lexeme x ∷ ts))
    by_test true h ih = rw h ih
    by_test false h ih = rw h c
after_closed (ending line ∷ ts) c = c
after_closed (bad line ∷ ts) c = c

pub lexemes_open : (front : List Item) → list_all is_lexeme front ≡ true → IsClosed front → ⊥
unfolding IsClosed
lexemes_open [] h c = c
lexemes_open (lexeme x ∷ front) h c = lexemes_open front h c
lexemes_open (ending line ∷ front) h c = absurd cc
lexemes_open (bad line ∷ front) h c = absurd cc

prefix_lexemes : (front : List Item) (m : Item) (more before : List Item) (last : Item) → front ++ m ∷ more ≡ before ++ last ∷ [] → list_all is_lexeme before ≡ true → list_all is_lexeme front ≡ true
prefix_lexemes [] m more before last e h = refl
prefix_lexemes (x ∷ front) m more [] last e h = absurd (omega (arith, ap length e, length-append front (m ∷ more)))
prefix_lexemes (x ∷ front) m more (y ∷ before) last e h =
    let first : x ≡ y = cc in
    let others : front ++ m ∷ more ≡ before ++ last ∷ [] = cc in
    rw (first, and-left (is_lexeme y) _ h, prefix_lexemes front m more before last others (and-right (is_lexeme y) _ h)) refl

not_after_all : (front more : List Item) (h : List HeaderItem) (es : List Event) → IsScript h es (front ++ more) → IsClosed front → more ≡ []
not_after_all front [] h es s c = refl
not_after_all front (m ∷ more) h es s c =
    let H = header_takes h (front ++ m ∷ more) s.after s.begins in
    let E = events_take es s.after (s.end ∷ []) s.goes in
    let all : front ++ m ∷ more ≡ (H.0 ++ E.0) ++ s.end ∷ [] = H.1 ∙ ap (λ (x : List Item). H.0 ++ x) E.1 ∙ sym (append_assoc H.0 E.0 (s.end ∷ [])) in
    let tokens : list_all is_lexeme (H.0 ++ E.0) ≡ true = rw (list_all-append is_lexeme H.0 E.0, H.2, E.2) refl in
    absurd (lexemes_open front (prefix_lexemes front m more (H.0 ++ E.0) s.end all tokens) c)

-- a fault lies at an item
pub fault_somewhere : (ts : List Item) → IsClosed ts → script_at 4096 ts ≡ Err [] → ⊥
fault_somewhere ts c e =
    let F = (Laws-script 4096).failed ts [] e in
    let L = F.live in
    let all : ts ≡ F.front = F.parts ∙ append-nil F.front in
    let S = script_sound L.value.0 L.value.1 (F.front ++ (L.more ++ [])) (L.reads [] tt) in
    let none : L.more ++ [] ≡ [] = not_after_all F.front (L.more ++ []) L.value.0 L.value.1 S (subst IsClosed all c) in
    let whole : F.front ++ (L.more ++ []) ≡ ts = ap (λ (x : List Item). F.front ++ x) none ∙ sym F.parts in
    let good : script_at 4096 ts ≡ ok (L.value.0, L.value.1) [] = subst (λ (x : List Item). script_at 4096 x ≡ ok (L.value.0, L.value.1) []) whole (L.reads [] tt) in
    absurd (let both = sym good ∙ e in cc)

-- a script that was read
pub script_is : (ts : List Item) (es : List Event) (rest : List Item) → IsClosed ts → events_at 4096 (after_header ts) ≡ ok es rest → IsScript (header_of ts) es ts
script_is ts es rest c e =
    let S = events_sound 4096 (after_header ts) es rest e in
    let none : rest ≡ [] = ends_closed es (after_header ts) rest S.0 (after_closed ts c) in
    record { after = after_header ts; end = S.0.last; begins = header_sound ts; goes = subst (λ (x : List Item). AreEvents es (after_header ts) (S.0.last ∷ x)) none S.0.goes; ends = S.0.ends; limit = S.1 }

pub script_at_fault : (ts rest : List Item) → events_at 4096 (after_header ts) ≡ Err rest → script_at 4096 ts ≡ Err rest
script_at_fault ts rest e = rw e refl
