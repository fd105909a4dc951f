-- Events that the equal first lines decide stay, and what follows them is read on.
use Rattle.std.proofs.Common.{◌≡◌, ℕ, zero, suc, ◌+◌, ◌-◌, ◌<◌, ◌≤◌, nat_le, Bool, true, false, cond, List, [], ◌∷◌, ◌++◌, take, Ok, Err, refl, sym, ap, subst, ◌∙◌, arith, append_assoc}
use Rattle.std.specs.Prelude.{◌||◌}
use Rattle.std.specs.List.{list_all}
use Rattle.std.proofs.lemmas.Bool.Decides.{nat_tests}
use Rattle.std.proofs.lemmas.List.{append_cancel_right}
use Rattle.std.proofs.Math.Nat.{sub-zero}
use Rattle.pd_lex.specs.declared.token.Place.{Place}
use Rattle.pd_lex.specs.declared.token.TokenKind.{TokenKind}
use Rattle.pd_lex.specs.declared.token.TokenKind.TheVariants as kinds
use Rattle.pd_lex.specs.Kinds.{stays_in_line}
use Rattle.pd_lex.specs.Tokens.{Lexeme, Item, lexeme, ending, bad}
use Rattle.pd_lex.specs.Agreement.{last_line, IsInOrder, AgreeTo}
use Rattle.pd_script.specs.declared.script_events.Event.{Event}
use Rattle.pd_script.specs.Items.{is_num_kind, is_symbol_kind, is_header_kind, is_header, is_num, is_symbol, starts_event, is_end, next_is}
use Rattle.pd_script.specs.Reader.{Read}
use Rattle.pd_script.specs.EventReading.{event_at}
use Rattle.pd_script.specs.Script.{followed, may_follow}
use Rattle.pd_script.proofs.Apart.{is_lexeme, apart, num_kind, symbol_kind, or-elim, or-elim-no}
use Rattle.pd_script.proofs.Laws.{ok, next-same}
use Rattle.pd_script.proofs.GrammarLaws.{Reads-event}
use Rattle.pd_reparse.specs.declared.parsed_event.ParsedEvent.{ParsedEvent}
use Rattle.pd_script.specs.Next.{lookahead_line_of}
use Rattle.pd_reparse.specs.Reading.{parsed_event, with_parsed_event, no_parsed_event, parsed_events_in, is_decided_within_first_lines, last_place}
use Rattle.pd_reparse.specs.Steps.{in_front}
use Rattle.pd_reparse.proofs.Common.{shared}

-- ---- the token that decides an event lies within its line

num_stays : (k : TokenKind) → is_num_kind k ≡ true → stays_in_line k ≡ true
num_stays kinds.Int h = refl
num_stays kinds.Hex h = refl
num_stays kinds.Word h = refl
num_stays kinds.Decimal h = refl
num_stays kinds.Dots h = refl
num_stays kinds.Opt h = refl
num_stays kinds.Symbol h = refl
num_stays kinds.Str h = absurd cc
num_stays kinds.Cmd h = absurd cc
num_stays kinds.Code h = absurd cc

symbol_stays : (k : TokenKind) → is_symbol_kind k ≡ true → stays_in_line k ≡ true
symbol_stays kinds.Int h = refl
symbol_stays kinds.Hex h = refl
symbol_stays kinds.Word h = refl
symbol_stays kinds.Decimal h = refl
symbol_stays kinds.Dots h = refl
symbol_stays kinds.Opt h = refl
symbol_stays kinds.Symbol h = refl
symbol_stays kinds.Str h = absurd cc
symbol_stays kinds.Cmd h = absurd cc
symbol_stays kinds.Code h = absurd cc

pub start_stays : (x : Lexeme) → starts_event (lexeme x) ≡ true → stays_in_line x.kind ≡ true
start_stays x h =
    or-elim (is_num (lexeme x) || is_symbol 43 (lexeme x)) (is_symbol 42 (lexeme x)) (stays_in_line x.kind)
    (or-elim (is_num (lexeme x)) (is_symbol 43 (lexeme x)) (stays_in_line x.kind) (λ g. num_stays x.kind (num_kind.kind (lexeme x) g)) (λ g. symbol_stays x.kind ((symbol_kind 43).kind (lexeme x) g)))
    (λ g. symbol_stays x.kind ((symbol_kind 42).kind (lexeme x) g))
    h

-- and is no header item
pub starts_no_header : (t : Item) → starts_event t ≡ true → is_header t ≡ false
starts_no_header t h =
    or-elim-no (is_num t || is_symbol 43 t) (is_symbol 42 t) (is_header t)
    (or-elim-no (is_num t) (is_symbol 43 t) (is_header t) (apart is_num_kind is_header_kind is_num is_header refl num_kind (record { kind = λ x g. g }) t) (apart is_symbol_kind is_header_kind (is_symbol 43) is_header refl (symbol_kind 43) (record { kind = λ x g. g }) t))
    (apart is_symbol_kind is_header_kind (is_symbol 42) is_header refl (symbol_kind 42) (record { kind = λ x g. g }) t)
    h

-- ---- lines of reaches rise

-- the number of events that are decided, by recursion
abbrev pub tally : ℕ → List ParsedEvent → ℕ
tally same [] = 0
tally same (d ∷ ds) = cond (is_decided_within_first_lines same d.lookahead_line) (1 + tally same ds) (tally same ds)

pub record After (line last : ℕ) (back : List Item) : Type 0 where
  pub from : ℕ
  pub later : line ≤ from
  pub rises : IsInOrder from last back

pub after : (line last : ℕ) (front back : List Item) → list_all is_lexeme front ≡ true → IsInOrder line last (front ++ back) → After line last back
after line last [] back all up = record { from = line; later = omega arith; rises = up }
after line last (lexeme a ∷ front) back all up =
    let B = after (last_line a) last front back all up.4 in
    record { from = B.from; later = omega (arith, up.0, up.2, B.later); rises = B.rises }
after line last (ending n ∷ front) back all up = absurd cc
after line last (bad n ∷ front) back all up = absurd cc

pub after_event : (line last : ℕ) (xs : List Item) (e : Event) (rest : List Item) → event_at xs ≡ ok e rest → IsInOrder line last xs → After line last rest
after_event line last xs e rest h up =
    let T = Reads-event.takes xs e rest (Reads-event.sound xs e rest h) in
    after line last T.0 rest T.2 (subst (λ (l : List Item). IsInOrder line last l) T.1 up)

above : (same n : ℕ) → same < n → nat_le n same ≡ false
above same n h = grind (arith, nat_tests)

not_within : (same line last : ℕ) (t : Item) (rest : List Item) → same < line → IsInOrder line last (t ∷ rest) → is_decided_within_first_lines same (lookahead_line_of (t ∷ rest)) ≡ false
not_within same line last (lexeme x) rest lt up = above same x.from.line (omega (arith, up.0))
not_within same line last (ending n) rest lt up = refl
not_within same line last (bad n) rest lt up = above same n (omega (arith, up.0))

not_one : (w : Bool) (n : ℕ) → w ≡ false → n ≡ 0 → cond w (1 + n) n ≡ 0
not_one true n h e = absurd cc
not_one false n h e = e

-- events after the first lines aren't decided by them
pub none_within : (n same line last : ℕ) (xs : List Item) → same < line → IsInOrder line last xs → tally same (parsed_events_in n xs).events ≡ 0
unfolding parsed_events_in
none_within zero same line last xs lt up = refl
none_within (suc n) same line last xs lt up = by_test (next_is starts_event xs) (λ from ys g u. none_within n same from last ys g u)
  where
    Others : Type 0
    Others = (from : ℕ) (ys : List Item) → same < from → IsInOrder from last ys → tally same (parsed_events_in n ys).events ≡ 0

    by_next : (b : Bool) (e : Event) (t : Item) (rest : List Item) → After line last (t ∷ rest) → ((from : ℕ) (ys : List Item) → same < from → IsInOrder from last ys → tally same (parsed_events_in n ys).events ≡ 0) → tally same (with_parsed_event (parsed_events_in n) (cond b (Ok (e, t ∷ rest)) (Err (t ∷ rest)))).events ≡ 0
    by_next true e t rest B ih = not_one (is_decided_within_first_lines same (lookahead_line_of (t ∷ rest))) (tally same (parsed_events_in n (t ∷ rest)).events) (not_within same B.from last t rest (omega (arith, B.later)) B.rises) (ih B.from (t ∷ rest) (omega (arith, B.later)) B.rises)
    by_next false e t rest B ih = refl

    by_read : (r : Read Event) → event_at xs ≡ r → ((from : ℕ) (ys : List Item) → same < from → IsInOrder from last ys → tally same (parsed_events_in n ys).events ≡ 0) → tally same (with_parsed_event (parsed_events_in n) (followed (may_follow n) r)).events ≡ 0
    by_read (Err rest) h ih = refl
    by_read (Ok (e, [])) h ih = refl
    by_read (Ok (e, t ∷ rest)) h ih = by_next (may_follow n t) e t rest (after_event line last xs e (t ∷ rest) h up) ih

    by_test : (b : Bool) → ((from : ℕ) (ys : List Item) → same < from → IsInOrder from last ys → tally same (parsed_events_in n ys).events ≡ 0) → tally same (cond b (with_parsed_event (parsed_events_in n) (followed (may_follow n) (event_at xs))) (no_parsed_event xs)).events ≡ 0
    by_test true ih = by_read (event_at xs) refl ih
    by_test false ih = refl

-- ---- the first event, decided by a token in the first lines

pub record IsFirst (same n : ℕ) (xs : List Item) (e : Event) (x : Lexeme) (rest : List Item) : Type 0 where
  pub start : next_is starts_event xs ≡ true
  pub reads : event_at xs ≡ ok e (lexeme x ∷ rest)
  pub follows : may_follow n (lexeme x) ≡ true
  pub begins : starts_event (lexeme x) ≡ true
  pub within : x.from.line ≤ same

-- it is the first of those that are decided so, and the others are those after it
pub record First (same n k : ℕ) (xs : List Item) : Type 0 where
  pub e : Event
  pub x : Lexeme
  pub rest : List Item
  pub is : IsFirst same n xs e x rest
  pub others : k ≤ tally same (parsed_events_in n (lexeme x ∷ rest)).events

begins_event : (n : ℕ) (x : Lexeme) → may_follow n (lexeme x) ≡ true → starts_event (lexeme x) ≡ true
begins_event zero x h = absurd cc
begins_event (suc n) x h = or-elim (starts_event (lexeme x)) (is_end (lexeme x)) (starts_event (lexeme x)) (λ g. g) (λ g. absurd cc) h

nothing_bad : (n line : ℕ) → may_follow n (bad line) ≡ true → ⊥
nothing_bad zero line h = cc
nothing_bad (suc n) line h = cc

pub no_start : (n same : ℕ) (ts : List Item) → next_is starts_event ts ≡ false → tally same (parsed_events_in n ts).events ≡ 0
unfolding parsed_events_in
no_start zero same ts h = refl
no_start (suc n) same ts h = rw h refl

must_be : (w : Bool) (k n : ℕ) → suc k ≤ cond w (1 + n) n → (w ≡ false → n ≡ 0) → (w ≡ true) × (k ≤ n)
must_be true k n h g = (refl, omega (arith, h))
must_be false k n h g = absurd (omega (arith, h, g refl))

is_at_most : (n same : ℕ) → nat_le n same ≡ true → n ≤ same
is_at_most n same h = grind (arith, nat_tests)

pub is_more : (n same : ℕ) → nat_le n same ≡ false → same < n
is_more n same h = grind (arith, nat_tests)

module _ (same n k line last : ℕ) (xs : List Item) (up : IsInOrder line last xs) (start : next_is starts_event xs ≡ true) where
  first_token : (e : Event) (t : Item) (rest : List Item) → event_at xs ≡ ok e (t ∷ rest) → may_follow n t ≡ true → After line last (t ∷ rest) → suc k ≤ tally same (parsed_event e (t ∷ rest) ∷ (parsed_events_in n (t ∷ rest)).events) → First same n k xs
  first_token e (lexeme x) rest h f B le =
      let begins = begins_event n x f in
      let W = must_be (nat_le x.from.line same) k (tally same (parsed_events_in n (lexeme x ∷ rest)).events) le (λ no. none_within n same x.from.line last (lexeme x ∷ rest) (is_more x.from.line same no) (omega arith, B.rises.1, B.rises.2, B.rises.3, B.rises.4)) in
      record { e = e; x = x; rest = rest; is = record { start = start; reads = h; follows = f; begins = begins; within = is_at_most x.from.line same W.0 }; others = W.1 }
  first_token e (ending m) rest h f B le = absurd (let z = no_start n same (ending m ∷ rest) refl in omega (arith, le, z))
  first_token e (bad m) rest h f B le = absurd (nothing_bad n m f)

  first_next : (b : Bool) (e : Event) (t : Item) (rest : List Item) → event_at xs ≡ ok e (t ∷ rest) → may_follow n t ≡ b → suc k ≤ tally same (with_parsed_event (parsed_events_in n) (cond b (Ok (e, t ∷ rest)) (Err (t ∷ rest)))).events → First same n k xs
  first_next true e t rest h f le = first_token e t rest h f (after_event line last xs e (t ∷ rest) h up) le
  first_next false e t rest h f le = absurd (omega (arith, le))

  first_read : (r : Read Event) → event_at xs ≡ r → suc k ≤ tally same (with_parsed_event (parsed_events_in n) (followed (may_follow n) r)).events → First same n k xs
  first_read (Err rest) h le = absurd (omega (arith, le))
  first_read (Ok (e, [])) h le = absurd (omega (arith, le))
  first_read (Ok (e, t ∷ rest)) h le = first_next (may_follow n t) e t rest h refl le

first_by : (same n k line last : ℕ) (xs : List Item) (b : Bool) → next_is starts_event xs ≡ b → IsInOrder line last xs → suc k ≤ tally same (cond b (with_parsed_event (parsed_events_in n) (followed (may_follow n) (event_at xs))) (no_parsed_event xs)).events → First same n k xs
first_by same n k line last xs true start up le = first_read same n k line last xs up start (event_at xs) refl le
first_by same n k line last xs false start up le = absurd (omega (arith, le))

pub first_is : (same n k line last : ℕ) (xs : List Item) → IsInOrder line last xs → suc k ≤ tally same (parsed_events_in (suc n) xs).events → First same n k xs
unfolding parsed_events_in
first_is same n k line last xs up le = first_by same n k line last xs (next_is starts_event xs) refl up le

-- what a first event leaves
first_leaves : (same n : ℕ) (xs : List Item) (e : Event) (x : Lexeme) (rest : List Item) → IsFirst same n xs e x rest → parsed_events_in (suc n) xs ≡ with_parsed_event (parsed_events_in n) (ok e (lexeme x ∷ rest))
unfolding parsed_events_in
first_leaves same n xs e x rest F = rw (F.start, F.reads, F.follows) refl

-- the other text has it too
pub record Both (same n last : ℕ) (ys : List Item) (e : Event) (x : Lexeme) (rest : List Item) : Type 0 where
  pub more : List Item
  pub is : IsFirst same n ys e x more
  pub agree : AgreeTo same (lexeme x ∷ rest) (lexeme x ∷ more)
  pub rises : IsInOrder x.from.line last (lexeme x ∷ rest)

pub both : (same n line last : ℕ) (xs ys : List Item) (e : Event) (x : Lexeme) (rest : List Item) → IsInOrder line last xs → AgreeTo same xs ys → IsFirst same n xs e x rest → Both same n last ys e x rest
both same n line last xs ys e x rest up agree F =
    let T = Reads-event.laws.took xs e (lexeme x ∷ rest) F.reads in
    let K = Reads-event.takes xs e (lexeme x ∷ rest) (Reads-event.sound xs e (lexeme x ∷ rest) F.reads) in
    let fronts : K.0 ≡ T.front = append_cancel_right K.0 T.front (lexeme x ∷ rest) (sym K.1 ∙ T.parts) in
    let tokens : list_all is_lexeme T.front ≡ true = subst (λ (l : List Item). list_all is_lexeme l ≡ true) fronts K.2 in
    let up_parts : IsInOrder line last (T.front ++ lexeme x ∷ rest) = subst (λ (l : List Item). IsInOrder line last l) T.parts up in
    let agree_parts : AgreeTo same (T.front ++ lexeme x ∷ rest) ys = subst (λ (l : List Item). AgreeTo same l ys) T.parts agree in
    let B = after line last T.front (lexeme x ∷ rest) tokens up_parts in
    let ends : last_line x ≡ x.from.line = B.rises.3 (start_stays x F.begins) in
    let le : last_line x ≤ same = omega (arith, ends, F.within) in
    let none : List Item = [] in
    let S = shared same line last T.front none x rest ys tokens refl le up_parts agree_parts in
    let A = S.agree le in
    let parts : ys ≡ T.front ++ lexeme x ∷ A.0 = S.parts ∙ ap (λ (l : List Item). T.front ++ l) A.1 in
    record {
      more = A.0;
      is = record {
        start = ap (next_is starts_event) parts ∙ next-same starts_event T.front (lexeme x) A.0 rest ∙ ap (next_is starts_event) (sym T.parts) ∙ F.start;
        reads = ap event_at parts ∙ T.same (lexeme x) rest A.0 refl;
        follows = F.follows;
        begins = F.begins;
        within = F.within;
      };
      agree = λ h. (A.0, refl, A.2);
      rises = (omega arith, B.rises.1, B.rises.2, B.rises.3, B.rises.4);
    }

-- ---- all events that are decided so

-- where reading goes on after these events, the first of the others
pub record IsAt (ys : List Item) (ds : List ParsedEvent) (front rest : List Item) : Type 0 where
  pub parts : ys ≡ front ++ rest
  pub place : (ds ≡ [] → rest ≡ ys) × ((ds ≡ [] → ⊥) → (x : Lexeme) × (more : List Item) × (rest ≡ lexeme x ∷ more) × (starts_event (lexeme x) ≡ true) × ((p : Place) → last_place p ds ≡ x.from))

pub record Stay (n k : ℕ) (old : List ParsedEvent) (ys : List Item) : Type 0 where
  pub front : List Item
  pub rest : List Item
  pub at : IsAt ys (take k old) front rest
  pub read : parsed_events_in n ys ≡ in_front (take k old) (parsed_events_in (n - k) rest)

stay_none : (n : ℕ) (old : List ParsedEvent) (ys : List Item) → Stay n zero old ys
stay_none n old ys = record { front = []; rest = ys; at = record { parts = refl; place = (λ e. refl, λ some. absurd (some refl)) }; read = rw sub-zero refl }

none_left : (same k : ℕ) (xs : List Item) → suc k ≤ tally same (parsed_events_in zero xs).events → ⊥
unfolding parsed_events_in
none_left same k xs h = omega (arith, h)

stay_more : (n k : ℕ) (e : Event) (x : Lexeme) (rest more ys front : List Item) (old : List ParsedEvent) → starts_event (lexeme x) ≡ true → ys ≡ front ++ lexeme x ∷ more → parsed_events_in (suc n) ys ≡ with_parsed_event (parsed_events_in n) (ok e (lexeme x ∷ more)) → Stay n k old (lexeme x ∷ more) → Stay (suc n) (suc k) (parsed_event e (lexeme x ∷ rest) ∷ old) ys
stay_more n k e x rest more ys front old begins parts new S =
    let d : ParsedEvent = parsed_event e (lexeme x ∷ rest) in
    let less : suc n - suc k ≡ n - k = omega arith in
    record {
      front = front ++ S.front;
      rest = S.rest;
      at = record {
        parts = parts ∙ ap (λ (l : List Item). front ++ l) S.at.parts ∙ sym (append_assoc front S.front S.rest);
        place = (λ e. absurd cc, λ some. by_rest (take k old) S.at.place);
      };
      read = rw (new, less, S.read) refl;
    }
  where
    by_rest : (ds : List ParsedEvent) → ((ds ≡ [] → S.rest ≡ lexeme x ∷ more) × ((ds ≡ [] → ⊥) → (y : Lexeme) × (others : List Item) × (S.rest ≡ lexeme y ∷ others) × (starts_event (lexeme y) ≡ true) × ((p : Place) → last_place p ds ≡ y.from))) → (y : Lexeme) × (others : List Item) × (S.rest ≡ lexeme y ∷ others) × (starts_event (lexeme y) ≡ true) × ((p : Place) → last_place x.from ds ≡ y.from)
    by_rest [] h = (x, more, h.0 refl, begins, λ p. refl)
    by_rest (d ∷ ds) h = let g = h.1 (λ e. absurd cc) in (g.0, g.1, g.2, g.3, λ p. g.4 x.from)

pub stays : (n same line last k : ℕ) (xs ys : List Item) → IsInOrder line last xs → AgreeTo same xs ys → k ≤ tally same (parsed_events_in n xs).events → Stay n k (parsed_events_in n xs).events ys
stays n same line last zero xs ys up agree le = stay_none n (parsed_events_in n xs).events ys
stays zero same line last (suc k) xs ys up agree le = absurd (none_left same k xs le)
stays (suc n) same line last (suc k) xs ys up agree le =
    let F = first_is same n k line last xs up le in
    let B = both same n line last xs ys F.e F.x F.rest up agree F.is in
    let T = Reads-event.laws.took ys F.e (lexeme F.x ∷ B.more) B.is.reads in
    let S = stays n same F.x.from.line last k (lexeme F.x ∷ F.rest) (lexeme F.x ∷ B.more) B.rises B.agree F.others in
    rw (first_leaves same n xs F.e F.x F.rest F.is) (stay_more n k F.e F.x F.rest B.more ys T.front (parsed_events_in n (lexeme F.x ∷ F.rest)).events F.is.begins T.parts (first_leaves same n ys F.e F.x B.more B.is) S)

-- ---- the last event that a script may have isn't decided by a token

below : (same n : ℕ) (r : Read Event) → ((ts : List Item) → tally same (parsed_events_in n ts).events ≤ n - 1) → ((ts : List Item) → n ≡ 0 → tally same (parsed_events_in n ts).events ≡ 0) → tally same (with_parsed_event (parsed_events_in n) (followed (may_follow n) r)).events ≤ n
below same n (Err rest) ih none = omega arith
below same n (Ok x) ih none = by_test n (next_is (may_follow n) x.1) refl (ih x.1) (none x.1)
  where
    last_within : (ts : List Item) → next_is is_end ts ≡ true → is_decided_within_first_lines same (lookahead_line_of ts) ≡ false
    last_within ts e = rw e refl

    one : (w : Bool) (t m : ℕ) → t ≤ m → cond w (1 + t) t ≤ suc m
    one true t m h = omega (arith, h)
    one false t m h = omega (arith, h)

    by_test : (m : ℕ) (b : Bool) → next_is (may_follow m) x.1 ≡ b → tally same (parsed_events_in m x.1).events ≤ m - 1 → (m ≡ 0 → tally same (parsed_events_in m x.1).events ≡ 0) → tally same (with_parsed_event (parsed_events_in m) (cond b (Ok x) (Err x.1))).events ≤ m
    by_test m false f t z = omega arith
    by_test zero true f t z = rw (last_within x.1 f) (omega (arith, z refl))
    by_test (suc m) true f t z = one (is_decided_within_first_lines same (lookahead_line_of x.1)) (tally same (parsed_events_in (suc m) x.1).events) m (let less : suc m - 1 ≡ m = omega arith in rw less at t)

pub tally_below : (same n : ℕ) (ts : List Item) → tally same (parsed_events_in n ts).events ≤ n - 1
unfolding parsed_events_in
tally_below same zero ts = omega arith
tally_below same (suc n) ts = by_test (next_is starts_event ts) (below same n (event_at ts) (tally_below same n) (λ us e. let h = tally_below same n us in omega (arith, h, e)))
  where
    by_test : (b : Bool) → tally same (with_parsed_event (parsed_events_in n) (followed (may_follow n) (event_at ts))).events ≤ n → tally same (cond b (with_parsed_event (parsed_events_in n) (followed (may_follow n) (event_at ts))) (no_parsed_event ts)).events ≤ suc n - 1
    by_test true h = omega (arith, h)
    by_test false h = omega arith
