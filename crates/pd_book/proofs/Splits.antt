-- The headline: answers and takings, by positions in the acts.
use Rattle.std.proofs.Common.{◌≡◌, ◌↔◌, ◌⊎◌, inl, inr, ℕ, ◌==◌, List, [], ◌∷◌, ◌++◌, append_assoc, map, Option, Some, None, is_some, Bool, true, false, ◌&&◌, ◌||◌, cond, refl, ap, sym, subst, ◌∙◌, arith}
use Rattle.std.specs.Prelude.{IsSome, IfSome}
use Rattle.std.specs.List.{AllByRecursion, All, list_any}
use Rattle.std.specs.Map.{lookup}
use Rattle.std.specs.Str.{bytes_eq}
use Rattle.std.proofs.lemmas.List.Elements.{All-map, All-from_recursion, All-head, All-tail}
use Rattle.std.proofs.lemmas.List.Folds.{list_any-append}
use Rattle.std.proofs.lemmas.Slice.Eq.{bytes_eq-Decides}
use Rattle.std.proofs.lemmas.Bool.Decides.{Decides-eqb}
use Rattle.pd_settings.specs.declared.settings.Settings.{Settings}
use Rattle.pd_run.specs.declared.verdict.Verdict.{Verdict}
use Rattle.pd_run.specs.Grammatical.{IsVerdictOf, VerdictsAreGrammatical, NoOtherVerdicts}
use Rattle.pd_run.specs.Run.{verdict_of}
use Rattle.pd_book.specs.declared.act.Act.{Act}
use Rattle.pd_book.specs.declared.act.Act.TheVariants.{Add, Edit, Remove, Set, Start, Finish, Abandon}
use Rattle.pd_book.specs.declared.act.Ruling.{Ruling}
use Rattle.pd_book.specs.declared.act.Ruling.TheVariants.{Taken, Stale}
use Rattle.pd_book.specs.declared.report.Row.{Row}
use Rattle.pd_book.specs.Acts.{NamedText, texts, text_of, has_script, now, changes, since, starts, finishes, finished, ended, answered, is_unchanged_since_start, waits, ruling}
use Rattle.pd_book.specs.Report.{ReportView, IsGrammarsRun, IsFromScratch, row, shown, scratch_row, scratch}
use Rattle.pd_book.specs.Legal.{Legal}
use Rattle.pd_book.specs.Headline.{AnsweredSinceChange, UnchangedSinceStart, CurrentWhenAnswered, RowsAreScripts, VerdictsAreGrammars, ScratchWhenAllAnswered, WholeWhenAllAnswered, pending, AreOrPending, RowsAreOfScratch, RowsAreOfWhole, TakenWhenUnchanged}
use Rattle.pd_book.proofs.Searches.{all_imp, lookup_push, not_true}
use Rattle.pd_book.proofs.Faithful.{bytes_refl, bytes_flip, lookup-edited_other, lookup-removed_other}
use Rattle.pd_book.proofs.Numbers.{ended_small, finished_ended}
use Rattle.pd_book.proofs.Standing.{reached, began}
use Rattle.pd_book.proofs.Ends.{and_both}
use Rattle.pd_book.proofs.Replayed.{found_stands, and_right}

-- ---- lists

by_recursion : {A : Type 0} (P : A → Type 0) (xs : List A) → All P xs → AllByRecursion P xs
by_recursion P [] h = tt
by_recursion P (x ∷ xs) h = (All-head P x xs h, by_recursion P xs (All-tail P x xs h))

all_front : {A : Type 0} (P : A → Type 0) (xs ys : List A) → AllByRecursion P (xs ++ ys) → AllByRecursion P xs
all_front P [] ys h = tt
all_front P (x ∷ xs) ys h = (h.0, all_front P xs ys h.1)

all_back : {A : Type 0} (P : A → Type 0) (xs ys : List A) → AllByRecursion P (xs ++ ys) → AllByRecursion P ys
all_back P [] ys h = h
all_back P (x ∷ xs) ys h = all_back P xs ys h.1

any_at : {A : Type 0} (p : A → Bool) (xs : List A) (y : A) (ys : List A) → p y ≡ true → list_any p (xs ++ y ∷ ys) ≡ true
any_at p [] y ys h = rw h refl
any_at p (x ∷ xs) y ys h = go (p x) (any_at p xs y ys h)
  where
    go : (b : Bool) → list_any p (xs ++ y ∷ ys) ≡ true → (b || list_any p (xs ++ y ∷ ys)) ≡ true
    go true f = refl
    go false f = f

one_of : (a b : Bool) → (a || b) ≡ true → b ≡ false → a ≡ true
one_of true b h k = refl
one_of false b h k = absurd cc

-- ---- positions

abbrev pub Same : List ℕ → Act → Type 0
Same name act = changes name act ≡ false

-- the acts since the last change of the script, and those before
pub record Parted (name : List ℕ) (past : List Act) : Type 0 where
  pub rest : List Act
  pub split : past ≡ since name past ++ rest
  pub same : AllByRecursion (Same name) (since name past)

pub parted : (name : List ℕ) (past : List Act) → Parted name past
parted name [] = record { rest = []; split = refl; same = tt }
parted name (a ∷ past) = go (changes name a) refl (parted name past)
  where
    go : (b : Bool) → changes name a ≡ b → Parted name past → Parted name (a ∷ past)
    go true e before = record { rest = a ∷ past; split = rw e refl; same = rw e tt }
    go false e before = record { rest = before.rest; split = rw e (ap (λ (xs : List Act). a ∷ xs) before.split); same = rw e (e, before.same) }

-- acts that don't change the script are in front of the rest
since-same : (name : List ℕ) (xs ys : List Act) → AllByRecursion (Same name) xs → since name (xs ++ ys) ≡ xs ++ since name ys
since-same name [] ys h = refl
since-same name (x ∷ xs) ys h = rw h.0 (ap (λ (zs : List Act). x ∷ zs) (since-same name xs ys h.1))

-- a start of the script among acts
record Begun (test : ℕ → Bool) (name : List ℕ) (xs : List Act) : Type 0 where
  number : ℕ
  later : List Act
  earlier : List Act
  split : xs ≡ later ++ Start number name ∷ earlier
  passes : test number ≡ true

further : (test : ℕ → Bool) (name : List ℕ) (x : Act) (xs : List Act) → Begun test name xs → Begun test name (x ∷ xs)
further test name x xs b = record { number = b.number; later = x ∷ b.later; earlier = b.earlier; split = ap (λ (ys : List Act). x ∷ ys) b.split; passes = b.passes }

begun : (test : ℕ → Bool) (name : List ℕ) (xs : List Act) → list_any (starts test name) xs ≡ true → Begun test name xs
begun test name [] h = absurd cc
begun test name (Start j n ∷ xs) h = go (bytes_eq name n) refl h (begun test name xs)
  where
    here : (c : Bool) → test j ≡ c → name ≡ n → (c || list_any (starts test name) xs) ≡ true → (list_any (starts test name) xs ≡ true → Begun test name xs) → Begun test name (Start j n ∷ xs)
    here true p e h f = record { number = j; later = []; earlier = xs; split = ap (λ (m : List ℕ). Start j m ∷ xs) (sym e); passes = p }
    here false p e h f = further test name (Start j n) xs (f h)

    go : (b : Bool) → bytes_eq name n ≡ b → ((b && test j) || list_any (starts test name) xs) ≡ true → (list_any (starts test name) xs ≡ true → Begun test name xs) → Begun test name (Start j n ∷ xs)
    go true e h f = here (test j) refl ((bytes_eq-Decides name n).0 e) h f
    go false e h f = further test name (Start j n) xs (f h)
begun test name (Add n t ∷ xs) h = further test name (Add n t) xs (begun test name xs h)
begun test name (Edit n d ∷ xs) h = further test name (Edit n d) xs (begun test name xs h)
begun test name (Remove n ∷ xs) h = further test name (Remove n) xs (begun test name xs h)
begun test name (Set k v ∷ xs) h = further test name (Set k v) xs (begun test name xs h)
begun test name (Finish j r ∷ xs) h = further test name (Finish j r) xs (begun test name xs h)
begun test name (Abandon j ∷ xs) h = further test name (Abandon j) xs (begun test name xs h)

-- a finish of the job among acts
record Done (j : ℕ) (xs : List Act) : Type 0 where
  ruled : Ruling
  later : List Act
  earlier : List Act
  split : xs ≡ later ++ Finish j ruled ∷ earlier

beyond : (j : ℕ) (x : Act) (xs : List Act) → Done j xs → Done j (x ∷ xs)
beyond j x xs d = record { ruled = d.ruled; later = x ∷ d.later; earlier = d.earlier; split = ap (λ (ys : List Act). x ∷ ys) d.split }

done : (j : ℕ) (xs : List Act) → list_any (finishes j) xs ≡ true → Done j xs
done j [] h = absurd cc
done j (Finish i r ∷ xs) h = go (j == i) refl h (done j xs)
  where
    go : (b : Bool) → (j == i) ≡ b → (b || list_any (finishes j) xs) ≡ true → (list_any (finishes j) xs ≡ true → Done j xs) → Done j (Finish i r ∷ xs)
    go true e h f = record { ruled = r; later = []; earlier = xs; split = ap (λ (k : ℕ). Finish k r ∷ xs) (sym ((Decides-eqb j i).0 e)) }
    go false e h f = beyond j (Finish i r) xs (f h)
done j (Add n t ∷ xs) h = beyond j (Add n t) xs (done j xs h)
done j (Edit n d ∷ xs) h = beyond j (Edit n d) xs (done j xs h)
done j (Remove n ∷ xs) h = beyond j (Remove n) xs (done j xs h)
done j (Set k v ∷ xs) h = beyond j (Set k v) xs (done j xs h)
done j (Start i n ∷ xs) h = beyond j (Start i n) xs (done j xs h)
done j (Abandon i ∷ xs) h = beyond j (Abandon i) xs (done j xs h)

-- ---- legal lists

legal_before : (opening : Settings) (xs ys : List Act) → Legal opening (xs ++ ys) → Legal opening ys
legal_before opening [] ys l = l
legal_before opening (x ∷ xs) ys l = legal_before opening xs ys l.1

-- no job is finished before its start
finished_later : (opening : Settings) (xs older : List Act) (j : ℕ) (n : List ℕ) → Legal opening (Start j n ∷ older) → finished (xs ++ Start j n ∷ older) j ≡ true → finished xs j ≡ true
finished_later opening xs older j n l h =
    let alive : ended older j ≡ false = not_true (ended older j) (λ w. let s = ended_small opening older j l.1 w in absurd (omega (arith, s, l.0.0))) in
    one_of (finished xs j) (finished older j) (sym (list_any-append (finishes j) xs (Start j n ∷ older)) ∙ h) (finished_ended older j alive)

-- a script that was started stands while it isn't changed
still_stands : (opening : Settings) (xs older : List Act) (j : ℕ) (n : List ℕ) → Legal opening (xs ++ Start j n ∷ older) → AllByRecursion (Same n) xs → has_script (xs ++ Start j n ∷ older) n ≡ true
still_stands opening [] older j n l s = found_stands (waits older) (texts older) n (text_of older n) l.0.1
still_stands opening (Add m t ∷ xs) older j n l s = go (lookup (bytes_eq n) (texts (xs ++ Start j n ∷ older))) refl (still_stands opening xs older j n l.1 s.1)
  where
    go : (o : Option (List (List ℕ))) → lookup (bytes_eq n) (texts (xs ++ Start j n ∷ older)) ≡ o → is_some (lookup (bytes_eq n) (texts (xs ++ Start j n ∷ older))) ≡ true
        → is_some (lookup (bytes_eq n) (texts (xs ++ Start j n ∷ older) ++ (m, t) ∷ [])) ≡ true
    go (Some u) e h = ap is_some (lookup_push (bytes_eq n) (texts (xs ++ Start j n ∷ older)) ((m, t) ∷ []) u e)
    go None e h = let no : is_some (lookup (bytes_eq n) (texts (xs ++ Start j n ∷ older))) ≡ false = ap is_some e in absurd cc
still_stands opening (Edit m d ∷ xs) older j n l s = ap is_some (lookup-edited_other m n d (texts (xs ++ Start j n ∷ older)) (bytes_flip n m s.0)) ∙ still_stands opening xs older j n l.1 s.1
still_stands opening (Remove m ∷ xs) older j n l s = ap is_some (lookup-removed_other m n (texts (xs ++ Start j n ∷ older)) (bytes_flip n m s.0)) ∙ still_stands opening xs older j n l.1 s.1
still_stands opening (Set k v ∷ xs) older j n l s = absurd (let no = s.0 in cc)
still_stands opening (Start i m ∷ xs) older j n l s = still_stands opening xs older j n l.1 s.1
still_stands opening (Finish i r ∷ xs) older j n l s = still_stands opening xs older j n l.1 s.1
still_stands opening (Abandon i ∷ xs) older j n l s = still_stands opening xs older j n l.1 s.1

-- ---- answered, by positions

-- a finish in front of a start
between : (past later ends mid older : List Act) (start finish : Act) → past ≡ later ++ start ∷ older → later ≡ ends ++ finish ∷ mid → past ≡ ends ++ finish ∷ (mid ++ start ∷ older)
between past later ends mid older start finish e f = e ∙ (ap (λ (xs : List Act). xs ++ start ∷ older) f ∙ append_assoc ends (finish ∷ mid) (start ∷ older))

-- a start among the acts since a change, in all acts
after : (past front rest later earlier : List Act) (start : Act) → past ≡ front ++ rest → front ≡ later ++ start ∷ earlier → past ≡ later ++ start ∷ (earlier ++ rest)
after past front rest later earlier start e f = e ∙ (ap (λ (xs : List Act). xs ++ rest) f ∙ append_assoc later (start ∷ earlier) rest)

-- the acts on both sides of one leave the script as it was, where all do
parted_same : (n : List ℕ) (xs ys zs : List Act) (act : Act) → xs ≡ ys ++ act ∷ zs → AllByRecursion (Same n) xs → AllByRecursion (Same n) ys × AllByRecursion (Same n) zs
parted_same n xs ys zs act e h =
    let split : AllByRecursion (Same n) (ys ++ act ∷ zs) = subst (λ (acts : List Act). AllByRecursion (Same n) acts) e h in
    (all_front (Same n) ys (act ∷ zs) split, (all_back (Same n) ys (act ∷ zs) split).1)

-- a finished job's finish follows its start
finished_after : (opening : Settings) (past later older : List Act) (j : ℕ) (n : List ℕ) → past ≡ later ++ Start j n ∷ older → Legal opening past → finished past j ≡ true → finished later j ≡ true
finished_after opening past later older j n e l h =
    finished_later opening later older j n (legal_before opening later (Start j n ∷ older) (subst (λ (xs : List Act). Legal opening xs) e l)) (subst (λ (xs : List Act). finished xs j ≡ true) e h)

answered_split : (opening : Settings) (past : List Act) (n : List ℕ) → Legal opening past → reached past n ≡ true → AnsweredSinceChange n past
answered_split opening past n l h = starting (parted n past) (begun (finished past) n (since n past) h)
  where
    finishing : (j : ℕ) (later older : List Act) → past ≡ later ++ Start j n ∷ older → AllByRecursion (Same n) later → Done j later → AnsweredSinceChange n past
    finishing j later older whole same d =
        let sides = parted_same n later d.later d.earlier (Finish j d.ruled) d.split same in record {
          number = j;
          ruled = d.ruled;
          later = d.later;
          between = d.earlier;
          earlier = older;
          split = between past later d.later d.earlier older (Start j n) (Finish j d.ruled) whole d.split;
          later_unchanged = All-from_recursion (Same n) d.later sides.0;
          between_unchanged = All-from_recursion (Same n) d.earlier sides.1;
        }

    starting : Parted n past → Begun (finished past) n (since n past) → AnsweredSinceChange n past
    starting p b =
        let whole = after past (since n past) p.rest b.later b.earlier (Start b.number n) p.split b.split in
        let same = parted_same n (since n past) b.later b.earlier (Start b.number n) b.split p.same in
        finishing b.number b.later (b.earlier ++ p.rest) whole same.0 (done b.number b.later (finished_after opening past b.later (b.earlier ++ p.rest) b.number n whole l b.passes))

split_answered : (past : List Act) (n : List ℕ) → AnsweredSinceChange n past → reached past n ≡ true
split_answered past n a =
    let tail : List Act = a.between ++ Start a.number n ∷ a.earlier in
    let late : AllByRecursion (Same n) a.later = by_recursion (Same n) a.later a.later_unchanged in
    let mid : AllByRecursion (Same n) a.between = by_recursion (Same n) a.between a.between_unchanged in
    let is : since n past ≡ a.later ++ Finish a.number a.ruled ∷ (a.between ++ Start a.number n ∷ since n a.earlier) =
    ap (since n) a.split ∙ (since-same n a.later (Finish a.number a.ruled ∷ tail) late
    ∙ ap (λ (xs : List Act). a.later ++ Finish a.number a.ruled ∷ xs) (since-same n a.between (Start a.number n ∷ a.earlier) mid)) in
    let fin : finished past a.number ≡ true =
    ap (λ (xs : List Act). finished xs a.number) a.split ∙ any_at (finishes a.number) a.later (Finish a.number a.ruled) tail ((Decides-eqb a.number a.number).1 refl) in
    let me : (bytes_eq n n && finished past a.number) ≡ true = rw (bytes_refl n) fin in
    let test : Act → Bool = starts (finished past) n in
    ap (λ (xs : List Act). list_any test xs) is
    ∙ (ap (λ (xs : List Act). list_any test xs) (sym (append_assoc a.later (Finish a.number a.ruled ∷ a.between) (Start a.number n ∷ since n a.earlier)))
    ∙ any_at test (a.later ++ Finish a.number a.ruled ∷ a.between) (Start a.number n) (since n a.earlier) me)

-- each script that stands is found
found_in : (xs : List NamedText) → AllByRecursion (λ (p : NamedText). is_some (lookup (bytes_eq p.0) xs) ≡ true) xs
found_in [] = tt
found_in (x ∷ xs) = (rw (bytes_refl x.0) refl, all_imp _ _ xs more (found_in xs))
  where
    more : (p : NamedText) → is_some (lookup (bytes_eq p.0) xs) ≡ true → is_some (cond (bytes_eq p.0 x.0) (Some x.1) (lookup (bytes_eq p.0) xs)) ≡ true
    more p h = go (bytes_eq p.0 x.0) h
      where
        go : (b : Bool) → is_some (lookup (bytes_eq p.0) xs) ≡ true → is_some (cond b (Some x.1) (lookup (bytes_eq p.0) xs)) ≡ true
        go true h = refl
        go false h = h

some_when : {A : Type 0} (b : Bool) (x : A) → is_some (cond b (Some x) None) ≡ b
some_when true x = refl
some_when false x = refl

pub current : (opening : Settings) (past : List Act) → Legal opening past → CurrentWhenAnswered past (shown opening past)
current opening past l =
    All-map (λ (r : Row). IsSome r.verdict ↔ AnsweredSinceChange r.name past) (row opening past) (texts past)
    (All-from_recursion (λ (p : NamedText). IsSome (row opening past p).verdict ↔ AnsweredSinceChange p.0 past) (texts past)
    (all_imp (λ (p : NamedText). has_script past p.0 ≡ true) (λ (p : NamedText). IsSome (row opening past p).verdict ↔ AnsweredSinceChange p.0 past) (texts past) each (found_in (texts past))))
  where
    each : (p : NamedText) → has_script past p.0 ≡ true → IsSome (row opening past p).verdict ↔ AnsweredSinceChange p.0 past
    each p here =
        let is : is_some (row opening past p).verdict ≡ answered past p.0 = some_when (answered past p.0) (verdict_of p.1 (now opening past)) in (
          λ h. answered_split opening past p.0 l (and_right (has_script past p.0) (reached past p.0) (sym is ∙ h)),
          λ a. is ∙ and_both (has_script past p.0) (reached past p.0) here (split_answered past p.0 a),
        )

pub rows_are_scripts : (opening : Settings) (past : List Act) → RowsAreScripts past (shown opening past)
rows_are_scripts opening past = each (texts past)
  where
    each : (xs : List NamedText) → map (λ (r : Row). (r.name, r.text)) (map (row opening past) xs) ≡ xs
    each [] = refl
    each (x ∷ xs) = ap (λ (ys : List NamedText). x ∷ ys) (each xs)

-- a row that is answered is the one from scratch
pub rows_of_scratch : (opening : Settings) (past : List Act) → RowsAreOfScratch opening past (shown opening past)
rows_of_scratch opening past = each (texts past)
  where
    one : (p : NamedText) (b : Bool) → (◌≡◌ {A = Row} (record { name = p.0; text = p.1; verdict = cond b (Some (verdict_of p.1 (now opening past))) None }) (scratch_row (now opening past) p))
        ⊎ (◌≡◌ {A = Row} (record { name = p.0; text = p.1; verdict = cond b (Some (verdict_of p.1 (now opening past))) None }) (pending (scratch_row (now opening past) p)))
    one p true = inl refl
    one p false = inr refl

    each : (xs : List NamedText) → AreOrPending (map (row opening past) xs) (map (scratch_row (now opening past)) xs)
    each [] = tt
    each (x ∷ xs) = (one x (answered past x.0), each xs)

pub from_scratch : (opening : Settings) (past : List Act) → ScratchWhenAllAnswered opening past (shown opening past)
from_scratch opening past h = ap (λ (rows : List Row). record { settings = now opening past; rows = rows }) (each (texts past) (by_recursion _ _ h))
  where
    one : (p : NamedText) (b : Bool) → is_some (cond b (Some (verdict_of p.1 (now opening past))) None) ≡ true → cond b (Some (verdict_of p.1 (now opening past))) None ≡ Some (verdict_of p.1 (now opening past))
    one p true k = refl
    one p false k = absurd cc

    each : (xs : List NamedText) → AllByRecursion (λ (r : Row). IsSome r.verdict) (map (row opening past) xs) → map (row opening past) xs ≡ map (scratch_row (now opening past)) xs
    each [] k = refl
    each (x ∷ xs) k =
        let head : row opening past x ≡ scratch_row (now opening past) x = ap (λ (v : Option Verdict). record { name = x.0; text = x.1; verdict = v }) (one x (answered past x.0) k.0) in
        let rest = each xs k.1 in cc

-- ---- by the grammar

-- each verdict that is shown is a run
pub rows_grammars : VerdictsAreGrammatical → (opening : Settings) (past : List Act) → VerdictsAreGrammars opening past (shown opening past)
rows_grammars law opening past = All-map (IsGrammarsRun (now opening past)) (row opening past) (texts past) (All-from_recursion _ (texts past) (each (texts past)))
  where
    one : (p : NamedText) (b : Bool) → IsGrammarsRun (now opening past) (record { name = p.0; text = p.1; verdict = cond b (Some (verdict_of p.1 (now opening past))) None })
    one p true = law p.1 (now opening past)
    one p false = tt

    each : (ps : List NamedText) → AllByRecursion (λ (p : NamedText). IsGrammarsRun (now opening past) (row opening past p)) ps
    each [] = tt
    each (p ∷ ps) = (one p (answered past p.0), each ps)

pub scratch_is : VerdictsAreGrammatical → (scripts : List NamedText) (settings : Settings) → IsFromScratch scripts settings (scratch scripts settings)
scratch_is law scripts settings = record {
  under = refl;
  rows = named scripts;
  runs = All-map (IsGrammarsRun settings) (scratch_row settings) scripts (All-from_recursion _ scripts (run scripts));
  none_pending = All-map (λ (row : Row). IsSome row.verdict) (scratch_row settings) scripts (All-from_recursion _ scripts (some scripts));
}
  where
    named : (xs : List NamedText) → map (λ (r : Row). (r.name, r.text)) (map (scratch_row settings) xs) ≡ xs
    named [] = refl
    named (x ∷ xs) = ap (λ (ys : List NamedText). x ∷ ys) (named xs)

    run : (xs : List NamedText) → AllByRecursion (λ (p : NamedText). IsGrammarsRun settings (scratch_row settings p)) xs
    run [] = tt
    run (x ∷ xs) = (law x.1 settings, run xs)

    some : (xs : List NamedText) → AllByRecursion (λ (p : NamedText). IsSome (scratch_row settings p).verdict) xs
    some [] = tt
    some (x ∷ xs) = (refl, some xs)

-- a row with the verdict of its run is the one from scratch
row_one : NoOtherVerdicts → (settings : Settings) (r : Row) → IsGrammarsRun settings r → IsSome r.verdict → r ≡ scratch_row settings (r.name, r.text)
row_one law settings r h k = go r.verdict refl h k
  where
    go : (v : Option Verdict) → r.verdict ≡ v → IfSome v (IsVerdictOf r.text settings) → is_some v ≡ true → r ≡ scratch_row settings (r.name, r.text)
    go None e f g = absurd cc
    go (Some v) e f g = ap (λ (o : Option Verdict). record { name = r.name; text = r.text; verdict = o }) (e ∙ ap (λ (x : Verdict). Some x) (law r.text settings v f))

pub scratch_one : NoOtherVerdicts → (scripts : List NamedText) (settings : Settings) (report : ReportView) → IsFromScratch scripts settings report → report ≡ scratch scripts settings
scratch_one law scripts settings report is =
    let whole : report ≡ record { settings = settings; rows = report.rows } = ap (λ (s : Settings). record { settings = s; rows = report.rows }) is.under in
    whole ∙ ap (λ (rs : List Row). record { settings = settings; rows = rs }) (each report.rows (by_recursion _ _ is.runs) (by_recursion _ _ is.none_pending) ∙ ap (map (scratch_row settings)) is.rows)
  where
    each : (rs : List Row) → AllByRecursion (IsGrammarsRun settings) rs → AllByRecursion (λ (r : Row). IsSome r.verdict) rs → rs ≡ map (scratch_row settings) (map (λ (r : Row). (r.name, r.text)) rs)
    each [] h k = refl
    each (r ∷ rs) h k =
        let head : r ≡ scratch_row settings (r.name, r.text) = row_one law settings r h.0 k.0 in
        let rest = each rs h.1 k.1 in cc

pub rows_of_whole : VerdictsAreGrammatical → (opening : Settings) (past : List Act) → RowsAreOfWhole opening past (shown opening past)
rows_of_whole law opening past = (scratch (texts past) (now opening past), scratch_is law (texts past) (now opening past), rows_of_scratch opening past)

pub whole_answered : VerdictsAreGrammatical → (opening : Settings) (past : List Act) → WholeWhenAllAnswered opening past (shown opening past)
whole_answered law opening past h = subst (IsFromScratch (texts past) (now opening past)) (sym (from_scratch opening past h)) (scratch_is law (texts past) (now opening past))

-- ---- taken, by positions

taken_when : (b : Bool) → cond b Taken Stale ≡ Taken → b ≡ true
taken_when true h = refl
taken_when false h = absurd cc

pub taken : (opening : Settings) (past : List Act) → Legal opening past → TakenWhenUnchanged opening past
taken opening past l j task open_task = (there, back)
  where
    n : List ℕ
    n = task.name

    there : ruling past task ≡ Taken → UnchangedSinceStart task past
    there h =
        let b = begun (λ (i : ℕ). i == task.number) n (since n past) (and_right (has_script past n) (began past n task.number) (taken_when (is_unchanged_since_start past task) h)) in
        let p = parted n past in
        let num : b.number ≡ task.number = (Decides-eqb b.number task.number).0 b.passes in
        let same : AllByRecursion (Same n) (b.later ++ Start b.number n ∷ b.earlier) = subst (λ (xs : List Act). AllByRecursion (Same n) xs) b.split p.same in record {
          later = b.later;
          earlier = b.earlier ++ p.rest;
          split = after past (since n past) p.rest b.later b.earlier (Start b.number n) p.split b.split ∙ ap (λ (i : ℕ). b.later ++ Start i n ∷ (b.earlier ++ p.rest)) num;
          later_unchanged = All-from_recursion (Same n) b.later (all_front (Same n) b.later (Start b.number n ∷ b.earlier) same);
        }

    back : UnchangedSinceStart task past → ruling past task ≡ Taken
    back u =
        let late : AllByRecursion (Same n) u.later = by_recursion (Same n) u.later u.later_unchanged in
        let here : has_script past n ≡ true =
        ap (λ (xs : List Act). has_script xs n) u.split ∙ still_stands opening u.later u.earlier task.number n (subst (λ (xs : List Act). Legal opening xs) u.split l) late in
        let test : Act → Bool = starts (λ (i : ℕ). i == task.number) n in
        let me : (bytes_eq n n && (task.number == task.number)) ≡ true = rw (bytes_refl n) ((Decides-eqb task.number task.number).1 refl) in
        let since_is : since n past ≡ u.later ++ Start task.number n ∷ since n u.earlier = ap (since n) u.split ∙ since-same n u.later (Start task.number n ∷ u.earlier) late in
        let in_it : began past n task.number ≡ true = ap (λ (xs : List Act). list_any test xs) since_is ∙ any_at test u.later (Start task.number n) (since n u.earlier) me in
        ap (λ (b : Bool). cond b Taken Stale) (and_both (has_script past n) (began past n task.number) here in_it)
