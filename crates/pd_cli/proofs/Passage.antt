-- The histories that serving goes through.
use Rattle.std.proofs.Common.{◌≡◌, ℕ, ◌-◌, ◌==◌, nat_le, Bool, true, false, not, ◌&&◌, List, [], ◌∷◌, ◌++◌, length, take, Option, Some, None, option_map, Result, Ok, Err, cond, refl, sym, ap, subst, ◌∙◌, arith, suc, zero, slice_index}
use Rattle.std.specs.List.{list_all, slice_split, onto_first}
use Rattle.std.specs.Str.Lines.{lines, lines_of_parts, strip_carriage_return}
use Rattle.std.proofs.lemmas.Bool.{leb-true}
use Rattle.std.proofs.lemmas.List.Splits.{slice_split_at, slice_split-cons_no}
use Rattle.pd_text.specs.Text.{has_no_newline, AreLines, FitsText, fits_text, octets_of}
use Rattle.pd_text.specs.declared.line_edit.LineEdit.{LineEdit}
use Rattle.pd_settings.specs.Keys.{key_named}
use Rattle.pd_settings.specs.declared.keys.Key.{Key}
use Rattle.pd_settings.specs.declared.values.Value.{Value}
use Rattle.pd_book.specs.declared.act.Act.{Act}
use Rattle.pd_book.specs.declared.act.Act.TheVariants as act
use Rattle.pd_book.specs.declared.faults.BookFault.{BookFault}
use Rattle.pd_book.specs.declared.faults.BookFault.TheVariants as book
use Rattle.pd_text.specs.Text.{IsText}
use Rattle.pd_book.specs.Legal.{Legal}
use Rattle.pd_book.specs.Accepted.{AddsAreLegal, EditsAreLegal, RemovesAreLegal, SetsAreLegal}
use Rattle.pd_book.specs.History.{History, after_act}
use Rattle.pd_book.specs.Turns.{settled, IsAtRest, IsSettled, SettlesAll}
use Rattle.pd_book.specs.Refusals.{add_refusal, edit_refusal, remove_refusal, set_refusal}
use Rattle.pd_protocol.specs.CommandLines.{command_line_of}
use Rattle.pd_protocol.specs.Commands.{InputItem, does, stops, fitted, line_edit_if_lines_are_some, with_lines, items_at, items, commands}
use Rattle.pd_protocol.specs.declared.command_line.CommandLine.{CommandLine}
use Rattle.pd_protocol.specs.declared.command_line.CommandLine.TheVariants as asks
use Rattle.pd_protocol.specs.declared.command.Command.{Command}
use Rattle.pd_protocol.specs.declared.command.Command.TheVariants.{Add, Edit, Remove, Set, Show, Settle}
use Rattle.pd_protocol.specs.declared.faults.ServeFault.TheVariants.{Truncated}
use Rattle.pd_cli.specs.Report.{rendered}
use Rattle.pd_cli.specs.Output.{report, acted, reported, effect, PrintsAlone}
use Rattle.pd_cli.specs.Sessions.{PrintsAll}
use Rattle.pd_cli.specs.Laws.{OutputGoesOn, StoriesAreLegal, SettlesPrintScratch}
use Rattle.pd_cli.proofs.Written.{ok_same, quiet_reported, first_outcome}

-- ---- the lines of an input hold no newline

line_take : (n : ℕ) (line : List ℕ) → has_no_newline line ≡ true → has_no_newline (take n line) ≡ true
line_take zero line h = refl
line_take (suc n) [] h = refl
line_take (suc n) (x ∷ line) h = go (not (x == 10)) h (line_take n line)
  where
    go : (b : Bool) → (b && has_no_newline line) ≡ true → (has_no_newline line ≡ true → has_no_newline (take n line) ≡ true) → (b && has_no_newline (take n line)) ≡ true
    go true k f = f k
    go false k f = absurd cc

line_strip : (line : List ℕ) → has_no_newline line ≡ true → has_no_newline (strip_carriage_return line) ≡ true
line_strip line h = go (slice_index line (length line - 1) == 13)
  where
    go : (b : Bool) → has_no_newline (cond b (take (length line - 1) line) line) ≡ true
    go true = line_take (length line - 1) line h
    go false = h

abbrev newline : ℕ → Bool
newline octet = octet == 10

onto_line : (x : ℕ) (parts : List (List ℕ)) → newline x ≡ false → list_all has_no_newline parts ≡ true → list_all has_no_newline (onto_first x parts) ≡ true
onto_line x [] e h = rw e refl
onto_line x (part ∷ parts) e h = rw e h

parts_are_lines : (octets : List ℕ) → list_all has_no_newline (slice_split newline octets) ≡ true
parts_are_lines [] = refl
parts_are_lines (x ∷ octets) = go (newline x) refl (parts_are_lines octets)
  where
    go : (b : Bool) → newline x ≡ b → list_all has_no_newline (slice_split newline octets) ≡ true → list_all has_no_newline (slice_split newline (x ∷ octets)) ≡ true
    go true e h = ap (list_all has_no_newline) (slice_split_at newline [] x octets (λ k d lt. absurd (omega (arith, lt))) e) ∙ h
    go false e h = ap (list_all has_no_newline) (slice_split-cons_no newline x octets e) ∙ onto_line x (slice_split newline octets) e h

and_parts : (a b : Bool) → (a && b) ≡ true → (a ≡ true) × (b ≡ true)
and_parts true b h = (refl, h)
and_parts false b h = absurd cc

and_join : (a b : Bool) → a ≡ true → b ≡ true → (a && b) ≡ true
and_join a b e f = rw (e, f) refl

lines_of_lines : (parts : List (List ℕ)) → list_all has_no_newline parts ≡ true → list_all has_no_newline (lines_of_parts parts) ≡ true
lines_of_lines [] h = refl
lines_of_lines (x ∷ []) h = go (length x == 0)
  where
    go : (b : Bool) → list_all has_no_newline (cond b [] (x ∷ [])) ≡ true
    go true = refl
    go false = h
lines_of_lines (x ∷ y ∷ parts) h =
    let both = and_parts (has_no_newline x) (list_all has_no_newline (y ∷ parts)) h in
    and_join (has_no_newline (strip_carriage_return x)) (list_all has_no_newline (lines_of_parts (y ∷ parts))) (line_strip x both.0) (lines_of_lines (y ∷ parts) both.1)

pub lines_are_lines : (input : List ℕ) → AreLines (lines input)
lines_are_lines input = lines_of_lines (slice_split newline input) (parts_are_lines input)

lines_take : (n : ℕ) (ls : List (List ℕ)) → AreLines ls → AreLines (take n ls)
lines_take zero ls h = refl
lines_take (suc n) [] h = refl
lines_take (suc n) (x ∷ ls) h =
    let both = and_parts (has_no_newline x) (list_all has_no_newline ls) h in
    and_join (has_no_newline x) (list_all has_no_newline (take n ls)) both.0 (lines_take n ls both.1)

-- ---- the texts and edits of the commands of an input

abbrev pub FitsLines : Option (List (List ℕ)) → Type 0
FitsLines None = Unit {0}
FitsLines (Some text) = IsText text

abbrev pub FitsEdit : Option LineEdit → Type 0
FitsEdit None = Unit {0}
FitsEdit (Some edit) = AreLines edit.insert

abbrev pub FitsCommand : Command → Type 0
FitsCommand (Add name text) = FitsLines text
FitsCommand (Edit name edit) = FitsEdit edit
FitsCommand (Remove name) = Unit {0}
FitsCommand (Set key value) = Unit {0}
FitsCommand Show = Unit {0}
FitsCommand Settle = Unit {0}

abbrev pub FitsItem : InputItem → Type 0
FitsItem (does command) = FitsCommand command
FitsItem (stops fault) = Unit {0}

abbrev pub AllFit : List InputItem → Type 0
AllFit [] = Unit {0}
AllFit (item ∷ rest) = FitsItem item × AllFit rest

pub fit_front : (first rest : List InputItem) → AllFit (first ++ rest) → AllFit first
fit_front [] rest h = tt
fit_front (item ∷ first) rest h = (h.0, fit_front first rest h.1)

fits_of : (ls : List (List ℕ)) → fits_text ls ≡ true → FitsText ls
fits_of ls h =
    let both = and_parts (nat_le (length ls) 4096) (nat_le (octets_of ls) 65536) h in
    (leb-true (length ls) 4096 both.0, leb-true (octets_of ls) 65536 both.1)

fitted_fits : (ls : List (List ℕ)) → AreLines ls → FitsLines (fitted ls)
fitted_fits ls h = go (fits_text ls) refl
  where
    go : (b : Bool) → fits_text ls ≡ b → FitsLines (cond b (Some ls) None)
    go true e = (fits_of ls e, h)
    go false e = tt

edit_fits : (from remove : ℕ) (insert : Option (List (List ℕ))) → FitsLines insert → FitsEdit (line_edit_if_lines_are_some from remove insert)
edit_fits from remove None h = tt
edit_fits from remove (Some ls) h = h.1

with_fit : (count : ℕ) (after : List (List ℕ)) (command : Option (List (List ℕ)) → Command) (rest : ℕ → List InputItem) → AreLines after
    → ((text : Option (List (List ℕ))) → FitsLines text → FitsCommand (command text)) → ((n : ℕ) → AllFit (rest n)) → AllFit (with_lines count after command rest)
with_fit count after command rest h f k = go (nat_le count (length after))
  where
    go : (b : Bool) → AllFit (cond b (does (command (fitted (take count after))) ∷ rest count) (stops Truncated ∷ []))
    go true = (f (fitted (take count after)) (fitted_fits (take count after) (lines_take count after h)), k count)
    go false = (tt, tt)

at_fit : (command_line : CommandLine) (after : List (List ℕ)) (rest : ℕ → List InputItem) → AreLines after → ((n : ℕ) → AllFit (rest n)) → AllFit (items_at command_line after rest)
at_fit asks.Empty after rest h k = k 0
at_fit asks.Bad after rest h k = (tt, tt)
at_fit (asks.Add name count) after rest h k = with_fit count after (λ text. Add name text) rest h (λ text f. f) k
at_fit (asks.Edit name from remove count) after rest h k = with_fit count after (λ insert. Edit name (line_edit_if_lines_are_some from remove insert)) rest h (λ insert f. edit_fits from remove insert f) k
at_fit (asks.Remove name) after rest h k = (tt, k 0)
at_fit (asks.Set key value) after rest h k = (tt, k 0)
at_fit asks.Show after rest h k = (tt, k 0)
at_fit asks.Settle after rest h k = (tt, k 0)

pub items_fit : (ls : List (List ℕ)) (n : ℕ) → AreLines ls → AllFit (items n ls)
items_fit [] n h = (tt, tt)
items_fit (line ∷ ls) zero h =
    let both = and_parts (has_no_newline line) (list_all has_no_newline ls) h in
    at_fit (command_line_of line) ls (λ n. items n ls) both.1 (λ n. items_fit ls n both.1)
items_fit (line ∷ ls) (suc n) h = items_fit ls n (and_parts (has_no_newline line) (list_all has_no_newline ls) h).1

-- ---- the histories

-- an accepted act keeps a history at rest, a refused one leaves it
acted_rest : (history next : History) (refusal : Option BookFault) (a : Option Act) (octets : List ℕ) → IsAtRest history
    → (refusal ≡ None → (x : Act) → a ≡ Some x → IsAtRest (after_act history x)) → acted history refusal a ≡ (octets, next) → IsAtRest next
acted_rest history next (Some fault) a octets q f e = subst IsAtRest (ap (λ (p : List ℕ × History). p.1) e) q
acted_rest history next None None octets q f e = subst IsAtRest (ap (λ (p : List ℕ × History). p.1) e) q
acted_rest history next None (Some x) octets q f e = subst IsAtRest (ap (λ (p : List ℕ × History). p.1) e) (f refl x refl)

-- the laws of the book that the histories rest on
pub record BookLaws : Type 0 where
  pub adds : (history : History) → Legal history.opening history.past → AddsAreLegal history
  pub edits : (history : History) → Legal history.opening history.past → EditsAreLegal history
  pub removes : (history : History) → Legal history.opening history.past → RemovesAreLegal history
  pub sets : (history : History) → Legal history.opening history.past → SetsAreLegal history
  pub settles : (history : History) → IsAtRest history → SettlesAll history

same_act : (a b : Act) → Some a ≡ Some b → a ≡ b
same_act a b e = ap (λ (o : Option Act). act_or o) e
  where
    act_or : Option Act → Act
    act_or None = a
    act_or (Some x) = x

set_rest : (laws : BookLaws) (history : History) (name : List ℕ) (value : Value) (o : Option Key) (x : Act) → IsAtRest history → key_named name ≡ o → set_refusal history name value ≡ None
    → option_map (λ k. act.Set k value) o ≡ Some x → IsAtRest (after_act history x)
set_rest laws history name value None x q n r e = absurd cc
set_rest laws history name value (Some key) x q n r e =
    subst (λ (a : Act). IsAtRest (after_act history a)) (same_act (act.Set key value) x e) (record { legal = laws.sets history q.legal name key value n r; none = q.none })

pub settled_rest : (laws : BookLaws) (history after : History) → IsAtRest history → settled history ≡ Ok after → IsSettled history after
settled_rest laws history after q e = laws.settles history q after e

pub rest_after : (laws : BookLaws) (history next : History) (command : Command) (octets : List ℕ) → IsAtRest history → FitsCommand command → effect history command ≡ Ok (octets, next) → IsAtRest next
rest_after laws history next (Add name None) octets q f e = acted_rest history next (Some book.TooLarge) None octets q (λ r x n. absurd cc) (ok_same _ _ e)
rest_after laws history next (Add name (Some text)) octets q f e =
    acted_rest history next (add_refusal history name) (Some (act.Add name text)) octets q
    (λ r x n. subst (λ (a : Act). IsAtRest (after_act history a)) (same_act (act.Add name text) x n) (record { legal = laws.adds history q.legal name text f r; none = q.none })) (ok_same _ _ e)
rest_after laws history next (Edit name None) octets q f e = acted_rest history next (Some book.TooLarge) None octets q (λ r x n. absurd cc) (ok_same _ _ e)
rest_after laws history next (Edit name (Some edit)) octets q f e =
    acted_rest history next (edit_refusal history name edit) (Some (act.Edit name edit)) octets q
    (λ r x n. subst (λ (a : Act). IsAtRest (after_act history a)) (same_act (act.Edit name edit) x n) (record { legal = laws.edits history q.legal name edit f r; none = q.none })) (ok_same _ _ e)
rest_after laws history next (Remove name) octets q f e =
    acted_rest history next (remove_refusal history name) (Some (act.Remove name)) octets q
    (λ r x n. subst (λ (a : Act). IsAtRest (after_act history a)) (same_act (act.Remove name) x n) (record { legal = laws.removes history q.legal name r; none = q.none })) (ok_same _ _ e)
rest_after laws history next (Set key value) octets q f e =
    acted_rest history next (set_refusal history key value) (option_map (λ k. act.Set k value) (key_named key)) octets q
    (λ r x n. set_rest laws history key value (key_named key) x q refl r n) (ok_same _ _ e)
rest_after laws history next Show octets q f e = subst IsAtRest (ap (λ (p : List ℕ × History). p.1) (ok_same (rendered (report history), history) (octets, next) e)) q
rest_after laws history next Settle octets q f e = (settled_rest laws history next q (quiet_reported (settled history) octets next e)).rest

-- ---- items one after another

pub rest_by : (laws : BookLaws) (first : List InputItem) (history next : History) (octets : List ℕ) → AllFit first → IsAtRest history → PrintsAll PrintsAlone history first octets next → IsAtRest next
rest_by laws [] history next octets f q h = subst IsAtRest (sym h.1) q
rest_by laws (stops fault ∷ first) history next octets f q h = absurd h
rest_by laws (does command ∷ first) history next octets f q h =
    let (printed, more, after, e, k, same) = h in
    rest_by laws first after next more f.1 (rest_after laws history after command printed q f.0 e) k

-- ---- the laws

pub output_goes_on : OutputGoesOn
output_goes_on settings input octets history rest reaches =
    first_outcome PrintsAlone (λ history. history) (λ a b command printed e. e) (record { opening = settings; past = [] }) history (commands input) rest octets reaches

pub stories_legal : BookLaws → StoriesAreLegal
stories_legal laws settings input octets history rest reaches =
    let fit : AllFit (reaches.0 ++ rest) = subst AllFit reaches.1 (items_fit (lines input) 0 (lines_are_lines input)) in
    rest_by laws reaches.0 (record { opening = settings; past = [] }) history octets (fit_front reaches.0 rest fit) (record { legal = tt; none = refl }) reaches.2

pub reported_ok : (r : Result History BookFault) (printed : List ℕ) (after : History) → reported r ≡ Ok (printed, after) → (r ≡ Ok after) × (printed ≡ rendered (report after))
reported_ok (Err fault) printed after e = absurd cc
reported_ok (Ok history) printed after e =
    let pair = ok_same (rendered (report history), history) (printed, after) e in
    let same : history ≡ after = ap (λ (p : List ℕ × History). p.1) pair in
    (ap (λ (s : History). Ok s) same, sym (ap (λ (p : List ℕ × History). p.0) pair) ∙ ap (λ (s : History). rendered (report s)) same)

pub settles_scratch : BookLaws → SettlesPrintScratch
settles_scratch laws settings input octets history rest reaches printed after e =
    let at_rest = stories_legal laws settings input octets history rest' reaches in
    let r = reported_ok (settled history) printed after e in
    let s = settled_rest laws history after at_rest r.0 in
    (s, r.1 ∙ ap rendered s.report)
  where
    rest' : List InputItem
    rest' = does Settle ∷ rest
