-- A book that serves alone writes what may be written for every number of workers.
use Rattle.std.proofs.Common.{◌≡◌, inl, inr, ℕ, nat_le, Bool, true, false, cond, List, [], ◌∷◌, ◌++◌, length, take, Option, Some, None, Result, Ok, Err, refl, sym, ap, subst, ◌∙◌, append-nil, suc, zero}
use Rattle.std.specs.Str.Lines.{lines}
use Rattle.pd_settings.specs.declared.settings.Settings.{Settings}
use Rattle.pd_book.specs.Acts.{NamedText, now}
use Rattle.pd_book.specs.Headline.{ScratchIsOne}
use Rattle.pd_book.specs.History.{History}
use Rattle.pd_protocol.specs.CommandLines.{command_line_of}
use Rattle.pd_protocol.specs.Commands.{InputItem, does, stops, fitted, line_edit_if_lines_are_some, with_lines, items_at, items, commands}
use Rattle.pd_protocol.specs.declared.command_line.CommandLine.{CommandLine}
use Rattle.pd_protocol.specs.declared.command_line.CommandLine.TheVariants as asks
use Rattle.pd_protocol.specs.declared.command.Command.{Command}
use Rattle.pd_protocol.specs.declared.command.Command.TheVariants.{Add, Edit, Remove, Set, Show, Settle}
use Rattle.pd_protocol.specs.declared.faults.ServeFault.{ServeFault}
use Rattle.pd_protocol.specs.declared.faults.ServeFault.TheVariants.{HistoryFull, NoWorkers, Differs, BadCommand, Truncated, Read, Write, OutOfMemory}
use Rattle.pd_cli.specs.Output.{report, effect, PrintsAlone, all_pass, outcome, Answers}
use Rattle.pd_cli.specs.Beside.{from_scratch, MayPrint, SettlesNext, MayAnswer}
use Rattle.pd_cli.specs.Grammatical.{Writes, ServesAlone}
use Rattle.pd_cli.specs.Laws.{HaveSame, SettlesPrintScratch, SessionsArePossibleBeside, WritesAreOutput}
use Rattle.pd_cli.specs.Sessions.{PrintsAll, PrintsFirst, EndsBy, ServesBy}
use Rattle.pd_cli.specs.Steps.{Fails}
use Rattle.pd_cli.proofs.Beside.{fault_may, stops_may, scratch_of, if_some}
use Rattle.pd_cli.proofs.Written.{IsEffect, FailsSo, PassesSo, alone_ends}

-- ---- the end of an input acts as a settle

abbrev EndsSettled : List InputItem → Type 0
EndsSettled [] = ⊥
EndsSettled (stops fault ∷ items) = Unit {0}
EndsSettled (does command ∷ []) = command ≡ Settle
EndsSettled (does command ∷ item ∷ items) = EndsSettled (item ∷ items)

longer_settled : (command : Command) (items : List InputItem) → EndsSettled items → EndsSettled (does command ∷ items)
longer_settled command [] h = absurd h
longer_settled command (item ∷ items) h = h

with_settled : (count : ℕ) (after : List (List ℕ)) (command : Option (List (List ℕ)) → Command) (rest : ℕ → List InputItem) → ((n : ℕ) → EndsSettled (rest n)) → EndsSettled (with_lines count after command rest)
with_settled count after command rest k = go (nat_le count (length after))
  where
    go : (b : Bool) → EndsSettled (cond b (does (command (fitted (take count after))) ∷ rest count) (stops Truncated ∷ []))
    go true = longer_settled (command (fitted (take count after))) (rest count) (k count)
    go false = tt

at_settled : (command_line : CommandLine) (after : List (List ℕ)) (rest : ℕ → List InputItem) → ((n : ℕ) → EndsSettled (rest n)) → EndsSettled (items_at command_line after rest)
at_settled asks.Empty after rest k = k 0
at_settled asks.Bad after rest k = tt
at_settled (asks.Add name count) after rest k = with_settled count after (λ text. Add name text) rest k
at_settled (asks.Edit name from remove count) after rest k = with_settled count after (λ insert. Edit name (line_edit_if_lines_are_some from remove insert)) rest k
at_settled (asks.Remove name) after rest k = longer_settled (Remove name) (rest 0) (k 0)
at_settled (asks.Set key value) after rest k = longer_settled (Set key value) (rest 0) (k 0)
at_settled asks.Show after rest k = longer_settled Show (rest 0) (k 0)
at_settled asks.Settle after rest k = longer_settled Settle (rest 0) (k 0)

items_settled : (ls : List (List ℕ)) (n : ℕ) → EndsSettled (items n ls)
items_settled [] n = refl
items_settled (line ∷ ls) zero = at_settled (command_line_of line) ls (λ n. items n ls) (λ n. items_settled ls n)
items_settled (line ∷ ls) (suc n) = items_settled ls n

-- the last settle, and what was done before it
abbrev LastSettled : History → List InputItem → List ℕ → History → Type 0
LastSettled history items octets last =
    (first : List InputItem) × (done printed : List ℕ) × (before : History) × (items ≡ first ++ does Settle ∷ []) × PrintsAll PrintsAlone history first done before × PrintsAlone before Settle printed last

last_settled : (history last : History) (items : List InputItem) (octets : List ℕ) → EndsSettled items → PrintsAll PrintsAlone history items octets last → LastSettled history items octets last
last_settled history last [] octets s h = absurd s
last_settled history last (stops fault ∷ items) octets s h = absurd h
last_settled history last (does command ∷ []) octets s (printed, rest, next, p, q, e) =
    ([], [], printed, history, ap (λ (c : Command). does c ∷ []) s, (refl, refl), subst (λ (x : History). PrintsAlone history Settle printed x) (sym q.1) (subst (λ (c : Command). PrintsAlone history c printed next) s p))
last_settled history last (does command ∷ item ∷ items) octets s (printed, rest, next, p, q, e) =
    let l = last_settled next last (item ∷ items) rest s q in
    (does command ∷ l.0, printed ++ l.1, l.2, l.3, ap (λ (i : List InputItem). does command ∷ i) l.4, (printed, l.1, next, p, l.5, refl), l.6)

-- ---- what is written

pub all_alone : {S : Type 0} (prints : S → Command → List ℕ → S → Type 0) (history : S → History) → IsEffect prints history → (a b : S) (items : List InputItem) (octets : List ℕ) → PrintsAll prints a items octets b → PrintsAll PrintsAlone (history a) items octets (history b)
all_alone prints history is a b [] octets h = (h.0, ap history h.1)
all_alone prints history is a b (stops fault ∷ items) octets h = absurd h
all_alone prints history is a b (does command ∷ items) octets h =
    let (printed, rest, next, p, q, e) = h in
    (printed, rest, history next, is a next command printed p, all_alone prints history is next b items rest q, e)

pub first_alone : {S : Type 0} (prints : S → Command → List ℕ → S → Type 0) (history : S → History) → IsEffect prints history → (a now : S) (items left : List InputItem) (octets : List ℕ) → PrintsFirst prints a items octets now left → PrintsFirst PrintsAlone (history a) items octets (history now) left
first_alone prints history is a now items left octets h = (h.0, h.1, all_alone prints history is a now h.0 octets h.2)

same_scratch : (history other : History) → HaveSame history other → from_scratch history ≡ from_scratch other
same_scratch history other same = rw (same.0, same.1) refl

-- the last report is the one from scratch
passed_scratch : SettlesPrintScratch → (settings : Settings) (input octets : List ℕ) (last accepted : History) → PrintsAll PrintsAlone (record { opening = settings; past = [] }) (commands input) octets last → HaveSame last accepted → report last ≡ from_scratch accepted
passed_scratch settles settings input octets last accepted h same =
    let l = last_settled (record { opening = settings; past = [] }) last (commands input) octets (items_settled (lines input) 0) h in
    let s = settles settings input l.1 l.3 [] (l.0, l.4, l.5) l.2 last l.6 in
    s.0.report ∙ (same_scratch l.3 last (sym s.0.same_texts, sym s.0.same_settings) ∙ same_scratch last accepted same)

-- a settle alone ends for a full history
full_settles : (history : History) (command : Command) → effect history command ≡ Err HistoryFull → command ≡ Settle
full_settles history (Add name None) e = absurd cc
full_settles history (Add name (Some text)) e = absurd cc
full_settles history (Edit name None) e = absurd cc
full_settles history (Edit name (Some edit)) e = absurd cc
full_settles history (Remove name) e = absurd cc
full_settles history (Set key value) e = absurd cc
full_settles history Show e = absurd cc
full_settles history Settle e = refl

-- a command without a reply
fails_so : (opening now accepted : History) (fault : ServeFault) (items left : List InputItem) (octets : List ℕ) (command : Command) (more : List InputItem) → PrintsFirst MayPrint opening items octets accepted left → left ≡ does command ∷ more → Fails fault now command → MayAnswer (Err fault) octets opening items
fails_so opening now accepted HistoryFull items left octets command more h e f =
    stops_may MayPrint (λ s. s) (λ a b c o p. p) SettlesNext opening accepted items left octets h (more, e ∙ ap (λ (c : Command). does c ∷ more) (full_settles now command f))
fails_so opening now accepted OutOfMemory items left octets command more h e f = stops_may MayPrint (λ s. s) (λ a b c o p. p) (λ rest. Unit {0}) opening accepted items left octets h tt
fails_so opening now accepted BadCommand items left octets command more h e f = absurd f
fails_so opening now accepted Truncated items left octets command more h e f = absurd f
fails_so opening now accepted Read items left octets command more h e f = absurd f
fails_so opening now accepted Write items left octets command more h e f = absurd f
fails_so opening now accepted NoWorkers items left octets command more h e f = absurd f
fails_so opening now accepted Differs items left octets command more h e f = absurd f

alone_may : ((scripts : List NamedText) → (settings : Settings) → ScratchIsOne scripts settings) → {S : Type 0} (prints : S → Command → List ℕ → S → Type 0) (fails : ServeFault → S → Command → S → Type 0) (passes : S → Bool) (history : S → History) → IsEffect prints history → FailsSo fails history → PassesSo passes history → SessionsArePossibleBeside → SettlesPrintScratch
    → (settings : Settings) (r : Result Bool ServeFault) (octets : List ℕ) (a last : S) (input : List ℕ) → history a ≡ record { opening = settings; past = [] } → EndsBy prints fails passes r octets a (commands input) last → MayAnswer r octets (record { opening = settings; past = [] }) (commands input)
alone_may one prints fails passes history is fails_by passed sessions settles settings (Ok p) octets a last input e h =
    let opened : History = record { opening = settings; past = [] } in
    let all = subst (λ (s : History). PrintsAll PrintsAlone s (commands input) octets (history last)) e (all_alone prints history is a last (commands input) octets h.0) in
    let s = sessions settings input octets (history last) [] (commands input, sym (append-nil (commands input)), all) in
    let whole : commands input ≡ s.1.0 = s.1.1 ∙ append-nil s.1.0 in (
      s.0,
      from_scratch s.0,
      subst (λ (i : List InputItem). PrintsAll MayPrint opened i octets s.0) (sym whole) s.1.2,
      scratch_of one s.0 (from_scratch s.0) refl,
      h.1 ∙ (passed last ∙ ap all_pass (passed_scratch settles settings input octets (history last) s.0 all s.2)),
    )
alone_may one prints fails passes history is fails_by passed sessions settles settings (Err fault) octets a last input e (inl (here, left, first, inl h)) =
    let opened : History = record { opening = settings; past = [] } in
    let s = sessions settings input octets (history here) left (subst (λ (s : History). PrintsFirst PrintsAlone s (commands input) octets (history here) left) e (first_alone prints history is a here (commands input) left octets first)) in
    fault_may MayPrint (λ s. s) (λ a b c o p. p) fault opened s.0 (commands input) left octets s.1 h.0
alone_may one prints fails passes history is fails_by passed sessions settles settings (Err fault) octets a last input e (inl (here, left, first, inr h)) =
    let opened : History = record { opening = settings; past = [] } in
    let s = sessions settings input octets (history here) left (subst (λ (s : History). PrintsFirst PrintsAlone s (commands input) octets (history here) left) e (first_alone prints history is a here (commands input) left octets first)) in
    fails_so opened (history here) s.0 fault (commands input) left octets h.0 h.1 s.1 h.2 (fails_by fault here last h.0 h.3)
alone_may one prints fails passes history is fails_by passed sessions settles settings (Err fault) octets a last input e (inr h) =
    let opened : History = record { opening = settings; past = [] } in
    let s = sessions settings input (octets ++ h.1) (history last) h.2 (subst (λ (s : History). PrintsFirst PrintsAlone s (commands input) (octets ++ h.1) (history last) h.2) e (first_alone prints history is a last (commands input) h.2 (octets ++ h.1) h.3)) in
    rw h.0 (h.1, stops_may MayPrint (λ s. s) (λ a b c o p. p) (λ rest. Unit {0}) opened s.0 (commands input) h.2 (octets ++ h.1) s.1 tt)

-- whoever answers as a new book does writes the output of the input
pub serves_alone : ((scripts : List NamedText) → (settings : Settings) → ScratchIsOne scripts settings) → WritesAreOutput → {S : Type 0} (prints : S → Command → List ℕ → S → Type 0) (fails : ServeFault → S → Command → S → Type 0) (passes : S → Bool) (r : Result Bool ServeFault) (a last : S) (input before after : Option (List ℕ)) → ServesBy prints fails passes r input before after a last
    → (history : S → History) → IsEffect prints history → FailsSo fails history → PassesSo passes history → (settings : Settings) → history a ≡ record { opening = settings; past = [] } → SessionsArePossibleBeside → SettlesPrintScratch → ServesAlone r settings input before after
serves_alone one law prints fails passes r a last input before after h history is fails_by passed settings e sessions settles = (
  h.0,
  h.1,
  if_some (λ octets. EndsBy prints fails passes r h.0 a (commands octets) last) (λ octets. MayAnswer r h.0 (record { opening = settings; past = [] }) (commands octets) × Writes r h.0 (record { opening = settings; past = [] }) (commands octets)) input
      (λ octets k. (alone_may one prints fails passes history is fails_by passed sessions settles settings r h.0 a last octets e k, (law settings octets h.0 r).1 (subst (λ (s : History). Answers r h.0 (outcome s (commands octets))) e (alone_ends prints fails passes history is fails_by passed r h.0 a last (commands octets) k)))) h.2,
)
