-- The octets written so far with workers, and those still to come.
use Rattle.std.proofs.Common.{◌≡◌, ◌⊎◌, inl, inr, ℕ, Bool, true, List, [], ◌∷◌, ◌++◌, map, Option, Some, None, option_map, Result, Ok, Err, refl, sym, ap, subst, ◌∙◌, IfSome, IfOk, IsOk, IsErrAnd, OnOk}
use Rattle.std.specs.List.{All}
use Rattle.std.specs.Prelude.{IsSome, IsSomeAnd, is_some}
use Rattle.std.proofs.lemmas.List.Elements.{All-head, All-tail}
use Rattle.pd_settings.specs.declared.settings.Settings.{Settings}
use Rattle.pd_settings.specs.declared.keys.Key.{Key}
use Rattle.pd_settings.specs.declared.values.Value.{Value}
use Rattle.pd_run.specs.declared.verdict.Verdict.{Verdict}
use Rattle.pd_run.specs.Run.{verdict_of}
use Rattle.pd_book.specs.declared.act.Act.{Act}
use Rattle.pd_book.specs.declared.act.Act.TheVariants as act
use Rattle.pd_book.specs.declared.faults.BookFault.{BookFault}
use Rattle.pd_book.specs.declared.report.Row.{Row}
use Rattle.pd_book.specs.Acts.{NamedText, texts, now}
use Rattle.pd_book.specs.Headline.{AreOrPending, ScratchIsOne, pending}
use Rattle.pd_book.specs.Refusals.{or_else, refusal_if_key_unknown_or_value_bad}
use Rattle.pd_book.specs.Report.{ReportView, IsRunUnder, scratch_row, scratch}
use Rattle.pd_book.specs.History.{History, after_act}
use Rattle.pd_protocol.specs.Commands.{InputItem, does, stops, commands}
use Rattle.pd_protocol.specs.NextCommand.{FaultIn}
use Rattle.pd_protocol.specs.declared.command.Command.{Command}
use Rattle.pd_protocol.specs.declared.faults.ServeFault.{ServeFault}
use Rattle.pd_protocol.specs.declared.faults.ServeFault.TheVariants.{HistoryFull, NoWorkers, Differs, BadCommand, Truncated, Read, Write, OutOfMemory}
use Rattle.pd_protocol.proofs.Known.{appends_none}
use Rattle.pd_cli.specs.Output.{all_pass}
use Rattle.pd_cli.specs.Beside.{from_scratch, IsScratchOf, IsPartOf, MayAct, MayPrint, MayPrintAll, StopsBefore, SettlesNext, DoesNext, MayAnswer, EndsBeside, ServesBeside}
use Rattle.pd_cli.specs.BesideSteps.{Declines, scripts_of, IsOfSame, FailsBeside}
use Rattle.pd_cli.specs.Sessions.{PrintsAll, PrintsFirst, EndsBy, ServesBy}

-- ---- acts

-- an act that no one refuses
pub act_accepted : (history next : History) (refusal room : Option BookFault) (a : Option Act) (octets : List ℕ) → or_else refusal room ≡ None → IsSomeAnd a (λ x. next ≡ after_act history x) → octets ≡ [] → MayAct history refusal a octets next
act_accepted history next (Some fault) room a octets h s e = absurd cc
act_accepted history next None room None octets h s e = absurd s
act_accepted history next None room (Some x) octets h s e = inl (e, s)

-- an act that the desk refuses
pub act_declined : (history : History) (refusal : Option BookFault) (a : Act) (octets : List ℕ) → Declines refusal octets → MayAct history refusal (Some a) octets history
act_declined history (Some fault) a octets h = (h, refl)
act_declined history None a octets h = inr (h, refl)

pub set_declined : (history : History) (o : Option Key) (value : Value) (octets : List ℕ) → Declines (refusal_if_key_unknown_or_value_bad (now history.opening history.past) o value) octets
    → MayAct history (refusal_if_key_unknown_or_value_bad (now history.opening history.past) o value) (option_map (λ k. act.Set k value) o) octets history
set_declined history None value octets h = (h, refl)
set_declined history (Some k) value octets h = act_declined history (refusal_if_key_unknown_or_value_bad (now history.opening history.past) (Some k) value) (act.Set k value) octets h

-- a setting that is accepted with workers, or isn't
pub set_printed : {V : Type 0} (reply : Result V ServeFault) (octets : V → List ℕ) (r : Result (Unit {0}) BookFault) (history next : History) (o : Option Key) (value : Value) (refusal room : Option BookFault) → IfOk reply (λ v. octets v ≡ []) → IfOk reply (λ v. IsOk r)
    → OnOk r (IsSomeAnd o (λ k. next ≡ after_act history (act.Set k value))) → OnOk r (or_else refusal room ≡ None) → IfOk reply (λ v. MayAct history refusal (option_map (λ k. act.Set k value) o) (octets v) next)
set_printed (Err x) octets r history next o value refusal room n k t a = tt
set_printed (Ok v) octets (Err x) history next o value refusal room n k t a = absurd cc
set_printed (Ok v) octets (Ok u) history next None value refusal room n k t a = absurd t
set_printed (Ok v) octets (Ok u) history next (Some key) value refusal room n k t a = act_accepted history next refusal room (Some (act.Set key value)) (octets v) a t n

pub set_unprinted : {V : Type 0} (reply : Result V ServeFault) (octets : V → List ℕ) (history : History) (o : Option Key) (value : Value) (refusal : Option BookFault) → refusal ≡ refusal_if_key_unknown_or_value_bad (now history.opening history.past) o value → IfOk reply (λ v. Declines refusal (octets v))
    → IfOk reply (λ v. MayAct history (refusal_if_key_unknown_or_value_bad (now history.opening history.past) o value) (option_map (λ k. act.Set k value) o) (octets v) history)
set_unprinted (Err x) octets history o value refusal e d = tt
set_unprinted (Ok v) octets history o value refusal e d = set_declined history o value (octets v) (subst (λ (f : Option BookFault). Declines f (octets v)) e d)

-- ---- reports

-- each row is the run of its text, or pending
row_part : (settings : Settings) (row : Row) → IsRunUnder settings row → (row ≡ scratch_row settings (row.name, row.text)) ⊎ (row ≡ pending (scratch_row settings (row.name, row.text)))
row_part settings row h = go row.verdict refl h
  where
    go : (v : Option Verdict) → row.verdict ≡ v → IfSome v (λ verdict. verdict ≡ verdict_of row.text settings)
        → (row ≡ scratch_row settings (row.name, row.text)) ⊎ (row ≡ pending (scratch_row settings (row.name, row.text)))
    go None e k = inr (ap (λ (o : Option Verdict). record { name = row.name; text = row.text; verdict = o }) e)
    go (Some v) e k = inl (ap (λ (o : Option Verdict). record { name = row.name; text = row.text; verdict = o }) (e ∙ ap (λ (x : Verdict). Some x) k))

rows_part : (settings : Settings) (rows : List Row) → All (IsRunUnder settings) rows → AreOrPending rows (map (scratch_row settings) (scripts_of rows))
rows_part settings [] h = tt
rows_part settings (row ∷ rows) h = (row_part settings row (All-head (IsRunUnder settings) row rows h), rows_part settings rows (All-tail (IsRunUnder settings) row rows h))

row_whole : (settings : Settings) (row : Row) → IsRunUnder settings row → IsSome row.verdict → row ≡ scratch_row settings (row.name, row.text)
row_whole settings row h s = go row.verdict refl h s
  where
    go : (v : Option Verdict) → row.verdict ≡ v → IfSome v (λ verdict. verdict ≡ verdict_of row.text settings) → is_some v ≡ true → row ≡ scratch_row settings (row.name, row.text)
    go None e k j = absurd cc
    go (Some v) e k j = ap (λ (o : Option Verdict). record { name = row.name; text = row.text; verdict = o }) (e ∙ ap (λ (x : Verdict). Some x) k)

rows_whole : (settings : Settings) (rows : List Row) → All (IsRunUnder settings) rows → All (λ (row : Row). IsSome row.verdict) rows → rows ≡ map (scratch_row settings) (scripts_of rows)
rows_whole settings [] h s = refl
rows_whole settings (row ∷ rows) h s =
    let one = row_whole settings row (All-head (IsRunUnder settings) row rows h) (All-head (λ (r : Row). IsSome r.verdict) row rows s) in
    let rest = rows_whole settings rows (All-tail (IsRunUnder settings) row rows h) (All-tail (λ (r : Row). IsSome r.verdict) row rows s) in
    cc

-- a report of the scripts as they stand
pub part_of : ((scripts : List NamedText) → (settings : Settings) → ScratchIsOne scripts settings) → (history : History) (report kept : ReportView) → IsOfSame report kept → kept.settings ≡ now history.opening history.past → scripts_of kept.rows ≡ texts history.past → All (IsRunUnder report.settings) report.rows → IsPartOf history report
part_of one history report kept same e t runs =
    let settings : report.settings ≡ now history.opening history.past = same.0 ∙ e in
    let scripts : scripts_of report.rows ≡ texts history.past = same.1 ∙ t in
    let parts : AreOrPending report.rows (from_scratch history).rows = rw (← settings, ← scripts) (rows_part report.settings report.rows runs) in
    (settings, (from_scratch history, (one (texts history.past) (now history.opening history.past)).0, parts))

pub whole_of : (history : History) (report kept : ReportView) → IsOfSame report kept → kept.settings ≡ now history.opening history.past → scripts_of kept.rows ≡ texts history.past → All (IsRunUnder report.settings) report.rows
    → All (λ (row : Row). IsSome row.verdict) report.rows → report ≡ from_scratch history
whole_of history report kept same e t runs all =
    let settings : report.settings ≡ now history.opening history.past = same.0 ∙ e in
    let scripts : scripts_of report.rows ≡ texts history.past = same.1 ∙ t in
    let rows : report.rows ≡ map (scratch_row report.settings) (scripts_of report.rows) = rows_whole report.settings report.rows runs all in
    let is : report ≡ scratch (scripts_of report.rows) report.settings = ap (λ (r : List Row). record { settings = report.settings; rows = r }) rows in
    is ∙ rw (settings, scripts) refl

pub scratch_of : ((scripts : List NamedText) → (settings : Settings) → ScratchIsOne scripts settings) → (history : History) (report : ReportView) → report ≡ from_scratch history → IsScratchOf history report
scratch_of one history report is = subst (IsScratchOf history) (sym is) (one (texts history.past) (now history.opening history.past)).0

-- ---- a session

-- each printing is one that may be
abbrev pub MayBe : {S : Type 0} → (S → Command → List ℕ → S → Type 0) → (S → History) → Type 0
MayBe {S = S} prints history = (a b : S) → (command : Command) → (octets : List ℕ) → prints a command octets b → MayPrint (history a) command octets (history b)

abbrev pub FailsBesideSo : {S : Type 0} → (ServeFault → S → Command → S → Type 0) → Type 0
FailsBesideSo {S = S} fails = (fault : ServeFault) → (a b : S) → (command : Command) → fails fault a command b → FailsBeside fault command

abbrev pub PassesBeside : {S : Type 0} → (S → Bool) → (S → History) → Type 0
PassesBeside {S = S} passes history = (a : S) → passes a ≡ all_pass (from_scratch (history a))

all_may : {S : Type 0} (prints : S → Command → List ℕ → S → Type 0) (history : S → History) → MayBe prints history → (a b : S) (items : List InputItem) (octets : List ℕ) → PrintsAll prints a items octets b → MayPrintAll (history a) items octets (history b)
all_may prints history may a b [] octets h = (h.0, ap history h.1)
all_may prints history may a b (stops fault ∷ items) octets h = absurd h
all_may prints history may a b (does command ∷ items) octets h =
    let (printed, rest, next, p, q, e) = h in
    (printed, rest, history next, may a next command printed p, all_may prints history may next b items rest q, e)

pub stops_may : {S : Type 0} (prints : S → Command → List ℕ → S → Type 0) (history : S → History) → MayBe prints history → (P : List InputItem → Type 0) (a now : S) (items left : List InputItem) (octets : List ℕ) → PrintsFirst prints a items octets now left → P left → StopsBefore P (history a) items octets
stops_may prints history may P a now items left octets h p = (h.0, left, history now, h.1, all_may prints history may a now h.0 octets h.2, p)

-- a fault in the input, or while it is read
pub fault_may : {S : Type 0} (prints : S → Command → List ℕ → S → Type 0) (history : S → History) → MayBe prints history → (fault : ServeFault) (a now : S) (items left : List InputItem) (octets : List ℕ) → PrintsFirst prints a items octets now left → FaultIn fault left → MayAnswer (Err fault) octets (history a) items
fault_may prints history may BadCommand a now items left octets h f = stops_may prints history may (λ rest. rest ≡ stops BadCommand ∷ []) a now items left octets h f
fault_may prints history may Truncated a now items left octets h f = stops_may prints history may (λ rest. rest ≡ stops Truncated ∷ []) a now items left octets h f
fault_may prints history may Read a now items left octets h f = stops_may prints history may (λ rest. Unit {0}) a now items left octets h tt
fault_may prints history may OutOfMemory a now items left octets h f = stops_may prints history may (λ rest. Unit {0}) a now items left octets h tt
fault_may prints history may Write a now items left octets h f = absurd f
fault_may prints history may HistoryFull a now items left octets h f = absurd f
fault_may prints history may NoWorkers a now items left octets h f = absurd f
fault_may prints history may Differs a now items left octets h f = absurd f

-- a command without a reply
fails_may : {S : Type 0} (prints : S → Command → List ℕ → S → Type 0) (history : S → History) → MayBe prints history → (fault : ServeFault) (a now : S) (items left : List InputItem) (octets : List ℕ) (command : Command) (more : List InputItem) → PrintsFirst prints a items octets now left
    → left ≡ does command ∷ more → FailsBeside fault command → MayAnswer (Err fault) octets (history a) items
fails_may prints history may NoWorkers a now items left octets command more h e f = stops_may prints history may SettlesNext a now items left octets h (more, e ∙ ap (λ (c : Command). does c ∷ more) f)
fails_may prints history may Differs a now items left octets command more h e f = stops_may prints history may DoesNext a now items left octets h (command, more, e)
fails_may prints history may OutOfMemory a now items left octets command more h e f = stops_may prints history may (λ rest. Unit {0}) a now items left octets h tt
fails_may prints history may BadCommand a now items left octets command more h e f = absurd f
fails_may prints history may Truncated a now items left octets command more h e f = absurd f
fails_may prints history may Read a now items left octets command more h e f = absurd f
fails_may prints history may Write a now items left octets command more h e f = absurd f
fails_may prints history may HistoryFull a now items left octets command more h e f = absurd f

beside_ends : ((scripts : List NamedText) → (settings : Settings) → ScratchIsOne scripts settings) → {S : Type 0} (prints : S → Command → List ℕ → S → Type 0) (fails : ServeFault → S → Command → S → Type 0) (passes : S → Bool) (history : S → History) → MayBe prints history → FailsBesideSo fails → PassesBeside passes history
    → (r : Result Bool ServeFault) (octets : List ℕ) (a last : S) (items : List InputItem) → EndsBy prints fails passes r octets a items last → MayAnswer r octets (history a) items
beside_ends one prints fails passes history may fails_so passed (Ok p) octets a last items h =
    (history last, from_scratch (history last), all_may prints history may a last items octets h.0, scratch_of one (history last) (from_scratch (history last)) refl, h.1 ∙ passed last)
beside_ends one prints fails passes history may fails_so passed (Err fault) octets a last items (inl (here, left, first, inl h)) = fault_may prints history may fault a here items left octets first h.0
beside_ends one prints fails passes history may fails_so passed (Err fault) octets a last items (inl (here, left, first, inr h)) = fails_may prints history may fault a here items left octets h.0 h.1 first h.2 (fails_so fault here last h.0 h.3)
beside_ends one prints fails passes history may fails_so passed (Err fault) octets a last items (inr h) = rw h.0 (h.1, stops_may prints history may (λ rest. Unit {0}) a last items h.2 (octets ++ h.1) h.3 tt)

pub if_some : (P Q : List ℕ → Type 0) (all : Option (List ℕ)) → ((input : List ℕ) → P input → Q input) → IfSome all P → IfSome all Q
if_some P Q None f h = tt
if_some P Q (Some input) f h = f input h

-- no settle ends for a full history
ends_beside : {S : Type 0} (prints : S → Command → List ℕ → S → Type 0) (fails : ServeFault → S → Command → S → Type 0) (passes : S → Bool) → FailsBesideSo fails → (r : Result Bool ServeFault) (octets : List ℕ) (a last : S) (items : List InputItem) → EndsBy prints fails passes r octets a items last → EndsBeside r
ends_beside prints fails passes fails_so (Ok p) octets a last items h = tt
ends_beside prints fails passes fails_so (Err HistoryFull) octets a last items (inl (here, left, first, inl h)) = absurd h.0
ends_beside prints fails passes fails_so (Err HistoryFull) octets a last items (inl (here, left, first, inr h)) = absurd (fails_so HistoryFull here last h.0 h.3)
ends_beside prints fails passes fails_so (Err HistoryFull) octets a last items (inr h) = let e : HistoryFull ≡ Write = h.0 in absurd cc
ends_beside prints fails passes fails_so (Err NoWorkers) octets a last items h = tt
ends_beside prints fails passes fails_so (Err Differs) octets a last items h = tt
ends_beside prints fails passes fails_so (Err BadCommand) octets a last items h = tt
ends_beside prints fails passes fails_so (Err Truncated) octets a last items h = tt
ends_beside prints fails passes fails_so (Err Read) octets a last items h = tt
ends_beside prints fails passes fails_so (Err Write) octets a last items h = tt
ends_beside prints fails passes fails_so (Err OutOfMemory) octets a last items h = tt

-- whoever answers as a seat at a new desk does writes what may be written with workers
pub serves_beside : ((scripts : List NamedText) → (settings : Settings) → ScratchIsOne scripts settings) → {S : Type 0} (prints : S → Command → List ℕ → S → Type 0) (fails : ServeFault → S → Command → S → Type 0) (passes : S → Bool) (r : Result Bool ServeFault) (a last : S) (input before after : Option (List ℕ)) → ServesBy prints fails passes r input before after a last
    → (history : S → History) → MayBe prints history → FailsBesideSo fails → PassesBeside passes history → (settings : Settings) → history a ≡ record { opening = settings; past = [] } → ServesBeside r settings input before after
serves_beside one prints fails passes r a last input before after h history may fails_so passed settings e = (
  h.0,
  h.1,
  if_some (λ octets. EndsBy prints fails passes r h.0 a (commands octets) last) (λ octets. MayAnswer r h.0 (record { opening = settings; past = [] }) (commands octets) × EndsBeside r) input
      (λ octets k. (subst (λ (s : History). MayAnswer r h.0 s (commands octets)) e (beside_ends one prints fails passes history may fails_so passed r h.0 a last (commands octets) k), ends_beside prints fails passes fails_so r h.0 a last (commands octets) k)) h.2,
)

-- out of memory before anything is read
none_yet : (opening : History) (all : Option (List ℕ)) → IfSome all (λ input. MayAnswer (Err OutOfMemory) [] opening (commands input) × EndsBeside (Err OutOfMemory))
none_yet opening None = tt
none_yet opening (Some input) = (([], commands input, opening, refl, (refl, refl), tt), tt)

pub beside_none : (settings : Settings) (all w : Option (List ℕ)) → ServesBeside (Err OutOfMemory) settings all w w
beside_none settings all w = ([], appends_none w, none_yet (record { opening = settings; past = [] }) all)

pub beside_unopened : (settings : Settings) (r : Result Bool ServeFault) (all w : Option (List ℕ)) → IsErrAnd r (λ x. x ≡ OutOfMemory) → ServesBeside r settings all w w
beside_unopened settings (Ok p) all w i = absurd i
beside_unopened settings (Err x) all w i = rw i (beside_none settings all w)
