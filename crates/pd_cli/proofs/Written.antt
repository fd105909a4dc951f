-- The octets that are written of a book that serves alone.
use Rattle.std.proofs.Common.{◌≡◌, inl, inr, ℕ, Bool, List, [], ◌∷◌, ◌++◌, Option, Some, None, option_map, Result, Ok, Err, refl, sym, ap, subst, ◌∙◌, append_assoc, append-nil, IfSome}
use Rattle.pd_settings.specs.declared.settings.Settings.{Settings}
use Rattle.pd_settings.specs.declared.keys.Key.{Key}
use Rattle.pd_settings.specs.Keys.{key_named}
use Rattle.pd_book.specs.declared.act.Act.{Act}
use Rattle.pd_book.specs.declared.act.Act.TheVariants as act
use Rattle.pd_book.specs.declared.faults.BookFault.{BookFault}
use Rattle.pd_book.specs.declared.faults.BookFault.TheVariants as book
use Rattle.pd_book.specs.History.{History, after_act}
use Rattle.pd_book.specs.Refusals.{add_refusal, edit_refusal, remove_refusal, set_refusal}
use Rattle.pd_protocol.specs.Commands.{InputItem, does, stops}
use Rattle.pd_protocol.specs.NextCommand.{FaultIn}
use Rattle.pd_protocol.specs.declared.command.Command.{Command}
use Rattle.pd_protocol.specs.declared.command.Command.TheVariants.{Add, Edit, Remove, Set, Show, Settle}
use Rattle.pd_protocol.specs.declared.faults.ServeFault.{ServeFault}
use Rattle.pd_protocol.specs.declared.faults.ServeFault.TheVariants.{HistoryFull, NoWorkers, Differs, BadCommand, Truncated, Read, Write, OutOfMemory}
use Rattle.pd_cli.specs.Report.{rendered}
use Rattle.pd_cli.specs.Output.{Session, outcome, ahead, follow, acted, effect, reported, report, all_pass, Answers}
use Rattle.pd_cli.specs.Sessions.{PrintsAll, PrintsFirst, EndsBy}
use Rattle.pd_cli.specs.Steps.{IsQuiet, Fails}

-- no job is outstanding after a command

abbrev got : {A E : Type 0} → A → Result A E → A
got d (Ok x) = x
got d (Err e) = d

pub ok_same : {A E : Type 0} (a b : A) → ◌≡◌ {A = Result A E} (Ok a) (Ok b) → a ≡ b
ok_same {A = A} {E = E} a b e = ap (λ (r : Result A E). got a r) e

quiet_acted : (history new : History) (refusal : Option BookFault) (a : Option Act) (octets : List ℕ) → IsQuiet history → IfSome a (λ x. IsQuiet (after_act history x)) → acted history refusal a ≡ (octets, new) → IsQuiet new
quiet_acted history new (Some fault) a octets q h e = subst IsQuiet (ap (λ (p : List ℕ × History). p.1) e) q
quiet_acted history new None None octets q h e = subst IsQuiet (ap (λ (p : List ℕ × History). p.1) e) q
quiet_acted history new None (Some a) octets q h e = subst IsQuiet (ap (λ (p : List ℕ × History). p.1) e) h

quiet_set : (history : History) (value : _) (o : Option Key) → IsQuiet history → IfSome (option_map (λ k. act.Set k value) o) (λ x. IsQuiet (after_act history x))
quiet_set history value None q = tt
quiet_set history value (Some k) q = q

pub quiet_reported : (r : Result History BookFault) (octets : List ℕ) (new : History) → reported r ≡ Ok (octets, new) → r ≡ Ok new
quiet_reported (Ok history) octets new e = ap (λ (s : History). Ok s) (ap (λ (p : List ℕ × History). p.1) (ok_same (rendered (report history), history) (octets, new) e))
quiet_reported (Err fault) octets new e = absurd cc

-- a command other than a settle
abbrev pub StartsNone : Command → Type 0
StartsNone Settle = ⊥
StartsNone command = Unit {0}

pub quiet_after : (history new : History) (command : Command) (octets : List ℕ) → StartsNone command → IsQuiet history → effect history command ≡ Ok (octets, new) → IsQuiet new
quiet_after history new (Add name None) octets n q e = quiet_acted history new (Some book.TooLarge) None octets q tt (ok_same _ _ e)
quiet_after history new (Add name (Some text)) octets n q e = quiet_acted history new (add_refusal history name) (Some (act.Add name text)) octets q q (ok_same _ _ e)
quiet_after history new (Edit name None) octets n q e = quiet_acted history new (Some book.TooLarge) None octets q tt (ok_same _ _ e)
quiet_after history new (Edit name (Some edit)) octets n q e = quiet_acted history new (edit_refusal history name edit) (Some (act.Edit name edit)) octets q q (ok_same _ _ e)
quiet_after history new (Remove name) octets n q e = quiet_acted history new (remove_refusal history name) (Some (act.Remove name)) octets q q (ok_same _ _ e)
quiet_after history new (Set key value) octets n q e = quiet_acted history new (set_refusal history key value) (option_map (λ k. act.Set k value) (key_named key)) octets q (quiet_set history value (key_named key) q) (ok_same _ _ e)
quiet_after history new Show octets n q e = subst IsQuiet (ap (λ (p : List ℕ × History). p.1) (ok_same (rendered (report history), history) (octets, new) e)) q
quiet_after history new Settle octets n q e = absurd n

-- ---- a session

pub ahead_ahead : (a b : List ℕ) (o : Session) → ahead a (ahead b o) ≡ ahead (a ++ b) o
ahead_ahead a b o = ap (λ (w : List ℕ). record { written = w; end = o.end }) (sym (append_assoc a b o.written))

-- each printing is an effect
abbrev pub IsEffect : {S : Type 0} → (S → Command → List ℕ → S → Type 0) → (S → History) → Type 0
IsEffect {S = S} prints history = (a b : S) → (command : Command) → (octets : List ℕ) → prints a command octets b → effect (history a) command ≡ Ok (octets, history b)

all_outcome : {S : Type 0} (prints : S → Command → List ℕ → S → Type 0) (history : S → History) → IsEffect prints history → (a b : S) (items left : List InputItem) (octets : List ℕ) → PrintsAll prints a items octets b
    → outcome (history a) (items ++ left) ≡ ahead octets (outcome (history b) left)
all_outcome prints history is a b [] left octets h = rw (h.0, h.1) refl
all_outcome prints history is a b (stops fault ∷ items) left octets h = absurd h
all_outcome prints history is a b (does command ∷ items) left octets h =
    let (printed, rest, next, p, q, e) = h in
    ap (λ (f : Result (List ℕ × History) ServeFault). follow f (λ n. outcome n (items ++ left))) (is a next command printed p)
    ∙ (ap (ahead printed) (all_outcome prints history is next b items left rest q) ∙ (ahead_ahead printed rest (outcome (history b) left) ∙ ap (λ (o : List ℕ). ahead o (outcome (history b) left)) (sym e)))

pub first_outcome : {S : Type 0} (prints : S → Command → List ℕ → S → Type 0) (history : S → History) → IsEffect prints history → (a now : S) (items left : List InputItem) (octets : List ℕ) → PrintsFirst prints a items octets now left
    → outcome (history a) items ≡ ahead octets (outcome (history now) left)
first_outcome prints history is a now items left octets h = ap (outcome (history a)) h.1 ∙ all_outcome prints history is a now h.0 left octets h.2

prefix_answers : (octets : List ℕ) (session : Session) (history : History) (left : List InputItem) → session ≡ ahead octets (outcome history left) → (more : List ℕ) × (session.written ≡ octets ++ more)
prefix_answers octets session history left h = ((outcome history left).written, ap (λ (o : Session). o.written) h)

-- a fault in the input, or while it is read
stop_answers : (fault : ServeFault) (octets : List ℕ) (session : Session) → session ≡ ahead octets (record { written = []; end = Err fault }) → (session.written ≡ octets) × (session.end ≡ Err fault)
stop_answers fault octets session h = (ap (λ (o : Session). o.written) h ∙ append-nil octets, ap (λ (o : Session). o.end) h)

fault_answers : (fault : ServeFault) (octets : List ℕ) (session : Session) (history : History) (left : List InputItem) → session ≡ ahead octets (outcome history left) → FaultIn fault left → Answers (Err fault) octets session
fault_answers BadCommand octets session history left h f = stop_answers BadCommand octets session (h ∙ ap (λ (l : List InputItem). ahead octets (outcome history l)) f)
fault_answers Truncated octets session history left h f = stop_answers Truncated octets session (h ∙ ap (λ (l : List InputItem). ahead octets (outcome history l)) f)
fault_answers Read octets session history left h f = prefix_answers octets session history left h
fault_answers OutOfMemory octets session history left h f = prefix_answers octets session history left h
fault_answers Write octets session history left h f = absurd f
fault_answers HistoryFull octets session history left h f = absurd f
fault_answers NoWorkers octets session history left h f = absurd f
fault_answers Differs octets session history left h f = absurd f

-- a command without a reply
fails_answers : (fault : ServeFault) (octets : List ℕ) (session : Session) (history : History) (left : List InputItem) (command : Command) (more : List InputItem) → session ≡ ahead octets (outcome history left) → left ≡ does command ∷ more → Fails fault history command → Answers (Err fault) octets session
fails_answers HistoryFull octets session history left command more h k f =
    stop_answers HistoryFull octets session (h ∙ (ap (λ (l : List InputItem). ahead octets (outcome history l)) k ∙ ap (λ (r : Result (List ℕ × History) ServeFault). ahead octets (follow r (λ next. outcome next more))) f))
fails_answers OutOfMemory octets session history left command more h k f = prefix_answers octets session history left h
fails_answers BadCommand octets session history left command more h k f = absurd f
fails_answers Truncated octets session history left command more h k f = absurd f
fails_answers Read octets session history left command more h k f = absurd f
fails_answers Write octets session history left command more h k f = absurd f
fails_answers NoWorkers octets session history left command more h k f = absurd f
fails_answers Differs octets session history left command more h k f = absurd f

-- why whoever answers has no reply, and what it makes of its report
abbrev pub FailsSo : {S : Type 0} → (ServeFault → S → Command → S → Type 0) → (S → History) → Type 0
FailsSo {S = S} fails history = (fault : ServeFault) → (a b : S) → (command : Command) → fails fault a command b → Fails fault (history a) command

abbrev pub PassesSo : {S : Type 0} → (S → Bool) → (S → History) → Type 0
PassesSo {S = S} passes history = (a : S) → passes a ≡ all_pass (report (history a))

pub alone_ends : {S : Type 0} (prints : S → Command → List ℕ → S → Type 0) (fails : ServeFault → S → Command → S → Type 0) (passes : S → Bool) (history : S → History) → IsEffect prints history → FailsSo fails history → PassesSo passes history
    → (r : Result Bool ServeFault) (octets : List ℕ) (a last : S) (items : List InputItem) → EndsBy prints fails passes r octets a items last → Answers r octets (outcome (history a) items)
alone_ends prints fails passes history is fails_so passed (Ok p) octets a last items h =
    let q : outcome (history a) items ≡ ahead octets (outcome (history last) []) = ap (outcome (history a)) (sym (append-nil items)) ∙ all_outcome prints history is a last items [] octets h.0 in
    (ap (λ (o : Session). o.written) q ∙ append-nil octets, ap (λ (o : Session). o.end) q ∙ ap (λ (b : Bool). Ok b) (sym (h.1 ∙ passed last)))
alone_ends prints fails passes history is fails_so passed (Err fault) octets a last items (inl (now, left, first, inl h)) =
    fault_answers fault octets (outcome (history a) items) (history now) left (first_outcome prints history is a now items left octets first) h.0
alone_ends prints fails passes history is fails_so passed (Err fault) octets a last items (inl (now, left, first, inr h)) =
    fails_answers fault octets (outcome (history a) items) (history now) left h.0 h.1 (first_outcome prints history is a now items left octets first) h.2 (fails_so fault now last h.0 h.3)
alone_ends prints fails passes history is fails_so passed (Err fault) octets a last items (inr h) =
    let q = first_outcome prints history is a last items h.2 (octets ++ h.1) h.3 in
    rw h.0 (h.1 ++ (outcome (history last) h.2).written, ap (λ (o : Session). o.written) q ∙ append_assoc octets h.1 (outcome (history last) h.2).written)

pub quiet_first : (settings : Settings) (history : History) → history ≡ record { opening = settings; past = [] } → IsQuiet history
quiet_first settings history e = rw e refl
