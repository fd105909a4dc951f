-- The jobs that an observer is given while serving.
use Rattle.std.proofs.Common.{◌≡◌, inl, inr, ℕ, ◌+◌, Bool, List, [], ◌∷◌, ◌++◌, length, map, true, false, Option, Some, None, option_map, Result, Ok, Err, OnOk, OnErr, IfOk, IfErr, IsErrAnd, IfSome, refl, sym, ap, subst, ◌∙◌, append_assoc, append-nil, arith}
use Rattle.std.proofs.lemmas.List.{map-append}
use Rattle.std.proofs.lemmas.Result.{on_ok_weaker}
use Rattle.pd_settings.specs.declared.settings.Settings.{Settings}
use Rattle.pd_settings.specs.declared.keys.Key.{Key}
use Rattle.pd_settings.specs.Keys.{key_named}
use Rattle.pd_book.specs.declared.act.Act.{Act}
use Rattle.pd_book.specs.declared.act.Act.TheVariants as act
use Rattle.pd_book.specs.declared.faults.BookFault.{BookFault}
use Rattle.pd_track.specs.declared.task.Task.{Task}
use Rattle.pd_track.specs.Reuse as reuse
use Rattle.pd_book.specs.Acts.{NamedText, next, started}
use Rattle.pd_book.specs.History.{History, JobView, handed_task, after_act}
use Rattle.pd_book.specs.Refusals.{next_job, add_refusal, edit_refusal, remove_refusal, set_refusal}
use Rattle.pd_book.specs.Turns.{after_turn}
use Rattle.pd_protocol.specs.Commands.{InputItem, commands, does, stops}
use Rattle.pd_protocol.specs.declared.command.Command.{Command}
use Rattle.pd_protocol.specs.declared.command.Command.TheVariants.{Add, Edit, Remove, Set, Show, Settle}
use Rattle.pd_protocol.specs.declared.faults.ServeFault.{ServeFault}
use Rattle.pd_protocol.specs.declared.faults.ServeFault.TheVariants.{OutOfMemory}
use Rattle.pd_cli.specs.Report.{rendered}
use Rattle.pd_cli.specs.Output.{PrintsAlone, acted, effect, report}
use Rattle.pd_cli.specs.Steps.{Turns}
use Rattle.pd_cli.specs.StartedJobs.{AreOfTurns, AreStartedBy, task_if_some, tasks_started}
use Rattle.pd_cli.specs.StepLines.{FinishedJob, AreNumbered}
use Rattle.pd_cli.specs.Observed.{IsOfTurn, ObservesAll, ObservesTurn, ObservesSettling, ObservesNumbered}
use Rattle.pd_cli.specs.Sessions.{PrintsAll, PrintsFirst, EndsBy, HasAnswered, ServesBy}
use Rattle.pd_cli.specs.Steps.{IsQuiet, Fails}
use Rattle.pd_cli.proofs.Alone.{all_alone, first_alone}
use Rattle.pd_cli.proofs.Written.{IsEffect, ok_same, StartsNone, quiet_after}

-- ---- one turn

pub turn_heard : {S : Type 0} (observes : S → S → FinishedJob → Type 0) (old new : S) (history : History) (o : Option JobView) (job : JobView) (done : Task) (steps : ℕ)
    → o ≡ Some job → handed_task o ≡ next_job history → done ≡ job.task → steps ≡ 0 + reuse.steps job → observes old new (record { task = done; steps = steps }) → ObservesTurn observes (Ok true) history old new
turn_heard observes old new history o job done steps e f d s h = (record { task = done; steps = steps }, (job, sym f ∙ ap handed_task e, (d, omega (arith, s))), h)

-- ---- a settling

abbrev pub HeardSoFar : {S : Type 0} → (S → S → FinishedJob → Type 0) → History → History → S → S → Type 0
HeardSoFar observes first history old now = (jobs : List FinishedJob) × AreOfTurns first jobs history × ObservesAll observes old now jobs

hears_more : {S : Type 0} (observes : S → S → FinishedJob → Type 0) (a b c : S) (jobs : List FinishedJob) (job : FinishedJob) → ObservesAll observes a b jobs → observes b c job → ObservesAll observes a c (jobs ++ job ∷ [])
hears_more observes a b c [] job h k = (c, subst (λ x. observes x c job) h k, refl)
hears_more observes a b c (x ∷ jobs) job h k = (h.0, h.1, hears_more observes h.0 b c jobs job h.2 k)

pub hears_then : {S : Type 0} (observes : S → S → FinishedJob → Type 0) (a b c : S) (jobs more : List FinishedJob) → ObservesAll observes a b jobs → ObservesAll observes b c more → ObservesAll observes a c (jobs ++ more)
hears_then observes a b c [] more h k = subst (λ x. ObservesAll observes x c more) h k
hears_then observes a b c (x ∷ jobs) more h k = (h.0, h.1, hears_then observes h.0 b c jobs more h.2 k)

turns_more : (a b : History) (jobs : List FinishedJob) (job : FinishedJob) (t : IsOfTurn b job) → AreOfTurns a jobs b → AreOfTurns a (jobs ++ job ∷ []) (after_turn b t.0.task)
turns_more a b [] job t h = (t.0, subst (λ (s : History). next_job s ≡ Some t.0.task) h t.1, t.2, ap (λ (s : History). after_turn s t.0.task) h)
turns_more a b (x ∷ jobs) job t h = (h.0, h.1, h.2, turns_more (after_turn a h.0.task) b jobs job t h.3)

abbrev task_or : Task → Option Task → Task
task_or d None = d
task_or d (Some task) = task

pub heard_first : {S : Type 0} (observes : S → S → FinishedJob → Type 0) (history : History) (old : S) → HeardSoFar observes history history old old
heard_first observes history old = ([], refl, refl)

pub heard_more : {S : Type 0} (observes : S → S → FinishedJob → Type 0) (first history next : History) (old now new : S) → HeardSoFar observes first history old now → Turns (Ok true) history next → ObservesTurn observes (Ok true) history now new → HeardSoFar observes first next old new
heard_more observes first history next old now new h t k =
    let same : t.0 ≡ k.1.0.task = ap (task_or t.0) (sym t.1 ∙ k.1.1) in
    let is : after_turn history k.1.0.task ≡ next = sym (t.3 ∙ ap (after_turn history) same) in
    (h.0 ++ k.0 ∷ [], subst (AreOfTurns first (h.0 ++ k.0 ∷ [])) is (turns_more first history h.0 k.0 k.1 h.1), hears_more observes old now new h.0 k.0 h.2 k.2)

pub heard_end : {S : Type 0} (observes : S → S → FinishedJob → Type 0) (first history after : History) (old now new : S) → HeardSoFar observes first history old now → Turns (Ok false) history after → ObservesTurn observes (Ok false) history now new → ObservesSettling observes (Ok tt) first after old new
heard_end observes first history after old now new h t k = (h.0, history, h.1, subst (λ x. ObservesAll observes old x h.0) (sym k) h.2, sym t.1)

pub heard_stop : {S : Type 0} (observes : S → S → FinishedJob → Type 0) (r : Result (Unit {0}) ServeFault) (fault : ServeFault) (first history after : History) (old now new : S) → IsErrAnd r (λ x. x ≡ fault) → HeardSoFar observes first history old now → ObservesTurn observes (Err fault) history now new → ObservesSettling observes r first after old new
heard_stop observes (Ok u) fault first history after old now new i h k = absurd i
heard_stop observes (Err x) fault first history after old now new i h k = (h.0, history, h.1, subst (λ x. ObservesAll observes old x h.0) (sym k) h.2, tt)

-- ---- the numbers of jobs

abbrev number_of : Option Task → ℕ
number_of None = 0
number_of (Some task) = task.number

number_next : (history : History) (task : Task) → next_job history ≡ Some task → task.number ≡ started history.past + 1
number_next history task e = go (next history.past) refl
  where
    go : (o : Option NamedText) → next history.past ≡ o → task.number ≡ started history.past + 1
    go None f = let none : next_job history ≡ None = rw f refl in let bad : ◌≡◌ {A = Option Task} None (Some task) = sym none ∙ e in absurd cc
    go (Some script) f = let some : number_of (next_job history) ≡ started history.past + 1 = rw f refl in sym (ap number_of e) ∙ some

turns_numbered : (a b : History) (jobs : List FinishedJob) → AreOfTurns a jobs b → AreNumbered (started a.past) jobs × (started b.past ≡ started a.past + length jobs)
turns_numbered a b [] h = (tt, ap (λ (s : History). started s.past) h ∙ omega arith)
turns_numbered a b (job ∷ jobs) h =
    let rest = turns_numbered (after_turn a h.0.task) b jobs h.3 in
    let same = rest.1 in
    ((ap (λ (t : Task). t.number) h.2.0 ∙ number_next a h.0.task h.1, rest.0), omega (arith, same))

abbrev tasks_of : List FinishedJob → List Task
tasks_of jobs = map (λ (job : FinishedJob). job.task) jobs

-- the tasks of turns are those of their starts
turns_started : (a b : History) (jobs : List FinishedJob) → AreOfTurns a jobs b → tasks_started b ≡ tasks_started a ++ tasks_of jobs
turns_started a b [] h = ap tasks_started h ∙ sym (append-nil (tasks_started a))
turns_started a b (job ∷ jobs) h =
    let rest = turns_started (after_turn a h.0.task) b jobs h.3 in
    let one : task_if_some (next_job a) ≡ job.task ∷ [] = ap task_if_some h.1 ∙ ap (λ (t : Task). t ∷ []) (sym h.2.0) in
    rest ∙ (ap (λ (l : List Task). (tasks_started a ++ l) ++ tasks_of jobs) one ∙ append_assoc (tasks_started a) (job.task ∷ []) (tasks_of jobs))

on_ok : {V E : Type 0} (r : Result V E) (P : Type 0) → P → OnOk r P
on_ok (Ok v) P p = p
on_ok (Err e) P p = tt

on_err : {V E : Type 0} (r : Result V E) (P : Type 0) → P → OnErr r P
on_err (Ok v) P p = tt
on_err (Err e) P p = p

none_ok : {V E : Type 0} (r : Result V E) (fault : E) (P : Type 0) → IsErrAnd r (λ x. x ≡ fault) → OnOk r P
none_ok (Ok v) fault P i = absurd i
none_ok (Err e) fault P i = tt

-- a settling that came to its end
pub settled_heard : {S V : Type 0} (observes : S → S → FinishedJob → Type 0) (r : Result V ServeFault) (history after : History) (old new : S) → ObservesSettling observes (Ok tt) history after old new → ObservesNumbered observes r history after old new
settled_heard observes r history after old new h =
    let numbered = turns_numbered history h.1 h.0 h.2 in
    let tasks = ap tasks_started (sym h.4) ∙ turns_started history h.1 h.0 h.2 in
    (h.0, numbered.0, h.3, on_ok r _ (ap (λ (s : History). started s.past) (sym h.4) ∙ numbered.1), on_ok r _ tasks, on_err r _ (h.1, h.2))

-- one that stopped
pub stopped_heard : {S V : Type 0} (observes : S → S → FinishedJob → Type 0) (r : Result V ServeFault) (fault : ServeFault) (history after : History) (old new : S) → IsErrAnd r (λ x. x ≡ fault) → ObservesSettling observes (Err fault) history after old new → ObservesNumbered observes r history after old new
stopped_heard observes r fault history after old new i h =
    (h.0, (turns_numbered history h.1 h.0 h.2).0, h.3, none_ok r fault _ i, none_ok r fault _ i, on_err r _ (h.1, h.2))

-- ---- commands that start no job

abbrev IsNoStart : Act → Type 0
IsNoStart (act.Start j n) = ⊥
IsNoStart a = Unit {0}

-- of a history this stays with each act that starts no job
abbrev StaysWithoutStart : {V : Type 0} → (History → V) → Type 0
StaysWithoutStart f = (history : History) (a : Act) → IsNoStart a → f (after_act history a) ≡ f history

started_stays : StaysWithoutStart (λ (h : History). started h.past)
started_stays history (act.Start j n) h = absurd h
started_stays history (act.Add n t) h = refl
started_stays history (act.Edit n e) h = refl
started_stays history (act.Remove n) h = refl
started_stays history (act.Set k v) h = refl
started_stays history (act.Finish j r) h = refl
started_stays history (act.Abandon j) h = refl

tasks_stay : StaysWithoutStart tasks_started
tasks_stay history (act.Start j n) h = absurd h
tasks_stay history (act.Add n t) h = refl
tasks_stay history (act.Edit n e) h = refl
tasks_stay history (act.Remove n) h = refl
tasks_stay history (act.Set k v) h = refl
tasks_stay history (act.Finish j r) h = refl
tasks_stay history (act.Abandon j) h = refl

stays_acted : {V : Type 0} (f : History → V) → StaysWithoutStart f → (history new : History) (refusal : Option BookFault) (a : Act) (octets : List ℕ) → IsNoStart a → acted history refusal (Some a) ≡ (octets, new) → f new ≡ f history
stays_acted f stays history new (Some fault) a octets h e = ap (λ (p : List ℕ × History). f p.1) (sym e)
stays_acted f stays history new None a octets h e = ap (λ (p : List ℕ × History). f p.1) (sym e) ∙ stays history a h

stays_set : {V : Type 0} (f : History → V) → StaysWithoutStart f → (history new : History) (refusal : Option BookFault) (o : Option Key) (value : _) (octets : List ℕ) → acted history refusal (option_map (λ k. act.Set k value) o) ≡ (octets, new) → f new ≡ f history
stays_set f stays history new (Some fault) None value octets e = ap (λ (p : List ℕ × History). f p.1) (sym e)
stays_set f stays history new None None value octets e = ap (λ (p : List ℕ × History). f p.1) (sym e)
stays_set f stays history new refusal (Some k) value octets e = stays_acted f stays history new refusal (act.Set k value) octets tt e

stays_after : {V : Type 0} (f : History → V) → StaysWithoutStart f → (history new : History) (command : Command) (octets : List ℕ) → StartsNone command → effect history command ≡ Ok (octets, new) → f new ≡ f history
stays_after f stays history new (Add name None) octets n e = ap (λ (p : List ℕ × History). f p.1) (sym (ok_same _ _ e))
stays_after f stays history new (Add name (Some text)) octets n e = stays_acted f stays history new (add_refusal history name) (act.Add name text) octets tt (ok_same _ _ e)
stays_after f stays history new (Edit name None) octets n e = ap (λ (p : List ℕ × History). f p.1) (sym (ok_same _ _ e))
stays_after f stays history new (Edit name (Some edit)) octets n e = stays_acted f stays history new (edit_refusal history name edit) (act.Edit name edit) octets tt (ok_same _ _ e)
stays_after f stays history new (Remove name) octets n e = stays_acted f stays history new (remove_refusal history name) (act.Remove name) octets tt (ok_same _ _ e)
stays_after f stays history new (Set key value) octets n e = stays_set f stays history new (set_refusal history key value) (key_named key) value octets (ok_same _ _ e)
stays_after f stays history new Show octets n e = ap (λ (p : List ℕ × History). f p.1) (sym (ok_same (rendered (report history), history) (octets, new) e))
stays_after f stays history new Settle octets n e = absurd n

-- what a command that starts no job prints, and how quiet it is then
pub act_printed : {S V : Type 0} (observes : S → S → FinishedJob → Type 0) (r : Result V ServeFault) (octets : V → List ℕ) (history after : History) (command : Command) (old : S) → StartsNone command → IfOk r (λ v. effect history command ≡ Ok (octets v, after))
    → IfOk r (λ v. (effect history command ≡ Ok (octets v, after)) × ObservesNumbered {V = Unit {0}} observes (Ok tt) history after old old)
act_printed observes (Ok v) octets history after command old n e =
    let same = stays_after (λ (h : History). started h.past) started_stays history after command (octets v) n e in
    let tasks = stays_after tasks_started tasks_stay history after command (octets v) n e in
    (e, ([], tt, refl, omega (arith, same), tasks ∙ sym (append-nil (tasks_started history)), tt))
act_printed observes (Err x) octets history after command old n e = tt

pub act_ready : {V : Type 0} (r : Result V ServeFault) (octets : V → List ℕ) (history after : History) (command : Command) → StartsNone command → IsQuiet history → IfOk r (λ v. effect history command ≡ Ok (octets v, after)) → IfOk r (λ v. IsQuiet after)
act_ready (Ok v) octets history after command n q e = quiet_after history after command (octets v) n q e
act_ready (Err x) octets history after command n q e = tt

pub act_failed : {S V : Type 0} (observes : S → S → FinishedJob → Type 0) (r : Result V ServeFault) (history after : History) (command : Command) (old : S) → IfErr r (λ fault. fault ≡ OutOfMemory)
    → IfErr r (λ fault. Fails fault history command × ObservesNumbered {V = Unit {0}} observes (Err fault) history after old old)
act_failed observes (Ok v) history after command old e = tt
act_failed observes (Err x) history after command old e = rw e (tt, ([], tt, refl, tt, tt, (history, refl)))

-- what a settle prints, or why it has no reply
pub settle_printed : {S V : Type 0} (observes : S → S → FinishedJob → Type 0) (r : Result V ServeFault) (octets : V → List ℕ) (history after : History) (old new : S) → IfOk r (λ v. effect history Settle ≡ Ok (octets v, after)) → ObservesNumbered observes r history after old new
    → IfOk r (λ v. (effect history Settle ≡ Ok (octets v, after)) × ObservesNumbered {V = Unit {0}} observes (Ok tt) history after old new)
settle_printed observes (Ok v) octets history after old new e h = (e, h)
settle_printed observes (Err x) octets history after old new e h = tt

pub settle_failed : {S V : Type 0} (observes : S → S → FinishedJob → Type 0) (r : Result V ServeFault) (history after : History) (old new : S) → IfErr r (λ fault. Fails fault history Settle) → ObservesNumbered observes r history after old new
    → IfErr r (λ fault. Fails fault history Settle × ObservesNumbered {V = Unit {0}} observes (Err fault) history after old new)
settle_failed observes (Ok v) history after old new e h = tt
settle_failed observes (Err x) history after old new e h = (e, h)

-- ---- the whole of serving

abbrev pub HeardAll : {S : Type 0} → (S → S → FinishedJob → Type 0) → History → S → S → Type 0
HeardAll observes history old now =
    (jobs : List FinishedJob) × AreNumbered 0 jobs × ObservesAll observes old now jobs × (started history.past ≡ length jobs) × (tasks_of jobs ≡ tasks_started history)

numbered_then : (n m : ℕ) (jobs more : List FinishedJob) → AreNumbered n jobs → m ≡ n + length jobs → AreNumbered m more → AreNumbered n (jobs ++ more)
numbered_then n m [] more h e k = subst (λ (i : ℕ). AreNumbered i more) (omega (arith, e)) k
numbered_then n m (job ∷ jobs) more h e k = (h.0, numbered_then (n + 1) m jobs more h.1 (omega (arith, e)) k)

pub all_first : {S : Type 0} (observes : S → S → FinishedJob → Type 0) (settings : Settings) (history : History) (old : S) → history ≡ record { opening = settings; past = [] } → HeardAll observes history old old
all_first observes settings history old e = ([], tt, refl, ap (λ (s : History). started s.past) e, sym (ap tasks_started e))

length_both : (a b : List FinishedJob) → length (a ++ b) ≡ length a + length b
length_both [] b = omega arith
length_both (x ∷ a) b = let rest = length_both a b in omega (arith, rest)

tasks_both : (history reached : History) (jobs more : List FinishedJob) → tasks_of jobs ≡ tasks_started history → tasks_started reached ≡ tasks_started history ++ tasks_of more → tasks_of (jobs ++ more) ≡ tasks_started reached
tasks_both history reached jobs more h k = map-append (λ (job : FinishedJob). job.task) jobs more ∙ (ap (λ (l : List Task). l ++ tasks_of more) h ∙ sym k)

pub all_more : {S V : Type 0} (observes : S → S → FinishedJob → Type 0) (v : V) (history next : History) (old now new : S) → HeardAll observes history old now → ObservesNumbered {V = V} observes (Ok v) history next now new → HeardAll observes next old new
all_more observes v history next old now new h k =
    let same = h.3 in
    let more = k.3 in
    let both = length_both h.0 k.0 in (
      h.0 ++ k.0,
      numbered_then 0 (started history.past) h.0 k.0 h.1 (omega (arith, same)) k.1,
      hears_then observes old now new h.0 k.0 h.2 k.2,
      omega (arith, same, more, both),
      tasks_both history next h.0 k.0 h.4 k.4,
    )

-- a handler gives its observer the jobs of each command
abbrev pub TellsOf : {S L : Type 0} → (S → Command → List ℕ → S → Type 0) → (S → History) → (S → L) → (L → L → FinishedJob → Type 0) → Type 0
TellsOf {S = S} prints history observer observes = (a b : S) → (command : Command) → (octets : List ℕ) → prints a command octets b → ObservesNumbered {V = Unit {0}} observes (Ok tt) (history a) (history b) (observer a) (observer b)

abbrev pub TellsAtFault : {S L : Type 0} → (ServeFault → S → Command → S → Type 0) → (S → History) → (S → L) → (L → L → FinishedJob → Type 0) → Type 0
TellsAtFault {S = S} fails history observer observes = (fault : ServeFault) → (a b : S) → (command : Command) → fails fault a command b → ObservesNumbered {V = Unit {0}} observes (Err fault) (history a) (history b) (observer a) (observer b)

printed_heard : {S L : Type 0} (prints : S → Command → List ℕ → S → Type 0) (history : S → History) (observer : S → L) (observes : L → L → FinishedJob → Type 0) → TellsOf prints history observer observes
    → (a b : S) (items : List InputItem) (octets : List ℕ) (old : L) → PrintsAll prints a items octets b → HeardAll observes (history a) old (observer a) → HeardAll observes (history b) old (observer b)
printed_heard prints history observer observes tells a b [] octets old h k = subst (λ x. HeardAll observes (history x) old (observer x)) (sym h.1) k
printed_heard prints history observer observes tells a b (stops fault ∷ items) octets old h k = absurd h
printed_heard prints history observer observes tells a b (does command ∷ items) octets old h k =
    let (printed, rest, next, p, q, e) = h in
    printed_heard prints history observer observes tells next b items rest old q (all_more {V = Unit {0}} observes tt (history a) (history next) old (observer a) (observer next) k (tells a next command printed p))

abbrev start_of : Settings → History
start_of settings = record { opening = settings; past = [] }

-- whole commands
after_commands : {E L : Type 0} (observes : L → L → FinishedJob → Type 0) (end : Result Bool E) (settings : Settings) (items left : List InputItem) (octets : List ℕ) (now : History) (old new : L) → PrintsFirst PrintsAlone (start_of settings) items octets now left → OnOk end (left ≡ []) → HeardAll observes now old new
    → (jobs : List FinishedJob) × AreNumbered 0 jobs × ObservesAll observes old new jobs × AreStartedBy settings end items jobs
after_commands observes end settings items left octets now old new p none h =
    (h.0, h.1, h.2, (octets, left, now, [], now, p, refl, h.4, on_ok_weaker end (λ e. (e, refl)) none))

-- and a part of a settle
after_part : {L : Type 0} (observes : L → L → FinishedJob → Type 0) (fault : ServeFault) (settings : Settings) (items left : List InputItem) (octets : List ℕ) (now last : History) (old mid new : L) → PrintsFirst PrintsAlone (start_of settings) items octets now left → HeardAll observes now old mid → ObservesNumbered {V = Unit {0}} observes (Err fault) now last mid new
    → (jobs : List FinishedJob) × AreNumbered 0 jobs × ObservesAll observes old new jobs × AreStartedBy {E = ServeFault} settings (Err fault) items jobs
after_part observes fault settings items left octets now last old mid new p h k =
    let same = h.3 in (
      h.0 ++ k.0,
      numbered_then 0 (started now.past) h.0 k.0 h.1 (omega (arith, same)) k.1,
      hears_then observes old mid new h.0 k.0 h.2 k.2,
      (octets, left, now, k.0, k.5.0, p, k.5.1, tasks_both now k.5.0 h.0 k.0 h.4 (turns_started now k.5.0 k.0 k.5.1), tt),
    )

-- the observer of a session on an input was given the jobs that it starts, numbered from 1 on
input_heard : {S L : Type 0} (prints : S → Command → List ℕ → S → Type 0) (fails : ServeFault → S → Command → S → Type 0) (passes : S → Bool) (r : Result Bool ServeFault) (a last : S) (octets : List ℕ) (items : List InputItem) → EndsBy prints fails passes r octets a items last
    → (history : S → History) (observer : S → L) (observes : L → L → FinishedJob → Type 0) → IsEffect prints history → TellsOf prints history observer observes → TellsAtFault fails history observer observes → (settings : Settings) → history a ≡ start_of settings
    → (jobs : List FinishedJob) × AreNumbered 0 jobs × ObservesAll observes (observer a) (observer last) jobs × AreStartedBy settings r items jobs
input_heard prints fails passes (Ok passed) a last octets items h history observer observes is tells at_fault settings e =
    let observed = printed_heard prints history observer observes tells a last items octets (observer a) h.0 (all_first observes settings (history a) (observer a) e) in
    let p = subst (λ (s : History). PrintsAll PrintsAlone s items octets (history last)) e (all_alone prints history is a last items octets h.0) in
    after_commands {E = ServeFault} observes (Ok passed) settings items [] octets (history last) (observer a) (observer last) (items, sym (append-nil items), p) refl observed
input_heard prints fails passes (Err fault) a last octets items (inl (now, left, p, inl (f, same))) history observer observes is tells at_fault settings e =
    let observed = printed_heard prints history observer observes tells a now p.0 octets (observer a) p.2 (all_first observes settings (history a) (observer a) e) in
    let alone = subst (λ (s : History). PrintsFirst PrintsAlone s items octets (history now) left) e (first_alone prints history is a now items left octets p) in
    after_commands {E = ServeFault} observes (Err fault) settings items left octets (history now) (observer a) (observer last) alone tt (subst (λ x. HeardAll observes (history now) (observer a) (observer x)) (sym same) observed)
input_heard prints fails passes (Err fault) a last octets items (inl (now, left, p, inr (command, more, l, f))) history observer observes is tells at_fault settings e =
    let observed = printed_heard prints history observer observes tells a now p.0 octets (observer a) p.2 (all_first observes settings (history a) (observer a) e) in
    let alone = subst (λ (s : History). PrintsFirst PrintsAlone s items octets (history now) left) e (first_alone prints history is a now items left octets p) in
    after_part observes fault settings items left octets (history now) (history last) (observer a) (observer now) (observer last) alone observed (at_fault fault now last command f)
input_heard prints fails passes (Err fault) a last octets items (inr (w, more, left, p)) history observer observes is tells at_fault settings e =
    let observed = printed_heard prints history observer observes tells a last p.0 (octets ++ more) (observer a) p.2 (all_first observes settings (history a) (observer a) e) in
    let alone = subst (λ (s : History). PrintsFirst PrintsAlone s items (octets ++ more) (history last) left) e (first_alone prints history is a last items left (octets ++ more) p) in
    after_commands {E = ServeFault} observes (Err fault) settings items left (octets ++ more) (history last) (observer a) (observer last) alone tt observed

-- the same where the input may be unknown
pub session_heard : {S L : Type 0} (prints : S → Command → List ℕ → S → Type 0) (fails : ServeFault → S → Command → S → Type 0) (passes : S → Bool) (r : Result Bool ServeFault) (a last : S) (input before after : Option (List ℕ)) → ServesBy prints fails passes r input before after a last → HasAnswered prints fails a last
    → (history : S → History) (observer : S → L) (observes : L → L → FinishedJob → Type 0) → IsEffect prints history → TellsOf prints history observer observes → TellsAtFault fails history observer observes → (settings : Settings) → history a ≡ record { opening = settings; past = [] }
    → (jobs : List FinishedJob) × AreNumbered 0 jobs × ObservesAll observes (observer a) (observer last) jobs × IfSome input (λ octets. AreStartedBy settings r (commands octets) jobs)
session_heard prints fails passes r a last (Some input) before after s answered history observer observes is tells at_fault settings e =
    input_heard prints fails passes r a last s.0 (commands input) s.2 history observer observes is tells at_fault settings e
session_heard prints fails passes r a last None before after s (items, octets, now, p, inl same) history observer observes is tells at_fault settings e =
    let observed = printed_heard prints history observer observes tells a now items octets (observer a) p (all_first observes settings (history a) (observer a) e) in
    let told = subst (λ x. HeardAll observes (history x) (observer a) (observer x)) (sym same) observed in
    (told.0, told.1, told.2, tt)
session_heard prints fails passes r a last None before after s (items, octets, now, p, inr (fault, command, f)) history observer observes is tells at_fault settings e =
    let observed = printed_heard prints history observer observes tells a now items octets (observer a) p (all_first observes settings (history a) (observer a) e) in
    let k = at_fault fault now last command f in
    let same = observed.3 in
    (observed.0 ++ k.0, numbered_then 0 (started (history now).past) observed.0 k.0 observed.1 (omega (arith, same)) k.1, hears_then observes (observer a) (observer now) (observer last) observed.0 k.0 observed.2 k.2, tt)
