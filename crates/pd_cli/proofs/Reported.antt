-- The reports of jobs, and the end of a run that prints them.
use Rattle.std.proofs.Common.{◌≡◌, ◌⊎◌, ◌==◌, ◌||◌, ℕ, Bool, true, false, List, [], ◌∷◌, ◌++◌, length, bytes_eq, codes, Bor, Option, Some, None, Result, Ok, Err, IfSome, if◌then◌else◌, ◌≤◌, arith, zero, suc, refl, sym, ap, subst, ◌∙◌, append_assoc, append-nil}
use Rattle.std.specs.Io.KnownBytes.{Appends}
use Rattle.std.specs.List.{list_any}
use Rattle.std.proofs.lemmas.List.{length-map}
use Rattle.pd_protocol.specs.ChosenOptions.{ReportOptions, names_of}
use Rattle.pd_settings.specs.declared.settings.Settings.{Settings}
use Rattle.pd_protocol.specs.Commands.{commands}
use Rattle.pd_protocol.specs.SettingsText.{settings_in}
use Rattle.pd_protocol.specs.WriterOutput.{WritesTo}
use Rattle.pd_protocol.specs.ProgramFaults.{fault_line}
use Rattle.pd_protocol.specs.declared.exit.Exit.{Exit}
use Rattle.pd_protocol.specs.declared.program_faults.ProgramFault.{ProgramFault}
use Rattle.pd_protocol.specs.declared.program_faults.ProgramFault.TheVariants.{Serving}
use Rattle.pd_protocol.specs.declared.faults.ServeFault.{ServeFault}
use Rattle.pd_protocol.specs.declared.faults.ServeFault.TheVariants.{OutOfMemory}
use Rattle.pd_protocol.proofs.Writing.{says_front, says_then}
use Rattle.pd_protocol.proofs.Known.{appends_none}
use Rattle.pd_cli.specs.ExplanationBlocks.{IsBlockOf, is_selected_or_none_selected}
use Rattle.pd_cli.specs.Program.{Runs, end_of, status_of, stderr_of, Finishes, FinishesOutput}
use Rattle.pd_cli.specs.StartedJobs.{AreJobsOfRun, AreStartedBy}
use Rattle.pd_cli.specs.StepLines.{FinishedJob, AreNumbered, step_line, step_lines, rule_lines_of, rule_lines_of_jobs}
use Rattle.pd_cli.specs.Observed.{ObservesAll, WritesMore}
use Rattle.pd_cli.specs.Reported.{IsExplained, IsReport, ReportsJob, AreReportedUnlessFailed, NothingIsReported, StepsAreReported, RulesAreReported, BlocksAreReported}
use Rattle.pd_cli.proofs.Ending.{memory_runs, settings_out}

-- nothing was written
pub says_none : (w : Option (List ℕ)) → WritesTo true w w []
says_none w = ([], appends_none w, refl)

-- a line after others, where all of these were written
pub says_more : (before stderr_ok : Bool) (w w1 w2 : Option (List ℕ)) (lines line : List ℕ) → WritesTo before w w1 lines → WritesMore before stderr_ok w1 w2 line → WritesTo stderr_ok w w2 (lines ++ line)
says_more true stderr_ok w w1 w2 lines line s m = says_then stderr_ok w w1 w2 lines line s m
says_more false stderr_ok w w1 w2 lines line s m =
    rw m.0 (subst (λ (x : Option (List ℕ)). WritesTo false w x (lines ++ line)) (sym m.1) (says_front w w1 lines line s))

-- nothing is to be written after the lines
pub more_none : (stderr_ok : Bool) (w : Option (List ℕ)) → WritesMore stderr_ok stderr_ok w w []
more_none true w = says_none w
more_none false w = (refl, refl)

-- a name is among those that are lent where it is among their values
any_name : (only : List (Bor (List ℕ))) (name : List ℕ) → list_any (λ (each : Bor (List ℕ)). bytes_eq each.now name) only ≡ list_any (λ (each : List ℕ). bytes_eq each name) (names_of only)
any_name [] name = refl
any_name (each ∷ only) name = ap (λ (b : Bool). bytes_eq each.now name || b) (any_name only name)

pub looked_among : (only : List (Bor (List ℕ))) (name : List ℕ) (among : Bool) → (length only == 0) ≡ false → among ≡ list_any (λ (each : Bor (List ℕ)). bytes_eq each.now name) only → among ≡ is_selected_or_none_selected (names_of only) name
looked_among only name among e h =
    let some : (length (names_of only) == 0) ≡ false = ap (λ (n : ℕ). n == 0) (length-map only (λ (each : Bor (List ℕ)). each.now)) ∙ e in
    h ∙ (any_name only name ∙ sym (ap (λ (b : Bool). b || list_any (λ (each : List ℕ). bytes_eq each name) (names_of only)) some))

-- after a failed write nothing is reported
still_quiet : {S N : Type 0} (observes : S → S → FinishedJob → Type 0) (old new : S) (jobs : List FinishedJob) → ObservesAll observes old new jobs → (name : S → N) (asks : S → ReportOptions) (stderr_ok : S → Bool) (content : S → Option (List ℕ))
    → ((a b : S) (job : FinishedJob) → observes a b job → (name b ≡ name a) × (asks b ≡ asks a) × ReportsJob (asks a) (stderr_ok a) (stderr_ok b) (content a) (content b) job)
    → stderr_ok old ≡ false → (name new ≡ name old) × (stderr_ok new ≡ false) × (content new ≡ content old)
still_quiet observes old new [] h name asks stderr_ok content says f = (ap name h, ap stderr_ok h ∙ f, ap content h)
still_quiet observes old new (job ∷ jobs) h name asks stderr_ok content says f =
    let one = says old h.0 job h.1 in
    let quiet = subst (λ (b : Bool). ReportsJob (asks old) b (stderr_ok h.0) (content old) (content h.0) job) f one.2 in
    let rest = still_quiet observes h.0 new jobs h.2 name asks stderr_ok content says quiet.0 in
    (rest.0 ∙ one.0, rest.1, rest.2 ∙ quiet.1)

-- the next job, and those after it
told_next : {S N : Type 0} (observes : S → S → FinishedJob → Type 0) (report_options : ReportOptions) (old new : S) (job : FinishedJob) (jobs : List FinishedJob) (h : ObservesAll observes old new (job ∷ jobs)) (name : S → N) (asks : S → ReportOptions) (stderr_ok : S → Bool) (content : S → Option (List ℕ))
    → ((a b : S) (job : FinishedJob) → observes a b job → (name b ≡ name a) × (asks b ≡ asks a) × ReportsJob (asks a) (stderr_ok a) (stderr_ok b) (content a) (content b) job)
    → asks old ≡ report_options → (before : List ℕ) (w : Option (List ℕ)) → WritesTo (stderr_ok old) w (content old) before
    → ((so_far : List ℕ) → WritesTo (stderr_ok h.0) w (content h.0) so_far → (name new ≡ name h.0) × (written : List ℕ) × AreReportedUnlessFailed (stderr_ok new) report_options jobs written × WritesTo (stderr_ok new) w (content new) (so_far ++ written))
    → (ok : Bool) → stderr_ok old ≡ ok
    → (name new ≡ name old) × (written : List ℕ) × AreReportedUnlessFailed (stderr_ok new) report_options (job ∷ jobs) written × WritesTo (stderr_ok new) w (content new) (before ++ written)
told_next observes report_options old new job jobs h name asks stderr_ok content says e before w s others true ok =
    let one = says old h.0 job h.1 in
    let said = subst (λ (b : Bool). ReportsJob (asks old) b (stderr_ok h.0) (content old) (content h.0) job) ok one.2 in
    let first = said.0 in
    let so_far = subst (λ (b : Bool). WritesTo b w (content old) before) ok s in
    let rest = others (before ++ first) (says_then (stderr_ok h.0) w (content old) (content h.0) before first so_far said.2) in
    let left = rest.2 in (
      rest.0 ∙ one.0,
      first ++ rest.1,
      (job ∷ left.0, left.1, ap (λ (l : List FinishedJob). job ∷ l) left.2, (first, rest.1, refl, subst (λ (a : ReportOptions). IsReport a job first) e said.1, left.3), left.4),
      subst (λ (l : List ℕ). WritesTo (stderr_ok new) w (content new) l) (append_assoc before first rest.1) rest.3,
    )
told_next observes report_options old new job jobs h name asks stderr_ok content says e before w s others false failed =
    let quiet = still_quiet observes old new (job ∷ jobs) h name asks stderr_ok content says failed in
    let none : stderr_ok new ≡ true → (job ∷ jobs) ≡ [] = λ ok. let bad : false ≡ true = sym quiet.1 ∙ ok in absurd cc in
    let same = subst (λ (b : Bool). WritesTo b w (content old) before) (failed ∙ sym quiet.1) s in
    (quiet.0, [], ([], job ∷ jobs, refl, refl, none), subst (λ (x : Option (List ℕ)). WritesTo (stderr_ok new) w x (before ++ [])) (sym quiet.2) (subst (λ (l : List ℕ). WritesTo (stderr_ok new) w (content old) l) (sym (append-nil before)) same))

-- the reports of jobs, by an observer that prints each where it is given the job
pub told_said : {S N : Type 0} (observes : S → S → FinishedJob → Type 0) (report_options : ReportOptions) (old new : S) (jobs : List FinishedJob) → ObservesAll observes old new jobs → (name : S → N) (asks : S → ReportOptions) (stderr_ok : S → Bool) (content : S → Option (List ℕ))
    → ((a b : S) (job : FinishedJob) → observes a b job → (name b ≡ name a) × (asks b ≡ asks a) × ReportsJob (asks a) (stderr_ok a) (stderr_ok b) (content a) (content b) job)
    → asks old ≡ report_options → (before : List ℕ) (w : Option (List ℕ)) → WritesTo (stderr_ok old) w (content old) before
    → (name new ≡ name old) × (written : List ℕ) × AreReportedUnlessFailed (stderr_ok new) report_options jobs written × WritesTo (stderr_ok new) w (content new) (before ++ written)
told_said {S = S} observes report_options old new [] h name asks stderr_ok content says e before w s =
    (ap name h, [], ([], [], refl, refl, λ ok. refl), subst (λ (x : S). WritesTo (stderr_ok x) w (content x) (before ++ [])) (sym h) (subst (λ (l : List ℕ). WritesTo (stderr_ok old) w (content old) l) (sym (append-nil before)) s))
told_said observes report_options old new (job ∷ jobs) h name asks stderr_ok content says e before w s =
    told_next observes report_options old new job jobs h name asks stderr_ok content says e before w s
    (λ so_far k. told_said observes report_options h.0 new jobs h.2 name asks stderr_ok content says ((says old h.0 job h.1).1 ∙ e) so_far w k) (stderr_ok old) refl

pub reports_still : (report_options : ReportOptions) (stderr_ok : Bool) (w : Option (List ℕ)) (job : FinishedJob) → stderr_ok ≡ false → ReportsJob report_options stderr_ok stderr_ok w w job
reports_still report_options stderr_ok w job e = rw e (refl, refl)

pub reports_now : (report_options : ReportOptions) (before stderr_ok : Bool) (w w1 : Option (List ℕ)) (job : FinishedJob) (lines : List ℕ) → before ≡ true → IsReport report_options job lines → WritesTo stderr_ok w w1 lines → ReportsJob report_options before stderr_ok w w1 job
reports_now report_options before stderr_ok w w1 job lines e r s = rw e (lines, r, s)

-- a report, part by part
pub reported_as_asked : (report_options : ReportOptions) (job : FinishedJob) (none stepped ruled block lines : List ℕ) → none ≡ []
    → stepped ≡ none ++ (if report_options.steps then step_line job else [])
    → ruled ≡ stepped ++ (if report_options.rules then rule_lines_of job.task else [])
    → IsExplained report_options.explain job block → lines ≡ ruled ++ block → IsReport report_options job lines
reported_as_asked report_options job none stepped ruled block lines n s r h e =
    let steps : List ℕ = if report_options.steps then step_line job else [] in
    let rules : List ℕ = if report_options.rules then rule_lines_of job.task else [] in
    let first : stepped ≡ steps = s ∙ ap (λ (l : List ℕ). l ++ steps) n in
    (block, e ∙ (ap (λ (l : List ℕ). l ++ block) (r ∙ ap (λ (l : List ℕ). l ++ rules) first) ∙ append_assoc steps rules block), h)

-- what is reported where one thing is asked for, or nothing

joined : (line first block rest lines stderr_ok : List ℕ) → stderr_ok ≡ first ++ rest → first ≡ line ++ block → block ≡ [] → rest ≡ lines → stderr_ok ≡ line ++ lines
joined line first block rest lines stderr_ok e f g h = e ∙ (ap (λ (l : List ℕ). l ++ rest) (f ∙ (ap (λ (l : List ℕ). line ++ l) g ∙ append-nil line)) ∙ ap (λ (l : List ℕ). line ++ l) h)

pub nothing_told : NothingIsReported
nothing_told [] octets h = h
nothing_told (job ∷ jobs) octets (first, rest, e, m, r) = joined [] first m.0 rest [] octets e m.1 m.2 (nothing_told jobs rest r)

pub steps_told : StepsAreReported
steps_told [] octets h = h
steps_told (job ∷ jobs) octets (first, rest, e, m, r) = joined (step_line job) first m.0 rest (step_lines jobs) octets e m.1 m.2 (steps_told jobs rest r)

pub rules_told : RulesAreReported
rules_told [] octets h = h
rules_told (job ∷ jobs) octets (first, rest, e, m, r) = joined (rule_lines_of job.task) first m.0 rest (rule_lines_of_jobs jobs) octets e m.1 m.2 (rules_told jobs rest r)

pub blocks_told : BlocksAreReported
blocks_told explaining [] octets h = h
blocks_told explaining (job ∷ jobs) octets (first, rest, e, m, r) = (first, rest, e, subst (λ (b : List ℕ). IsBlockOf explaining job.task b) (sym m.1) m.2, blocks_told explaining jobs rest r)

-- the end of a run

reported_end : (before after : Bool) (report_options : ReportOptions) (jobs : List FinishedJob) (written line : List ℕ) (w w1 : Option (List ℕ)) → WritesMore before after w w1 line → AreReportedUnlessFailed before report_options jobs written → AreReportedUnlessFailed after report_options jobs written
reported_end true after report_options jobs written line w w1 m r = (r.0, r.1, r.2, r.3, λ ok. r.4 refl)
reported_end false after report_options jobs written line w w1 m r =
    let none : after ≡ true → r.1 ≡ [] = λ ok. let bad : false ≡ true = sym m.0 ∙ ok in absurd cc in
    (r.0, r.1, r.2, r.3, none)

pub tells_end : (failed : Type 0) (exit : Exit) (stderr_ok : Bool) (end : Result Bool ProgramFault) (report_options : ReportOptions) (text : List ℕ) (all out out1 err err1 err2 : Option (List ℕ)) → exit.status ≡ status_of end
    → (jobs : List FinishedJob) × (written : List ℕ) × AreNumbered 0 jobs × IfSome all (AreJobsOfRun 0 (settings_in text) end jobs) × AreReportedUnlessFailed stderr_ok report_options jobs written × WritesTo stderr_ok err err1 written
    → WritesMore stderr_ok exit.stderr_ok err1 err2 (stderr_of end) → (octets : List ℕ) × Appends out out1 octets × IfSome all (Runs failed 0 (settings_in text) end octets) → Finishes failed exit 0 report_options text all out out1 err err2
tells_end failed exit stderr_ok end report_options text all out out1 err err1 err2 e s m h = (end, e, (s.0, s.1, s.2, s.3, reported_end stderr_ok exit.stderr_ok report_options s.0 s.1 (stderr_of end) err1 err2 m s.4, says_more stderr_ok exit.stderr_ok err err1 err2 s.1 (stderr_of end) s.5 m), h)

-- no job is started before a fault, nor with workers

none_at_fault : (workers : ℕ) (settings : Result Settings ProgramFault) (fault : ProgramFault) (input : List ℕ) → AreJobsOfRun workers settings (Err fault) [] input
none_at_fault zero (Ok settings) fault input = ([], commands input, record { opening = settings; past = [] }, [], record { opening = settings; past = [] }, ([], refl, (refl, refl)), refl, refl, tt)
none_at_fault zero (Err other) fault input = refl
none_at_fault (suc more) settings fault input = refl

if_known : (P : List ℕ → Type 0) (all : Option (List ℕ)) → ((input : List ℕ) → P input) → IfSome all P
if_known P None h = tt
if_known P (Some input) h = h input

none_beside : (workers : ℕ) (settings : Result Settings ProgramFault) (end : Result Bool ProgramFault) (input : List ℕ) → 1 ≤ workers → AreJobsOfRun workers settings end [] input
none_beside zero settings end input some = absurd (omega (arith, some))
none_beside (suc more) settings end input some = refl

-- those of a run under good settings
pub started_alone : (settings : Settings) (s : Result Settings ProgramFault) (end : Result Bool ServeFault) (jobs : List FinishedJob) (all : Option (List ℕ)) → s ≡ Ok settings → IfSome all (λ input. AreStartedBy settings end (commands input) jobs) → IfSome all (AreJobsOfRun 0 s (end_of end) jobs)
started_alone settings s end jobs None e h = tt
started_alone settings s (Ok passed) jobs (Some input) e h = rw e h
started_alone settings s (Err fault) jobs (Some input) e h = rw e h

-- no job is reported
pub quiet_end : (failed : Type 0) (exit : Exit) (end : Result Bool ProgramFault) (workers : ℕ) (report_options : ReportOptions) (text : List ℕ) (all out out1 err err1 : Option (List ℕ)) → exit.status ≡ status_of end → IfSome all (AreJobsOfRun workers (settings_in text) end []) → WritesTo exit.stderr_ok err err1 (stderr_of end)
    → (octets : List ℕ) × Appends out out1 octets × IfSome all (Runs failed workers (settings_in text) end octets) → Finishes failed exit workers report_options text all out out1 err err1
quiet_end failed exit end workers report_options text all out out1 err err1 e j m h = (end, e, ([], [], tt, j, ([], [], refl, refl, λ ok. refl), m), h)

-- with workers
pub beside_end : (failed : Type 0) (exit : Exit) (end : Result Bool ProgramFault) (workers : ℕ) (report_options : ReportOptions) (text : List ℕ) (all out out1 err err1 : Option (List ℕ)) → exit.status ≡ status_of end → 1 ≤ workers → WritesTo exit.stderr_ok err err1 (stderr_of end)
    → (octets : List ℕ) × Appends out out1 octets × IfSome all (Runs failed workers (settings_in text) end octets) → Finishes failed exit workers report_options text all out out1 err err1
beside_end failed exit end workers report_options text all out out1 err err1 e some m h =
    quiet_end failed exit end workers report_options text all out out1 err err1 e (if_known (AreJobsOfRun workers (settings_in text) end []) all (λ input. none_beside workers (settings_in text) end input some)) m h

-- settings that are no good
pub settings_end : (failed : Type 0) (exit : Exit) (fault : ProgramFault) (workers : ℕ) (report_options : ReportOptions) (text : List ℕ) (all out err err1 : Option (List ℕ)) → exit.status ≡ 2 → WritesTo exit.stderr_ok err err1 (fault_line (codes "pdregress") fault) → (settings_in text ≡ Err fault) ⊎ (fault ≡ Serving OutOfMemory)
    → Finishes failed exit workers report_options text all out out err err1
settings_end failed exit fault workers report_options text all out err err1 e m h =
    quiet_end failed exit (Err fault) workers report_options text all out out err err1 e (if_known (AreJobsOfRun workers (settings_in text) (Err fault) []) all (none_at_fault workers (settings_in text) fault)) m ([], appends_none out, settings_out failed workers fault (settings_in text) all h)

-- out of memory before anything is read
pub memory_ends : (failed : Type 0) (exit : Exit) (workers : ℕ) (report_options : ReportOptions) (text : List ℕ) (all out err err1 : Option (List ℕ)) → exit.status ≡ 2 → WritesTo exit.stderr_ok err err1 (fault_line (codes "pdregress") (Serving OutOfMemory)) → Finishes failed exit workers report_options text all out out err err1
memory_ends failed exit workers report_options text all out err err1 e h =
    quiet_end failed exit (Err (Serving OutOfMemory)) workers report_options text all out out err err1 e (if_known (AreJobsOfRun workers (settings_in text) (Err (Serving OutOfMemory)) []) all (none_at_fault workers (settings_in text) (Serving OutOfMemory))) h ([], appends_none out, memory_runs failed workers (settings_in text) all)

-- the same run, by equal arguments
pub finishes_by : (failed : Type 0) (exit : Exit) (n m : ℕ) (a b : ReportOptions) (t u : List ℕ) (all out out1 err err1 : Option (List ℕ)) → n ≡ m → a ≡ b → t ≡ u → Finishes failed exit n a t all out out1 err err1 → Finishes failed exit m b u all out out1 err err1
finishes_by failed exit n m a b t u all out out1 err err1 e f g h =
    subst (λ (x : ℕ). Finishes failed exit x b u all out out1 err err1) e (subst (λ (x : ReportOptions). Finishes failed exit n x u all out out1 err err1) f (subst (λ (x : List ℕ). Finishes failed exit n a x all out out1 err err1) g h))

-- what holds of a value holds of one that is the same
pub tied : {V : Type 0} (P : V → Type 0) (a b : V) → a ≡ b → P a → P b
tied P a b e p = subst P e p

-- of a run, the output alone
pub output_of : (failed : Type 0) (exit : Exit) (workers : ℕ) (report_options : ReportOptions) (text : List ℕ) (all out out1 err err1 : Option (List ℕ)) → Finishes failed exit workers report_options text all out out1 err err1 → FinishesOutput failed exit workers text all out out1
output_of failed exit workers report_options text all out out1 err err1 h = (h.0, h.1, h.3)
