-- The octets that are written by the grammar are just the output.
use Rattle.std.proofs.Common.{◌≡◌, ◌⊎◌, inl, inr, ℕ, ◌+◌, ◌≤◌, Bool, true, false, cond, List, [], ◌∷◌, ◌++◌, map, Option, Some, None, is_some, Result, Ok, Err, refl, sym, ap, subst, ◌∙◌, append_assoc, append-nil, arith, zero, suc}
use Rattle.std.specs.List.{AllByRecursion, All}
use Rattle.std.specs.Str.Lines.{lines}
use Rattle.std.proofs.lemmas.List.Elements.{All-map, All-from_recursion, All-head, All-tail}
use Rattle.pd_settings.specs.declared.settings.Settings.{Settings}
use Rattle.pd_run.specs.declared.verdict.Verdict.{Verdict}
use Rattle.pd_run.specs.Run.{verdict_of}
use Rattle.pd_track.specs.declared.task.Task.{Task}
use Rattle.pd_book.specs.declared.act.Act.{Act}
use Rattle.pd_book.specs.declared.faults.BookFault.{BookFault}
use Rattle.pd_book.specs.declared.report.Row.{Row}
use Rattle.pd_book.specs.Acts.{NamedText, texts, now, next, answered, jobs}
use Rattle.pd_book.specs.Legal.{Legal}
use Rattle.pd_book.specs.Headline.{AreOrPending, RowsAreOfWhole, ScratchIsOne, pending}
use Rattle.pd_book.specs.Refusals.{next_job, start_refusal}
use Rattle.pd_book.specs.Report.{ReportView, row, shown, scratch_row, scratch, owed}
use Rattle.pd_book.specs.History.{History}
use Rattle.pd_book.specs.Turns.{turn, after_turn, settled_in, settled, IsAtRest, TurnsSettle, TurnsSuffice}
use Rattle.pd_protocol.specs.Commands.{InputItem, does, stops, commands}
use Rattle.pd_protocol.specs.declared.command.Command.{Command}
use Rattle.pd_protocol.specs.declared.command.Command.TheVariants.{Add, Edit, Remove, Set, Show, Settle}
use Rattle.pd_protocol.specs.declared.faults.ServeFault.{ServeFault}
use Rattle.pd_protocol.specs.declared.faults.ServeFault.TheVariants.{HistoryFull, NoWorkers, Differs, BadCommand, Truncated, Read, Write, OutOfMemory}
use Rattle.pd_cli.specs.Grammatical.{IsReportOf, IsRefusedStart, Prints, Stops, WritesUpTo, WritesPart, Writes}
use Rattle.pd_cli.specs.Laws.{WritesAreOutput}
use Rattle.pd_cli.specs.Output.{Session, ahead, follow, outcome, output, report, reported, effect, PrintsAlone, all_pass, Answers}
use Rattle.pd_cli.specs.Report.{rendered}
use Rattle.pd_cli.specs.Sessions.{PrintsAll, PrintsFirst}
use Rattle.pd_cli.proofs.Passage.{BookLaws, AllFit, fit_front, items_fit, lines_are_lines, rest_after, rest_by, reported_ok, settled_rest}
use Rattle.pd_cli.proofs.Settled.{settled_end}
use Rattle.pd_cli.proofs.Written.{ok_same, first_outcome}

-- what all this rests on
pub record Laws : Type 0 where
  pub book : BookLaws
  pub parts : (opening : Settings) → (past : List Act) → RowsAreOfWhole opening past (shown opening past)
  pub one : (scripts : List NamedText) → (settings : Settings) → ScratchIsOne scripts settings
  pub turns : (opening : Settings) → (past : List Act) → Legal opening past → TurnsSettle opening past
  pub enough : (history : History) → IsAtRest history → TurnsSuffice history

-- ---- the report as it stands

some_cond : (b : Bool) (v : Verdict) → is_some (cond b (Some v) None) ≡ b
some_cond true v = refl
some_cond false v = refl

rows_answered : (opening : Settings) (past : List Act) → All (λ (r : Row). is_some r.verdict ≡ answered past r.name) (shown opening past).rows
rows_answered opening past = All-map (λ (r : Row). is_some r.verdict ≡ answered past r.name) (row opening past) (texts past) (All-from_recursion _ (texts past) (each (texts past)))
  where
    each : (ps : List NamedText) → AllByRecursion (λ (p : NamedText). is_some (row opening past p).verdict ≡ answered past (row opening past p).name) ps
    each [] = tt
    each (p ∷ ps) = (some_cond (answered past p.0) (verdict_of p.1 (now opening past)), each ps)

is_report : Laws → (history : History) → IsReportOf history (report history)
is_report laws history = ((refl, laws.parts history.opening history.past), rows_answered history.opening history.past)

-- ---- a command

-- no script waits where nothing is owed
no_next : (history : History) → TurnsSettle history.opening history.past → jobs history.opening history.past ≡ [] → owed history.opening history.past ≡ 0 → next_job history ≡ None
no_next history law none zero_owed = go (next history.past) refl
  where
    some : (task : Task) → next_job history ≡ Some task → ⊥
    some task n = let less = (law task none n).0 in omega (arith, less, zero_owed)

    go : (o : Option NamedText) → next history.past ≡ o → next_job history ≡ None
    go None e = rw e refl
    go (Some script) e = let t : (task : Task) × (next_job history ≡ Some task) = rw e (_, refl) in absurd (some t.0 t.1)

prints_alone : Laws → (history after : History) (command : Command) (octets : List ℕ) → IsAtRest history → effect history command ≡ Ok (octets, after) → Prints history command octets after
prints_alone laws history after (Add name text) octets q e = ok_same _ _ e
prints_alone laws history after (Edit name edit) octets q e = ok_same _ _ e
prints_alone laws history after (Remove name) octets q e = ok_same _ _ e
prints_alone laws history after (Set key value) octets q e = ok_same _ _ e
prints_alone laws history after Show octets q e =
    let pair = ok_same (rendered (report history), history) (octets, after) e in
    ((report history, is_report laws history, sym (ap (λ (p : List ℕ × History). p.0) pair)), sym (ap (λ (p : List ℕ × History). p.1) pair))
prints_alone laws history after Settle octets q e =
    let r = reported_ok (settled history) octets after e in
    let s = settled_rest laws.book history after q r.0 in
    let whole = (laws.one (texts history.past) (now history.opening history.past)).0 in (
      (scratch (texts history.past) (now history.opening history.past), whole, r.1 ∙ ap rendered s.report),
      (owed history.opening history.past, r.0, no_next after (laws.turns after.opening after.past s.rest.legal) s.rest.none s.none_owed),
    )

-- only a settle that is refused a start has no reply
refused_effect : (history : History) (command : Command) (fault : ServeFault) → effect history command ≡ Err fault → (command ≡ Settle) × (fault ≡ HistoryFull) × IsRefusedStart history
refused_effect history (Add name text) fault e = absurd cc
refused_effect history (Edit name edit) fault e = absurd cc
refused_effect history (Remove name) fault e = absurd cc
refused_effect history (Set key value) fault e = absurd cc
refused_effect history Show fault e = absurd cc
refused_effect history Settle fault e = go (settled history) refl e
  where
    go : (r : Result History BookFault) → settled history ≡ r → reported r ≡ Err fault → (◌≡◌ {A = Command} Settle Settle) × (fault ≡ HistoryFull) × IsRefusedStart history
    go (Ok s) k f = absurd cc
    go (Err x) k f = let same : fault ≡ HistoryFull = cc in (refl, same, (owed history.opening history.past, x, k))

-- ---- a session

-- where serving comes to an end
abbrev EndsSo : Result Bool ServeFault → History → List InputItem → Type 0
EndsSo (Ok passed) here left = (left ≡ []) × (passed ≡ all_pass (report here))
EndsSo (Err fault) here left = Stops fault here left

-- how far serving comes
abbrev Comes : History → List InputItem → Session → Type 0
Comes history items session =
    (octets : List ℕ) × (here : History) × (left : List InputItem) × PrintsFirst Prints history items octets here left × (session.written ≡ octets) × EndsSo session.end here left

comes : Laws → (items : List InputItem) (history : History) → AllFit items → IsAtRest history → Comes history items (outcome history items)
comes laws [] history f q = ([], history, [], ([], refl, (refl, refl)), refl, (refl, refl))
comes laws (stops fault ∷ items) history f q = ([], history, stops fault ∷ items, ([], refl, (refl, refl)), refl, (items, inl refl))
comes laws (does command ∷ items) history f q = go (effect history command) refl (λ after rest. comes laws items after f.1 rest)
  where
    go : (r : Result (List ℕ × History) ServeFault) → effect history command ≡ r → ((after : History) → IsAtRest after → Comes after items (outcome after items)) → Comes history (does command ∷ items) (follow r (λ after. outcome after items))
    go (Err fault) e others =
        let s = refused_effect history command fault e in
        ([], history, does command ∷ items, ([], refl, (refl, refl)), refl, (items, inr (ap (λ (c : Command). does c ∷ items) s.0, s.1, s.2)))
    go (Ok (printed, after)) e others =
        let p = prints_alone laws history after command printed q e in
        let more = others after (rest_after laws.book history after command printed q f.0 e) in
        let (first, split, prints) = more.3 in
        (printed ++ more.0, more.1, more.2, (does command ∷ first, ap (λ (l : List InputItem). does command ∷ l) split, (printed, more.0, after, p, prints, refl)), ap (λ (l : List ℕ). printed ++ l) more.4, more.5)

up_to : (fault : ServeFault) (octets : List ℕ) (history : History) (items : List InputItem) (session : Session) → Comes history items session → session.written ≡ octets → session.end ≡ Err fault → WritesUpTo fault octets history items
up_to fault octets history items session c w e = (
  c.1,
  c.2,
  subst (λ (o : List ℕ). PrintsFirst Prints history items o c.1 c.2) (sym c.4 ∙ w) c.3,
  subst (λ (r : Result Bool ServeFault). EndsSo r c.1 c.2) e c.5,
)

part : (octets : List ℕ) (history : History) (items : List InputItem) (session : Session) → Comes history items session → (more : List ℕ) × (session.written ≡ octets ++ more) → WritesPart octets history items
part octets history items session c m = (m.0, c.1, c.2, subst (λ (o : List ℕ). PrintsFirst Prints history items o c.1 c.2) (sym c.4 ∙ m.1) c.3)

whole : (items first left : List InputItem) → items ≡ first ++ left → left ≡ [] → first ≡ items
whole items first left e f = sym (e ∙ (ap (λ (l : List InputItem). first ++ l) f ∙ append-nil first))

writes : Laws → (end : Result Bool ServeFault) (octets : List ℕ) (history : History) (items : List InputItem) (session : Session) → Comes history items session → Answers end octets session → Writes end octets history items
writes laws (Ok passed) octets history items session c a =
    let ends : EndsSo (Ok passed) c.1 c.2 = subst (λ (r : Result Bool ServeFault). EndsSo r c.1 c.2) a.1 c.5 in
    let (first, split, prints) = c.3 in
    let all = subst (λ (o : List ℕ). PrintsAll Prints history first o c.1) (sym c.4 ∙ a.0) prints in
    (c.1, report c.1, subst (λ (l : List InputItem). PrintsAll Prints history l octets c.1) (whole items first c.2 split ends.0) all, is_report laws c.1, ends.1)
writes laws (Err HistoryFull) octets history items session c a = up_to HistoryFull octets history items session c a.0 a.1
writes laws (Err BadCommand) octets history items session c a = up_to BadCommand octets history items session c a.0 a.1
writes laws (Err Truncated) octets history items session c a = up_to Truncated octets history items session c a.0 a.1
writes laws (Err Read) octets history items session c a = part octets history items session c a
writes laws (Err Write) octets history items session c a = part octets history items session c a
writes laws (Err OutOfMemory) octets history items session c a = part octets history items session c a
writes laws (Err NoWorkers) octets history items session c a = absurd a
writes laws (Err Differs) octets history items session c a = absurd a

output_written : Laws → (settings : Settings) (input octets : List ℕ) (end : Result Bool ServeFault) → Answers end octets (output settings input) → Writes end octets (record { opening = settings; past = [] }) (commands input)
output_written laws settings input octets end a =
    let opened : History = record { opening = settings; past = [] } in
    writes laws end octets opened (commands input) (output settings input) (comes laws (commands input) opened (items_fit (lines input) 0 (lines_are_lines input)) (record { legal = tt; none = refl })) a

-- ---- and nothing else is

-- rows that are pending or those from scratch, of which just those of answered scripts have a verdict
rows_one : (opening : Settings) (past : List Act) (rows : List Row) (ps : List NamedText) → AreOrPending rows (map (scratch_row (now opening past)) ps) → All (λ (r : Row). is_some r.verdict ≡ answered past r.name) rows → rows ≡ map (row opening past) ps
rows_one opening past [] [] h a = refl
rows_one opening past [] (p ∷ ps) h a = absurd h
rows_one opening past (r ∷ rows) [] h a = absurd h
rows_one opening past (r ∷ rows) (p ∷ ps) h a =
    let first = one h.0 (All-head (λ (x : Row). is_some x.verdict ≡ answered past x.name) r rows a) in
    let rest = rows_one opening past rows ps h.1 (All-tail (λ (x : Row). is_some x.verdict ≡ answered past x.name) r rows a) in
    ap (λ (x : Row). x ∷ rows) first ∙ ap (λ (l : List Row). row opening past p ∷ l) rest
  where
    by : Bool → Row
    by b = record { name = p.0; text = p.1; verdict = cond b (Some (verdict_of p.1 (now opening past))) None }

    one : (r ≡ scratch_row (now opening past) p) ⊎ (r ≡ pending (scratch_row (now opening past) p)) → is_some r.verdict ≡ answered past r.name → r ≡ row opening past p
    one (inl e) k =
        let b : true ≡ answered past p.0 = subst (λ (x : Row). is_some x.verdict ≡ answered past x.name) e k in
        e ∙ ap by b
    one (inr e) k =
        let b : false ≡ answered past p.0 = subst (λ (x : Row). is_some x.verdict ≡ answered past x.name) e k in
        e ∙ ap by b

shown_one : Laws → (history : History) (shows : ReportView) → IsReportOf history shows → shows ≡ report history
shown_one laws history shows ((under, (all, is, parts)), given) =
    let same : all ≡ scratch (texts history.past) (now history.opening history.past) = (laws.one (texts history.past) (now history.opening history.past)).1 all is in
    let rows = rows_one history.opening history.past shows.rows (texts history.past) (subst (λ (r : ReportView). AreOrPending shows.rows r.rows) same parts) given in
    ap (λ (settings : Settings). record { settings = settings; rows = shows.rows }) under ∙ ap (λ (l : List Row). record { settings = now history.opening history.past; rows = l }) rows

-- more turns than come to an end give nothing more
more_turns : (t n : ℕ) (history : History) (end : Result History BookFault) (o : Option Task) (f : Option BookFault) → turn history o f (λ next. settled_in t next) ≡ end
    → ((task : Task) → settled_in t (after_turn history task) ≡ end → settled_in n (after_turn history task) ≡ end) → turn history o f (λ next. settled_in n next) ≡ end
more_turns t n history end None f e h = e
more_turns t n history end (Some task) (Some fault) e h = e
more_turns t n history end (Some task) None e h = h task e

-- the end of settling: no script waits, or a start is refused
abbrev IsEnd : Result History BookFault → Type 0
IsEnd (Ok after) = next_job after ≡ None
IsEnd (Err fault) = Unit {0}

ended_at : (n : ℕ) (history : History) (end : Result History BookFault) → Ok history ≡ end → IsEnd end → settled_in n history ≡ end
ended_at n history (Ok after) e h = let same : history ≡ after = ok_same history after e in settled_end n history (ap next_job same ∙ h) ∙ e
ended_at n history (Err fault) e h = absurd cc

up_to_end : (t n : ℕ) (history : History) (end : Result History BookFault) → settled_in t history ≡ end → IsEnd end → t ≤ n → settled_in n history ≡ end
up_to_end zero n history end e h le = ended_at n history end e h
up_to_end (suc t) zero history end e h le = absurd (omega (arith, le))
up_to_end (suc t) (suc n) history end e h le =
    let less : t ≤ n = omega (arith, le) in
    more_turns t n history end (next_job history) (start_refusal history) e (λ task k. up_to_end t n (after_turn history task) end k h less)

settled_one : Laws → (history : History) (t : ℕ) (end : Result History BookFault) → IsAtRest history → settled_in t history ≡ end → IsEnd end → settled history ≡ end
settled_one laws history t end q e h = go (t + owed history.opening history.past) (omega arith) (omega arith)
  where
    go : (n : ℕ) → owed history.opening history.past ≤ n → t ≤ n → settled history ≡ end
    go n enough less = sym (laws.enough history q n enough) ∙ up_to_end t n history end e h less

alone_prints : Laws → (history after : History) (command : Command) (octets : List ℕ) → IsAtRest history → Prints history command octets after → effect history command ≡ Ok (octets, after)
alone_prints laws history after (Add name text) octets q p = ap (λ (d : List ℕ × History). Ok d) p
alone_prints laws history after (Edit name edit) octets q p = ap (λ (d : List ℕ × History). Ok d) p
alone_prints laws history after (Remove name) octets q p = ap (λ (d : List ℕ × History). Ok d) p
alone_prints laws history after (Set key value) octets q p = ap (λ (d : List ℕ × History). Ok d) p
alone_prints laws history after Show octets q ((shows, is, printed), same) =
    let line : octets ≡ rendered (report history) = printed ∙ ap rendered (shown_one laws history shows is) in
    rw (line, same) refl
alone_prints laws history after Settle octets q ((all, is, printed), (t, e, none)) =
    let end : settled history ≡ Ok after = settled_one laws history t (Ok after) q e none in
    let s = settled_rest laws.book history after q end in
    let line : octets ≡ rendered (report after) = printed ∙ ap rendered ((laws.one (texts history.past) (now history.opening history.past)).1 all is ∙ sym s.report) in
    ap reported end ∙ rw line refl

prints_back : Laws → (items : List InputItem) (history after : History) (octets : List ℕ) → AllFit items → IsAtRest history → PrintsAll Prints history items octets after → PrintsAll PrintsAlone history items octets after
prints_back laws [] history after octets f q h = h
prints_back laws (stops fault ∷ items) history after octets f q h = absurd h
prints_back laws (does command ∷ items) history after octets f q (printed, rest, next, p, others, e) =
    let a = alone_prints laws history next command printed q p in
    (printed, rest, next, a, prints_back laws items next after rest f.1 (rest_after laws.book history next command printed q f.0 a) others, e)

-- the outcome of items of which the first print these octets
outcome_on : Laws → (items left : List InputItem) (history here : History) (octets : List ℕ) → AllFit items → IsAtRest history → PrintsFirst Prints history items octets here left → IsAtRest here × (outcome history items ≡ ahead octets (outcome here left))
outcome_on laws items left history here octets f q (first, split, prints) =
    let fit : AllFit first = fit_front first left (subst AllFit split f) in
    let alone = prints_back laws first history here octets fit q prints in
    (rest_by laws.book first history here octets fit q alone, first_outcome PrintsAlone (λ s. s) (λ a b command printed e. e) history here items left octets (first, split, alone))

stopped : Laws → (fault : ServeFault) (here : History) (left : List InputItem) → IsAtRest here → Stops fault here left → outcome here left ≡ record { written = []; end = Err fault }
stopped laws fault here left q (rest, inl e) = ap (outcome here) e
stopped laws fault here left q (rest, inr (e, is, (t, x, k))) =
    let end = settled_one laws here t (Err x) q k tt in
    ap (outcome here) e ∙ (ap (λ (r : Result History BookFault). follow (reported r) (λ next. outcome next rest)) end ∙ ap (λ (y : ServeFault). record { written = []; end = Err y }) (sym is))

back_up_to : Laws → (fault : ServeFault) (octets : List ℕ) (history : History) (items : List InputItem) → AllFit items → IsAtRest history → WritesUpTo fault octets history items → ((outcome history items).written ≡ octets) × ((outcome history items).end ≡ Err fault)
back_up_to laws fault octets history items f q (here, left, first, stop) =
    let (rest, on) = outcome_on laws items left history here octets f q first in
    let is = on ∙ ap (ahead octets) (stopped laws fault here left rest stop) in
    (ap (λ (o : Session). o.written) is ∙ append-nil octets, ap (λ (o : Session). o.end) is)

back_part : Laws → (octets : List ℕ) (history : History) (items : List InputItem) → AllFit items → IsAtRest history → WritesPart octets history items → (more : List ℕ) × ((outcome history items).written ≡ octets ++ more)
back_part laws octets history items f q (more, here, left, first) =
    let (rest, on) = outcome_on laws items left history here (octets ++ more) f q first in
    (more ++ (outcome here left).written, ap (λ (o : Session). o.written) on ∙ append_assoc octets more (outcome here left).written)

answers : Laws → (end : Result Bool ServeFault) (octets : List ℕ) (history : History) (items : List InputItem) → AllFit items → IsAtRest history → Writes end octets history items → Answers end octets (outcome history items)
answers laws (Ok passed) octets history items f q (after, shows, prints, is, p) =
    let (rest, on) = outcome_on laws items [] history after octets f q (items, sym (append-nil items), prints) in
    let passes : passed ≡ all_pass (report after) = p ∙ ap all_pass (shown_one laws after shows is) in
    (ap (λ (o : Session). o.written) on ∙ append-nil octets, ap (λ (o : Session). o.end) on ∙ ap (λ (b : Bool). Ok b) (sym passes))
answers laws (Err HistoryFull) octets history items f q w = back_up_to laws HistoryFull octets history items f q w
answers laws (Err BadCommand) octets history items f q w = back_up_to laws BadCommand octets history items f q w
answers laws (Err Truncated) octets history items f q w = back_up_to laws Truncated octets history items f q w
answers laws (Err Read) octets history items f q w = back_part laws octets history items f q w
answers laws (Err Write) octets history items f q w = back_part laws octets history items f q w
answers laws (Err OutOfMemory) octets history items f q w = back_part laws octets history items f q w
answers laws (Err NoWorkers) octets history items f q w = absurd w
answers laws (Err Differs) octets history items f q w = absurd w

pub writes_output : Laws → WritesAreOutput
writes_output laws settings input octets end = (
  λ w. answers laws end octets (record { opening = settings; past = [] }) (commands input) (items_fit (lines input) 0 (lines_are_lines input)) (record { legal = tt; none = refl }) w,
  λ a. output_written laws settings input octets end a,
)
