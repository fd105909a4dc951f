-- The octets that are printed without workers may be printed beside them.
use Rattle.std.proofs.Common.{◌≡◌, inl, inr, ℕ, ◌+◌, nat_le, Bool, true, false, not, cond, List, [], ◌∷◌, ◌++◌, map, filter, Option, Some, None, option_map, is_some, Ok, refl, sym, ap, subst, ◌∙◌, append_assoc}
use Rattle.std.specs.Str.{bytes_eq}
use Rattle.pd_settings.specs.declared.settings.Settings.{Settings}
use Rattle.pd_settings.specs.declared.keys.Key.{Key}
use Rattle.pd_settings.specs.declared.values.Value.{Value}
use Rattle.pd_settings.specs.Keys.{key_named}
use Rattle.pd_book.specs.declared.act.Act.{Act}
use Rattle.pd_book.specs.declared.act.Act.TheVariants as act
use Rattle.pd_book.specs.declared.faults.BookFault.{BookFault}
use Rattle.pd_book.specs.declared.faults.BookFault.TheVariants as book
use Rattle.pd_book.specs.Acts.{NamedText, texts, present_text, now, set_to, edited_at}
use Rattle.pd_book.specs.Headline.{AreOrPending, RowsAreOfScratch, ScratchIsOne}
use Rattle.pd_book.specs.Refusals.{history_full_fault_unless_space_for, taken_room, or_else, refusal_if_name_bad_taken_or_too_many, line_edit_refusal, missing_refusal, refusal_if_key_unknown_or_value_bad}
use Rattle.pd_book.specs.Report.{shown, scratch}
use Rattle.pd_book.specs.History.{History, after_act}
use Rattle.pd_protocol.specs.Commands.{InputItem, does, stops, commands}
use Rattle.pd_protocol.specs.declared.command.Command.{Command}
use Rattle.pd_protocol.specs.declared.command.Command.TheVariants.{Add, Edit, Remove, Set, Show, Settle}
use Rattle.pd_cli.specs.Report.{rendered}
use Rattle.pd_cli.specs.Output.{refused, report, acted, effect, PrintsAlone}
use Rattle.pd_cli.specs.Sessions.{PrintsAll}
use Rattle.pd_cli.specs.Beside.{from_scratch, IsPartOf, MayAct, MayPrint}
use Rattle.pd_cli.specs.Laws.{Reaches, HaveSame, SettlesPrintScratch, AloneIsPossibleBeside, SessionsArePossibleBeside}
use Rattle.pd_cli.proofs.Sessions.{prints_then}
use Rattle.pd_cli.proofs.Written.{ok_same}

abbrev Possible : History → Command → List ℕ → History → Type 0
Possible accepted command printed after = (next : History) × MayPrint accepted command printed next × HaveSame after next

-- a full history is the only refusal of room
full_is : (more : ℕ) (history : History) (fault : BookFault) → history_full_fault_unless_space_for more history ≡ Some fault → fault ≡ book.HistoryFull
full_is more history fault e = go (nat_le (taken_room history + more) 65536) e
  where
    go : (b : Bool) → cond b None (Some book.HistoryFull) ≡ Some fault → fault ≡ book.HistoryFull
    go true k = absurd cc
    go false k = cc

possible_act : (history accepted after : History) (refusal : Option BookFault) (a : Option Act) (printed : List ℕ) → HaveSame history accepted → (refusal ≡ None → is_some a ≡ true) → ((x : Act) → HaveSame (after_act history x) (after_act accepted x))
    → acted history (or_else refusal (history_full_fault_unless_space_for 1 history)) a ≡ (printed, after) → (next : History) × MayAct accepted refusal a printed next × HaveSame after next
possible_act history accepted after (Some fault) a printed same some more e =
    let is : after ≡ history = sym (ap (λ (p : List ℕ × History). p.1) e) in
    (accepted, (sym (ap (λ (p : List ℕ × History). p.0) e), refl), rw is same)
possible_act history accepted after None None printed same some more e = let bad : false ≡ true = some refl in absurd cc
possible_act history accepted after None (Some x) printed same some more e = go (history_full_fault_unless_space_for 1 history) refl e
  where
    go : (room : Option BookFault) → history_full_fault_unless_space_for 1 history ≡ room → acted history room (Some x) ≡ (printed, after) → (next : History) × MayAct accepted None (Some x) printed next × HaveSame after next
    go None r k =
        let is : after ≡ after_act history x = sym (ap (λ (p : List ℕ × History). p.1) k) in
        (after_act accepted x, inl (sym (ap (λ (p : List ℕ × History). p.0) k), refl), rw is (more x))
    go (Some fault) r k =
        let is : after ≡ history = sym (ap (λ (p : List ℕ × History). p.1) k) in
        let line : printed ≡ refused book.HistoryFull = sym (ap (λ (p : List ℕ × History). p.0) k) ∙ ap refused (full_is 1 history fault r) in
        (accepted, inr (line, refl), rw is same)

-- an act changes the same scripts and settings alike
same_after_act : (history accepted : History) → HaveSame history accepted → (x : Act) → HaveSame (after_act history x) (after_act accepted x)
same_after_act history accepted same (act.Add name text) = (ap (λ (l : List NamedText). l ++ (name, text) ∷ []) same.0, same.1)
same_after_act history accepted same (act.Edit name edit) = (ap (map (edited_at name edit)) same.0, same.1)
same_after_act history accepted same (act.Remove name) = (ap (filter (λ (script : NamedText). not (bytes_eq name script.0))) same.0, same.1)
same_after_act history accepted same (act.Set key value) = (same.0, ap (λ (settings : Settings). set_to settings key value) same.1)
same_after_act history accepted same (act.Start number name) = same
same_after_act history accepted same (act.Finish number ruling) = same
same_after_act history accepted same (act.Abandon number) = same

set_some : (settings : Settings) (o : Option Key) (value : Value) → refusal_if_key_unknown_or_value_bad settings o value ≡ None → is_some (option_map (λ k. act.Set k value) o) ≡ true
set_some settings None value e = absurd cc
set_some settings (Some k) value e = refl

-- the law of one command
possible : ((scripts : List NamedText) → (settings : Settings) → ScratchIsOne scripts settings) → (history accepted after : History) (command : Command) (printed : List ℕ) → HaveSame history accepted → RowsAreOfScratch history.opening history.past (report history)
    → (command ≡ Settle → (printed ≡ rendered (scratch (texts history.past) (now history.opening history.past))) × HaveSame after history) → effect history command ≡ Ok (printed, after) → Possible accepted command printed after
possible one history accepted after (Add name None) printed same rows settles e = possible_act history accepted after (Some book.TooLarge) None printed same (λ n. absurd cc) (same_after_act history accepted same) (ok_same _ _ e)
possible one history accepted after (Edit name None) printed same rows settles e = possible_act history accepted after (Some book.TooLarge) None printed same (λ n. absurd cc) (same_after_act history accepted same) (ok_same _ _ e)
possible one history accepted after (Add name (Some text)) printed same rows settles e =
    let here : refusal_if_name_bad_taken_or_too_many history.past name ≡ refusal_if_name_bad_taken_or_too_many accepted.past name = rw same.0 refl in
    rw (← here) (possible_act history accepted after (refusal_if_name_bad_taken_or_too_many history.past name) (Some (act.Add name text)) printed same (λ n. refl) (same_after_act history accepted same) (ok_same _ _ e))
possible one history accepted after (Edit name (Some edit)) printed same rows settles e =
    let here : line_edit_refusal (present_text history.past name) edit ≡ line_edit_refusal (present_text accepted.past name) edit = rw same.0 refl in
    rw (← here) (possible_act history accepted after (line_edit_refusal (present_text history.past name) edit) (Some (act.Edit name edit)) printed same (λ n. refl) (same_after_act history accepted same) (ok_same _ _ e))
possible one history accepted after (Remove name) printed same rows settles e =
    let here : missing_refusal history.past name ≡ missing_refusal accepted.past name = rw same.0 refl in
    rw (← here) (possible_act history accepted after (missing_refusal history.past name) (Some (act.Remove name)) printed same (λ n. refl) (same_after_act history accepted same) (ok_same _ _ e))
possible one history accepted after (Set key value) printed same rows settles e =
    let here : refusal_if_key_unknown_or_value_bad (now history.opening history.past) (key_named key) value ≡ refusal_if_key_unknown_or_value_bad (now accepted.opening accepted.past) (key_named key) value = rw same.1 refl in
    rw (← here)
    (possible_act history accepted after (refusal_if_key_unknown_or_value_bad (now history.opening history.past) (key_named key) value) (option_map (λ k. act.Set k value) (key_named key)) printed same
    (set_some (now history.opening history.past) (key_named key) value) (same_after_act history accepted same) (ok_same _ _ e))
possible one history accepted after Show printed same rows settles e =
    let pair = ok_same (rendered (report history), history) (printed, after) e in
    let is : after ≡ history = sym (ap (λ (p : List ℕ × History). p.1) pair) in
    let parts : AreOrPending (report history).rows (from_scratch accepted).rows = rw (← same.0, ← same.1) rows in
    let part : IsPartOf accepted (report history) = (same.1, (from_scratch accepted, (one (texts accepted.past) (now accepted.opening accepted.past)).0, parts)) in
    (accepted, ((report history, part, sym (ap (λ (p : List ℕ × History). p.0) pair)), refl), rw is same)
possible one history accepted after Settle printed same rows settles e =
    let s = settles refl in
    (accepted, ((from_scratch accepted, (one (texts accepted.past) (now accepted.opening accepted.past)).0, s.0 ∙ rw (same.0, same.1) refl), refl), (s.1.0 ∙ same.0, s.1.1 ∙ same.1))

pub alone_possible : ((scripts : List NamedText) → (settings : Settings) → ScratchIsOne scripts settings) → ((opening : Settings) → (past : List Act) → RowsAreOfScratch opening past (shown opening past)) → SettlesPrintScratch → AloneIsPossibleBeside
alone_possible one rows settles settings input octets history rest command reaches printed after e accepted same =
    possible one history accepted after command printed same (rows history.opening history.past) settled e
  where
    settled : command ≡ Settle → (printed ≡ rendered (scratch (texts history.past) (now history.opening history.past))) × HaveSame after history
    settled c =
        let s = settles settings input octets history rest (subst (λ (x : Command). Reaches settings input octets history (does x ∷ rest)) c reaches) printed after (subst (λ (x : Command). effect history x ≡ Ok (printed, after)) c e) in
        (s.1, (s.0.same_texts, s.0.same_settings))

-- the law of items one after another
sessions_from : AloneIsPossibleBeside → (settings : Settings) (input octets : List ℕ) (before items rest : List InputItem) (done : List ℕ) (history now : History) (accepted : History) → commands input ≡ before ++ (items ++ rest)
    → PrintsAll PrintsAlone (record { opening = settings; past = [] }) before done now → HaveSame now accepted → PrintsAll PrintsAlone now items octets history → (next : History) × PrintsAll MayPrint accepted items octets next × HaveSame history next
sessions_from law settings input octets before [] rest done history now accepted split d same h = (accepted, (h.0, refl), rw h.1 same)
sessions_from law settings input octets before (stops fault ∷ items) rest done history now accepted split d same h = absurd h
sessions_from law settings input octets before (does command ∷ items) rest done history now accepted split d same h =
    let (printed, more, after, e, k, is) = h in
    let one = law settings input done now (items ++ rest) command (before, split, d) printed after e accepted same in
    let others = sessions_from law settings input more (before ++ does command ∷ []) items rest (done ++ printed) history after one.0 (split ∙ sym (append_assoc before (does command ∷ []) (items ++ rest))) (prints_then PrintsAlone (record { opening = settings; past = [] }) now after before command done printed d e) one.2 k in
    (others.0, (printed, more, one.0, one.1, others.1, is), others.2)

pub sessions_possible : AloneIsPossibleBeside → SessionsArePossibleBeside
sessions_possible law settings input octets history rest reaches =
    let opened : History = record { opening = settings; past = [] } in
    let all = sessions_from law settings input octets [] reaches.0 rest [] history opened opened reaches.1 (refl, refl) (refl, refl) reaches.2 in
    (all.0, (reaches.0, reaches.1, all.1), all.2)
