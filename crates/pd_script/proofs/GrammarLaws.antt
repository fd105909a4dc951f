-- Each part of the grammar is read.
use Rattle.std.proofs.Common.{◌≡◌, ℕ, ◌≤◌, Bool, true, false, List, [], ◌∷◌, ◌++◌, Some, None, Ok, refl, ap, subst, ◌∙◌, arith}
use Rattle.std.specs.Prelude.{not, ◌||◌, nat_le, nat_lt, ⊤}
use Rattle.std.proofs.lemmas.Bool.Decides.{nat_tests}
use Rattle.pd_lex.specs.declared.token.TokenKind.{TokenKind}
use Rattle.pd_lex.specs.declared.token.TokenKind.TheVariants as kinds
use Rattle.pd_lex.specs.Tokens.{Item, lexeme, ending, bad, line_of}
use Rattle.pd_script.specs.Items.{is_next_int_within_u32, is_next_hex_within_u32, is_num, is_num_from, is_dots, is_command, is_code, is_word, is_symbol, is_int_kind, is_hex_kind, is_num_kind, is_dots_kind, is_command_kind, is_code_kind, is_word_kind, is_symbol_kind, is_end, starts_event, starts_event_or_end, text_of}
use Rattle.pd_script.specs.Values.{saturated_hex_number, microseconds, error_by_name_or_unknown, function_by_name_or_unknown}
use Rattle.pd_script.specs.Reader.{done, one, when, machine_at}
use Rattle.pd_script.specs.ArgumentReading.{note_move}
use Rattle.pd_script.specs.TokenReading.{symbol_at, int_at, dots_at}
use Rattle.pd_script.specs.EventReading.{hex_at, num_at, num_from_at, function_at, error_at, absolute_range_at, absolute_at, plus_num_from_at, relative_range_at, relative_at, any_time_at, time_at, relative_blocking_end_at, absolute_blocking_end_at, blocking_end_at, maybe_blocking_end_at, whole_at, hexadecimal_at, named_error_at, negative_at, expected_result_at, arguments_at, note_at, maybe_note_at, call_at, call_action_at, command_at, code_at, inbound_at, outbound_at, action_at, event_at}
use Rattle.pd_script.specs.PacketReading.{packet_at}
use Rattle.pd_script.specs.PacketGrammar.{IsPacket}
use Rattle.pd_script.specs.Spelling.{Spelling, token, made, in_turn, either, IsSymbol, IsInt, IsDots}
use Rattle.pd_script.specs.Grammar.{IsHex, IsNum, IsNumFrom, IsFunction, IsErrorName, IsAbsoluteRange, IsAbsolute, IsPlusNumFrom, IsRelativeRange, IsRelative, IsAnyTime, IsTime, IsRelativeBlockingEnd, IsAbsoluteBlockingEnd, IsBlockingEnd, IsMaybeBlockingEnd, IsWhole, IsHexadecimal, IsNegative, IsExpectedResult, IsCall, IsCallAction, IsCommand, IsCode, IsInbound, IsOutbound, IsAction, IsEvent}
use Rattle.pd_script.specs.Arguments.{IsArguments, IsNote}
use Rattle.pd_script.specs.declared.timing.Time.TheVariants as times
use Rattle.pd_script.specs.declared.timing.BlockingEnd.TheVariants as blocking_ends
use Rattle.pd_script.specs.declared.calls.ExpectedResult.TheVariants as expected_results
use Rattle.pd_script.specs.declared.script_events.Action.TheVariants as actions
use Rattle.pd_script.proofs.Laws.{any}
use Rattle.pd_script.proofs.Matches.{Reads, Reads-one, Reads-bind, Reads-bind_if, Reads-done, Reads-when, Reads-optional}
use Rattle.pd_script.proofs.Apart.{IsOf, no_kind, and-left, and-right, or-left, or-right, or-elim, or-elim-no, not-true, not-false, apart, int_kind, hex_kind, num_kind, dots_kind, command_kind, code_kind, word_kind, symbol_kind, symbol_apart, symbol_no_word, end_no_token}
use Rattle.pd_script.proofs.ArgumentLaws.{a_token, a_word, Laws-arguments}
use Rattle.pd_script.proofs.ArgumentSound.{arguments_sound, arguments_complete, arguments_take}
use Rattle.pd_script.proofs.NoteLaws.{IsInNote, Reads-in_note}
use Rattle.pd_script.proofs.TokenLaws.{all, but, last, tail, symbol, int, dots, NoStart, goes_on_not, symbol_no_start}
use Rattle.pd_script.proofs.PacketLaws.{Reads-packet}

hex : Reads hex_at IsHex is_next_hex_within_u32 any
hex = last (one is_next_hex_within_u32) (λ t. saturated_hex_number (text_of t)) (token is_next_hex_within_u32) is_next_hex_within_u32 any (Reads-one is_hex_kind is_next_hex_within_u32 (a_token kinds.Hex (48 ∷ 120 ∷ 48 ∷ [])) hex_kind refl refl)

num : Reads num_at IsNum is_num any
unfolding microseconds
num = last (one is_num) (λ t. (line_of t, microseconds (text_of t))) (token is_num) is_num any (Reads-one is_num_kind is_num (a_token kinds.Int (48 ∷ [])) num_kind refl refl)

-- 4294967295.999999, the greatest
greatest_num : Item
greatest_num = a_token kinds.Decimal (52 ∷ 50 ∷ 57 ∷ 52 ∷ 57 ∷ 54 ∷ 55 ∷ 50 ∷ 57 ∷ 53 ∷ 46 ∷ 57 ∷ 57 ∷ 57 ∷ 57 ∷ 57 ∷ 57 ∷ [])

num_from_kind : (least : ℕ) → IsOf is_num_kind (is_num_from least)
num_from_kind least = record { kind = λ x h. num_kind.kind x (and-left (is_num x) _ h) }

num_from : (least : ℕ) → least ≤ 4294967295999999 → Reads (num_from_at least) (IsNumFrom least) (is_num_from least) any
unfolding microseconds greatest_num
num_from least h =
    let reached : nat_le least 4294967295999999 ≡ true = grind (arith, nat_tests) in
    last (one (is_num_from least)) (λ t. microseconds (text_of t)) (token (is_num_from least)) (is_num_from least) any (Reads-one is_num_kind (is_num_from least) greatest_num (num_from_kind least) reached refl)

num_bound : (t : Item) → is_num t ≡ true → microseconds (text_of t) ≤ 4294967295999999
num_bound (lexeme x) h =
    let below : nat_lt (microseconds x.text) 4294967296000000 ≡ true = and-right (is_num_kind x.kind) _ h in
    grind (arith, nat_tests)
num_bound (ending line) h = absurd cc
num_bound (bad line) h = absurd cc

-- a number that was read has its bound
num_small : (ts : List Item) (v : ℕ × ℕ) (rest : List Item) → IsNum v ts rest → v.1 ≤ 4294967295999999
num_small ts v rest h = subst (λ (x : ℕ × ℕ). x.1 ≤ 4294967295999999) h.3.0 (num_bound h.0 h.2.1)

function : Reads function_at IsFunction is_word any
function = last (one is_word) (λ t. function_by_name_or_unknown (text_of t)) (token is_word) is_word any (Reads-one is_word_kind is_word a_word word_kind refl refl)

error_name : Reads error_at IsErrorName is_word any
error_name = last (one is_word) (λ t. error_by_name_or_unknown (text_of t)) (token is_word) is_word any (Reads-one is_word_kind is_word a_word word_kind refl refl)

-- ---- times

pub num_no_plus : (t : Item) → is_num t ≡ true → is_symbol 43 t ≡ false
num_no_plus = apart is_num_kind is_symbol_kind is_num (is_symbol 43) refl num_kind (symbol_kind 43)

pub num_no_star : (t : Item) → is_num t ≡ true → is_symbol 42 t ≡ false
num_no_star = apart is_num_kind is_symbol_kind is_num (is_symbol 42) refl num_kind (symbol_kind 42)

pub starts_number : Item → Bool
starts_number t = is_num t || is_symbol 43 t

abbrev but_tilde : Item → Bool
but_tilde = but (is_symbol 126)

Reads-absolute_range : (n : ℕ × ℕ) → n.1 ≤ 4294967295999999 → Reads (absolute_range_at n.0 n.1) (IsAbsoluteRange n.0 n.1) (is_symbol 126) but_tilde
Reads-absolute_range n h =
    Reads-bind (symbol_at 126) _ (IsSymbol "~") _ (is_symbol 126) any (is_num_from n.1) but_tilde (symbol 126 refl refl)
    (λ tilde. last (num_from_at n.1) (λ m. (n.0, times.AbsoluteRange n.1 m)) (IsNumFrom n.1) (is_num_from n.1) but_tilde (num_from n.1 h))
    (all (is_num_from n.1))

Reads-absolute : Reads absolute_at IsAbsolute is_num but_tilde
Reads-absolute =
    Reads-bind_if num_at _ IsNum _ (λ n. n.1 ≤ 4294967295999999) is_num any any but_tilde num_small num
    (λ n h. tail (is_symbol 126) (absolute_range_at n.0 n.1) (IsAbsoluteRange n.0 n.1) (n.0, times.Absolute n.1) (Reads-absolute_range n h) (λ w rest e. absurd cc))
    (all any)

num_from_no_plus : (least : ℕ) (t : Item) → is_num_from least t ≡ true → is_symbol 43 t ≡ false
num_from_no_plus least t h = num_no_plus t (and-left (is_num t) _ h)

Reads-second : (least : ℕ) → least ≤ 4294967295999999 → Reads (when (is_symbol 43) (plus_num_from_at least) (num_from_at least)) (either (IsPlusNumFrom least) (IsNumFrom least)) any any
Reads-second least h =
    Reads-when (is_symbol 43) (plus_num_from_at least) (num_from_at least) (IsPlusNumFrom least) (IsNumFrom least) (is_symbol 43) (is_num_from least) any any
    (Reads-bind (symbol_at 43) (λ plus. num_from_at least) (IsSymbol "+") (λ plus. IsNumFrom least) (is_symbol 43) any (is_num_from least) any (symbol 43 refl refl) (λ plus. num_from least h) (all (is_num_from least)))
    (num_from least h)
    (λ t g. g)
    (num_from_no_plus least)
    (λ w rest e. absurd cc)
    (all (is_symbol 43))
    (all (is_num_from least))

Reads-relative_range : (line first : ℕ) → first ≤ 4294967295999999 → Reads (relative_range_at line first) (IsRelativeRange line first) (is_symbol 126) but_tilde
Reads-relative_range line first h =
    Reads-bind (symbol_at 126) _ (IsSymbol "~") _ (is_symbol 126) any any but_tilde (symbol 126 refl refl)
    (λ tilde. last (when (is_symbol 43) (plus_num_from_at first) (num_from_at first)) (λ m. (line, times.RelativeRange first m)) (either (IsPlusNumFrom first) (IsNumFrom first)) any but_tilde (Reads-second first h))
    (all any)

Reads-relative : Reads relative_at IsRelative (is_symbol 43) but_tilde
Reads-relative =
    Reads-bind (symbol_at 43) _ (IsSymbol "+") _ (is_symbol 43) any is_num but_tilde (symbol 43 refl refl)
    (λ line. Reads-bind_if num_at _ IsNum _ (λ n. n.1 ≤ 4294967295999999) is_num any any but_tilde num_small num
    (λ n h. tail (is_symbol 126) (relative_range_at line n.1) (IsRelativeRange line n.1) (line, times.Relative n.1) (Reads-relative_range line n.1 h) (λ w rest e. absurd cc))
    (all any))
    (all is_num)

Reads-number_time : Reads (when (is_symbol 43) relative_at absolute_at) (either IsRelative IsAbsolute) starts_number but_tilde
unfolding starts_number
Reads-number_time =
    Reads-when (is_symbol 43) relative_at absolute_at IsRelative IsAbsolute (is_symbol 43) is_num starts_number but_tilde
    Reads-relative
    Reads-absolute
    (λ t h. h)
    num_no_plus
    (λ v rest e. absurd cc)
    (λ t h. or-right (is_num t) (is_symbol 43 t) h)
    (λ t h. or-left (is_num t) (is_symbol 43 t) h)

pub Reads-time : Reads time_at IsTime starts_event but_tilde
unfolding time_at IsTime starts_number
Reads-time =
    Reads-when (is_symbol 42) any_time_at (when (is_symbol 43) relative_at absolute_at) IsAnyTime (either IsRelative IsAbsolute) (is_symbol 42) starts_number starts_event but_tilde
    (last (symbol_at 42) (λ line. (line, times.Any)) (IsSymbol "*") (is_symbol 42) but_tilde (symbol 42 refl refl))
    Reads-number_time
    (λ t h. h)
    (λ t h. or-elim-no (is_num t) (is_symbol 43 t) (is_symbol 42 t) (num_no_star t) (symbol_apart 43 42 refl t) h)
    (λ v rest e. absurd cc)
    (λ t h. or-right (starts_number t) (is_symbol 42 t) h)
    (λ t h. or-left (starts_number t) (is_symbol 42 t) h)

-- ---- what follows

num_no_tilde : (t : Item) → is_num t ≡ true → is_symbol 126 t ≡ false
num_no_tilde = apart is_num_kind is_symbol_kind is_num (is_symbol 126) refl num_kind (symbol_kind 126)

word_no_start : NoStart is_word
word_no_start = record {
  num_is = apart is_num_kind is_word_kind is_num is_word refl num_kind word_kind;
  plus_is = symbol_no_word 43;
  star_is = symbol_no_word 42;
  end_is = λ t h. end_no_token (λ kind text. is_word_kind kind) t h;
}

pub goes_on_no_word : (t : Item) → starts_event_or_end t ≡ true → but is_word t ≡ true
goes_on_no_word t h = not-false (is_word t) (goes_on_not is_word word_no_start t h)

-- ---- results

hex_no_int : (t : Item) → is_next_hex_within_u32 t ≡ true → is_next_int_within_u32 t ≡ false
hex_no_int = apart is_hex_kind is_int_kind is_next_hex_within_u32 is_next_int_within_u32 refl hex_kind int_kind

minus_no_int : (t : Item) → is_symbol 45 t ≡ true → is_next_int_within_u32 t ≡ false
minus_no_int = apart is_symbol_kind is_int_kind (is_symbol 45) is_next_int_within_u32 refl (symbol_kind 45) int_kind

minus_no_hex : (t : Item) → is_symbol 45 t ≡ true → is_next_hex_within_u32 t ≡ false
minus_no_hex = apart is_symbol_kind is_hex_kind (is_symbol 45) is_next_hex_within_u32 refl (symbol_kind 45) hex_kind

abbrev pub starts_other_expected_result : Item → Bool
starts_other_expected_result t = is_next_hex_within_u32 t || is_symbol 45 t

abbrev pub starts_expected_result : Item → Bool
starts_expected_result t = is_next_int_within_u32 t || starts_other_expected_result t

Reads-negative : Reads negative_at IsNegative (is_symbol 45) (but is_word)
Reads-negative =
    Reads-bind (symbol_at 45) _ (IsSymbol "-") _ (is_symbol 45) any is_next_int_within_u32 (but is_word) (symbol 45 refl refl)
    (λ line. Reads-bind int_at _ IsInt _ is_next_int_within_u32 any any (but is_word) int
    (λ n. tail is_word (named_error_at n) (in_turn IsErrorName (λ name. made (expected_results.Negative n (Some name)))) (expected_results.Negative n None)
    (last error_at (λ name. expected_results.Negative n (Some name)) IsErrorName is_word (but is_word) error_name)
    (λ w rest e. absurd cc))
    (all any))
    (all is_next_int_within_u32)

pub Reads-expected_result : Reads expected_result_at IsExpectedResult starts_expected_result (but is_word)
unfolding expected_result_at IsExpectedResult
Reads-expected_result =
    Reads-when is_next_int_within_u32 whole_at (when is_next_hex_within_u32 hexadecimal_at negative_at) IsWhole (either IsHexadecimal IsNegative) is_next_int_within_u32 starts_other_expected_result starts_expected_result (but is_word)
    (last int_at (λ n. expected_results.Int n) IsInt is_next_int_within_u32 (but is_word) int)
    (Reads-when is_next_hex_within_u32 hexadecimal_at negative_at IsHexadecimal IsNegative is_next_hex_within_u32 (is_symbol 45) starts_other_expected_result (but is_word)
    (last hex_at (λ n. expected_results.Hex n) IsHex is_next_hex_within_u32 (but is_word) hex)
    Reads-negative
    (λ t h. h)
    minus_no_hex
    (λ w rest e. absurd cc)
    (λ t h. or-left (is_next_hex_within_u32 t) (is_symbol 45 t) h)
    (λ t h. or-right (is_next_hex_within_u32 t) (is_symbol 45 t) h))
    (λ t h. h)
    (λ t h. or-elim-no (is_next_hex_within_u32 t) (is_symbol 45 t) (is_next_int_within_u32 t) (hex_no_int t) (minus_no_int t) h)
    (λ w rest e. absurd cc)
    (λ t h. or-left (is_next_int_within_u32 t) (starts_other_expected_result t) h)
    (λ t h. or-right (is_next_int_within_u32 t) (starts_other_expected_result t) h)

-- ---- calls

Reads-arguments : Reads arguments_at IsArguments any any
Reads-arguments = record { laws = Laws-arguments; sound = arguments_sound; complete = λ ts v rest h stops. arguments_complete ts v rest h; takes = arguments_take }

abbrev IsBracketed : Spelling ⊤
IsBracketed = in_turn (IsSymbol "(") (λ opening. in_turn IsInNote (λ skipped. made tt))

Reads-bracketed_note : Reads note_at IsBracketed (is_symbol 40) starts_event_or_end
unfolding note_at
Reads-bracketed_note =
    Reads-bind (symbol_at 40) _ (IsSymbol "(") _ (is_symbol 40) any any starts_event_or_end (symbol 40 refl refl)
    (λ line. last (machine_at note_move []) (λ skipped. tt) IsInNote any starts_event_or_end Reads-in_note)
    (all any)

note_is : (v : ⊤) (ts rest : List Item) → IsBracketed v ts rest → IsNote v ts rest
note_is v ts rest h =
    let o = h.2 in
    let n = h.3.2 in
    let left : h.3.1 ≡ rest = h.3.3.1 in
    record {
      opening = o.0;
      inside = n.inside;
      closing = n.closing;
      spelled = o.2.0 ∙ ap (λ (x : List Item). o.0 ∷ x) (o.3.1 ∙ n.spelled ∙ ap (λ (x : List Item). n.inside ++ n.closing ∷ x) left);
      opens = o.2.1;
      balanced = n.balanced;
      ends = n.ends;
    }

bracketed_is : (v : ⊤) (ts rest : List Item) → IsNote v ts rest → IsBracketed v ts rest
bracketed_is v ts rest h =
    let middle : List Item = h.inside ++ h.closing ∷ rest in
    let none : List ℕ = [] in
    (line_of h.opening, middle, (h.opening, middle, (h.spelled, h.opens), (refl, refl)), (none, rest, record { inside = h.inside; closing = h.closing; spelled = refl; balanced = h.balanced; ends = h.ends; value = refl }, (refl, refl)))

Reads-note : Reads note_at IsNote (is_symbol 40) starts_event_or_end
Reads-note =
    let R = Reads-bracketed_note in
    record {
      laws = R.laws;
      sound = λ ts v rest e. note_is v ts rest (R.sound ts v rest e);
      complete = λ ts v rest h stops. R.complete ts v rest (bracketed_is v ts rest h) stops;
      takes = λ ts v rest h. R.takes ts v rest (bracketed_is v ts rest h);
    }

note_nothing : (w : ⊤) (rest : List Item) → note_at [] ≡ Ok (w, rest) → ⊥
unfolding note_at
note_nothing w rest e = absurd cc

abbrev pub follows_expected_result : Item → Bool
follows_expected_result t = is_symbol 40 t || starts_event_or_end t

Reads-maybe_note : Reads maybe_note_at (either IsNote (made tt)) follows_expected_result starts_event_or_end
Reads-maybe_note = Reads-optional (is_symbol 40) starts_event_or_end note_at IsNote tt Reads-note (goes_on_not (is_symbol 40) (symbol_no_start 40 refl refl)) note_nothing

follows_no_word : (t : Item) → follows_expected_result t ≡ true → but is_word t ≡ true
follows_no_word t h = or-elim (is_symbol 40 t) (starts_event_or_end t) (but is_word t) (λ g. not-false (is_word t) (symbol_no_word 40 t g)) (goes_on_no_word t) h

pub Reads-call : Reads call_at IsCall is_word starts_event_or_end
unfolding call_at IsCall
Reads-call =
    Reads-bind function_at _ IsFunction _ is_word any (is_symbol 40) starts_event_or_end function
    (λ name. Reads-bind (symbol_at 40) _ (IsSymbol "(") _ (is_symbol 40) any any starts_event_or_end (symbol 40 refl refl)
    (λ o. Reads-bind arguments_at _ IsArguments _ any any (is_symbol 61) starts_event_or_end Reads-arguments
    (λ arguments. Reads-bind (symbol_at 61) _ (IsSymbol "=") _ (is_symbol 61) any starts_expected_result starts_event_or_end (symbol 61 refl refl)
    (λ q. Reads-bind expected_result_at _ IsExpectedResult _ starts_expected_result (but is_word) follows_expected_result starts_event_or_end Reads-expected_result
    (λ expected_result. Reads-bind maybe_note_at (λ note. done _) (either IsNote (made tt)) (λ note. made _) follows_expected_result starts_event_or_end starts_event_or_end starts_event_or_end Reads-maybe_note (λ note. Reads-done _ starts_event_or_end) (λ t h. h))
    follows_no_word)
    (all starts_expected_result))
    (all (is_symbol 61)))
    (all any))
    (all (is_symbol 40))

-- ---- actions

command : Reads command_at IsCommand is_command starts_event_or_end
command = last (one is_command) (λ t. actions.Command) (token is_command) is_command starts_event_or_end (Reads-one is_command_kind is_command (a_token kinds.Cmd (96 ∷ 96 ∷ [])) command_kind refl refl)

code : Reads code_at IsCode is_code starts_event_or_end
code = last (one is_code) (λ t. actions.Code) (token is_code) is_code starts_event_or_end (Reads-one is_code_kind is_code (a_token kinds.Code (37 ∷ 123 ∷ 125 ∷ 37 ∷ [])) code_kind refl refl)

call_action : Reads call_action_at IsCallAction is_word starts_event_or_end
call_action = Reads-bind call_at (λ call. done (actions.Call call)) IsCall (λ call. made (actions.Call call)) is_word starts_event_or_end starts_event_or_end starts_event_or_end Reads-call (λ call. Reads-done (actions.Call call) starts_event_or_end) (λ t h. h)

inbound : Reads inbound_at IsInbound (is_symbol 60) starts_event_or_end
inbound =
    Reads-bind (symbol_at 60) _ (IsSymbol "<") _ (is_symbol 60) any any starts_event_or_end (symbol 60 refl refl)
    (λ line. Reads-bind (packet_at true) (λ p. done (actions.Inbound p)) (IsPacket true) (λ p. made (actions.Inbound p)) any starts_event_or_end starts_event_or_end starts_event_or_end (Reads-packet true) (λ p. Reads-done (actions.Inbound p) starts_event_or_end) (λ t h. h))
    (all any)

outbound : Reads outbound_at IsOutbound (is_symbol 62) starts_event_or_end
outbound =
    Reads-bind (symbol_at 62) _ (IsSymbol ">") _ (is_symbol 62) any any starts_event_or_end (symbol 62 refl refl)
    (λ line. Reads-bind (packet_at false) (λ p. done (actions.Outbound p)) (IsPacket false) (λ p. made (actions.Outbound p)) any starts_event_or_end starts_event_or_end starts_event_or_end (Reads-packet false) (λ p. Reads-done (actions.Outbound p) starts_event_or_end) (λ t h. h))
    (all any)

abbrev pub starts_outbound_or_call : Item → Bool
starts_outbound_or_call t = is_symbol 62 t || is_word t

abbrev pub starts_packet_or_call : Item → Bool
starts_packet_or_call t = is_symbol 60 t || starts_outbound_or_call t

abbrev pub starts_code_or_other : Item → Bool
starts_code_or_other t = is_code t || starts_packet_or_call t

abbrev pub starts_action : Item → Bool
starts_action t = is_command t || starts_code_or_other t

-- what holds of each that begins an action
each_action : (c : Bool) (t : Item) → (is_command t ≡ true → c ≡ true) → (is_code t ≡ true → c ≡ true) → (is_symbol 60 t ≡ true → c ≡ true) → (is_symbol 62 t ≡ true → c ≡ true) → (is_word t ≡ true → c ≡ true) → starts_action t ≡ true → c ≡ true
each_action c t f1 f2 f3 f4 f5 h =
    or-elim (is_command t) (starts_code_or_other t) c f1 (λ g. or-elim (is_code t) (starts_packet_or_call t) c f2 (λ k. or-elim (is_symbol 60 t) (starts_outbound_or_call t) c f3 (λ m. or-elim (is_symbol 62 t) (is_word t) c f4 f5 m) k) g) h

no_kinds : (f g : TokenKind → Bool) (p q : Item → Bool) → no_kind f g ≡ true → IsOf f p → IsOf g q → (t : Item) → p t ≡ true → not (q t) ≡ true
no_kinds f g p q none fp gq t h = not-false (q t) (apart f g p q none fp gq t h)

word_no_angle : (octet : ℕ) (t : Item) → is_word t ≡ true → is_symbol octet t ≡ false
word_no_angle octet t h = apart is_word_kind is_symbol_kind is_word (is_symbol octet) refl word_kind (symbol_kind octet) t h

Reads-outbound_or_call : Reads (when (is_symbol 62) outbound_at call_action_at) (either IsOutbound IsCallAction) starts_outbound_or_call starts_event_or_end
Reads-outbound_or_call =
    Reads-when (is_symbol 62) outbound_at call_action_at IsOutbound IsCallAction (is_symbol 62) is_word starts_outbound_or_call starts_event_or_end
    outbound
    call_action
    (λ t h. h)
    (word_no_angle 62)
    (λ w rest e. absurd cc)
    (λ t h. or-left (is_symbol 62 t) (is_word t) h)
    (λ t h. or-right (is_symbol 62 t) (is_word t) h)

Reads-packet_or_call : Reads (when (is_symbol 60) inbound_at (when (is_symbol 62) outbound_at call_action_at)) (either IsInbound (either IsOutbound IsCallAction)) starts_packet_or_call starts_event_or_end
Reads-packet_or_call =
    Reads-when (is_symbol 60) inbound_at (when (is_symbol 62) outbound_at call_action_at) IsInbound (either IsOutbound IsCallAction) (is_symbol 60) starts_outbound_or_call starts_packet_or_call starts_event_or_end
    inbound
    Reads-outbound_or_call
    (λ t h. h)
    (λ t h. or-elim-no (is_symbol 62 t) (is_word t) (is_symbol 60 t) (symbol_apart 62 60 refl t) (word_no_angle 60 t) h)
    (λ w rest e. absurd cc)
    (λ t h. or-left (is_symbol 60 t) (starts_outbound_or_call t) h)
    (λ t h. or-right (is_symbol 60 t) (starts_outbound_or_call t) h)

angle_no_code : (octet : ℕ) (t : Item) → is_symbol octet t ≡ true → is_code t ≡ false
angle_no_code octet t h = apart is_symbol_kind is_code_kind (is_symbol octet) is_code refl (symbol_kind octet) code_kind t h

angle_no_command : (octet : ℕ) (t : Item) → is_symbol octet t ≡ true → is_command t ≡ false
angle_no_command octet t h = apart is_symbol_kind is_command_kind (is_symbol octet) is_command refl (symbol_kind octet) command_kind t h

word_no_code : (t : Item) → is_word t ≡ true → is_code t ≡ false
word_no_code = apart is_word_kind is_code_kind is_word is_code refl word_kind code_kind

word_no_command : (t : Item) → is_word t ≡ true → is_command t ≡ false
word_no_command = apart is_word_kind is_command_kind is_word is_command refl word_kind command_kind

code_no_command : (t : Item) → is_code t ≡ true → is_command t ≡ false
code_no_command = apart is_code_kind is_command_kind is_code is_command refl code_kind command_kind

Reads-code_or_other : Reads (when is_code code_at (when (is_symbol 60) inbound_at (when (is_symbol 62) outbound_at call_action_at))) (either IsCode (either IsInbound (either IsOutbound IsCallAction))) starts_code_or_other starts_event_or_end
Reads-code_or_other =
    Reads-when is_code code_at (when (is_symbol 60) inbound_at (when (is_symbol 62) outbound_at call_action_at)) IsCode (either IsInbound (either IsOutbound IsCallAction)) is_code starts_packet_or_call starts_code_or_other starts_event_or_end
    code
    Reads-packet_or_call
    (λ t h. h)
    (λ t h. or-elim-no (is_symbol 60 t) (starts_outbound_or_call t) (is_code t) (angle_no_code 60 t) (λ g. or-elim-no (is_symbol 62 t) (is_word t) (is_code t) (angle_no_code 62 t) (word_no_code t) g) h)
    (λ w rest e. absurd cc)
    (λ t h. or-left (is_code t) (starts_packet_or_call t) h)
    (λ t h. or-right (is_code t) (starts_packet_or_call t) h)

pub Reads-action : Reads action_at IsAction starts_action starts_event_or_end
unfolding action_at IsAction
Reads-action =
    Reads-when is_command command_at (when is_code code_at (when (is_symbol 60) inbound_at (when (is_symbol 62) outbound_at call_action_at))) IsCommand (either IsCode (either IsInbound (either IsOutbound IsCallAction))) is_command starts_code_or_other starts_action starts_event_or_end
    command
    Reads-code_or_other
    (λ t h. h)
    (λ t h. or-elim-no (is_code t) (starts_packet_or_call t) (is_command t) (code_no_command t) (λ g. or-elim-no (is_symbol 60 t) (starts_outbound_or_call t) (is_command t) (angle_no_command 60 t) (λ k. or-elim-no (is_symbol 62 t) (is_word t) (is_command t) (angle_no_command 62 t) (word_no_command t) k) g) h)
    (λ w rest e. absurd cc)
    (λ t h. or-left (is_command t) (starts_code_or_other t) h)
    (λ t h. or-right (is_command t) (starts_code_or_other t) h)

-- ---- events

Reads-blocking_end_number : Reads (when (is_symbol 43) relative_blocking_end_at absolute_blocking_end_at) (either IsRelativeBlockingEnd IsAbsoluteBlockingEnd) any any
Reads-blocking_end_number =
    Reads-when (is_symbol 43) relative_blocking_end_at absolute_blocking_end_at IsRelativeBlockingEnd IsAbsoluteBlockingEnd (is_symbol 43) is_num any any
    (Reads-bind (symbol_at 43) _ (IsSymbol "+") _ (is_symbol 43) any is_num any (symbol 43 refl refl)
    (λ plus. last num_at (λ n. blocking_ends.Relative n.1) IsNum is_num any num)
    (all is_num))
    (last num_at (λ n. blocking_ends.Absolute n.1) IsNum is_num any num)
    (λ t h. h)
    num_no_plus
    (λ w rest e. absurd cc)
    (all (is_symbol 43))
    (all is_num)

Reads-blocking_end : Reads blocking_end_at IsBlockingEnd is_dots starts_action
Reads-blocking_end =
    Reads-bind dots_at _ IsDots _ is_dots any any starts_action dots
    (λ line. last (when (is_symbol 43) relative_blocking_end_at absolute_blocking_end_at) (λ u. Some u) (either IsRelativeBlockingEnd IsAbsoluteBlockingEnd) any starts_action Reads-blocking_end_number)
    (all any)

action_no_dots : (t : Item) → starts_action t ≡ true → is_dots t ≡ false
action_no_dots t h =
    not-true (is_dots t) (each_action (not (is_dots t)) t
    (no_kinds is_command_kind is_dots_kind is_command is_dots refl command_kind dots_kind t)
    (no_kinds is_code_kind is_dots_kind is_code is_dots refl code_kind dots_kind t)
    (no_kinds is_symbol_kind is_dots_kind (is_symbol 60) is_dots refl (symbol_kind 60) dots_kind t)
    (no_kinds is_symbol_kind is_dots_kind (is_symbol 62) is_dots refl (symbol_kind 62) dots_kind t)
    (no_kinds is_word_kind is_dots_kind is_word is_dots refl word_kind dots_kind t)
    h)

abbrev follows_time : Item → Bool
follows_time t = is_dots t || starts_action t

pub Reads-maybe_blocking_end : Reads maybe_blocking_end_at IsMaybeBlockingEnd follows_time starts_action
unfolding maybe_blocking_end_at IsMaybeBlockingEnd
Reads-maybe_blocking_end = Reads-optional is_dots starts_action blocking_end_at IsBlockingEnd None Reads-blocking_end action_no_dots (λ w rest e. absurd cc)

time_then : (t : Item) → follows_time t ≡ true → but_tilde t ≡ true
time_then t h =
    or-elim (is_dots t) (starts_action t) (but_tilde t)
    (no_kinds is_dots_kind is_symbol_kind is_dots (is_symbol 126) refl dots_kind (symbol_kind 126) t)
    (each_action (but_tilde t) t
    (no_kinds is_command_kind is_symbol_kind is_command (is_symbol 126) refl command_kind (symbol_kind 126) t)
    (no_kinds is_code_kind is_symbol_kind is_code (is_symbol 126) refl code_kind (symbol_kind 126) t)
    (λ g. not-false (is_symbol 126 t) (symbol_apart 60 126 refl t g))
    (λ g. not-false (is_symbol 126 t) (symbol_apart 62 126 refl t g))
    (no_kinds is_word_kind is_symbol_kind is_word (is_symbol 126) refl word_kind (symbol_kind 126) t))
    h

pub Reads-event : Reads event_at IsEvent starts_event starts_event_or_end
unfolding event_at IsEvent
Reads-event =
    Reads-bind time_at _ IsTime _ starts_event but_tilde follows_time starts_event_or_end Reads-time
    (λ start. Reads-bind maybe_blocking_end_at _ IsMaybeBlockingEnd _ follows_time starts_action starts_action starts_event_or_end Reads-maybe_blocking_end
    (λ blocking_end. Reads-bind action_at (λ action. done _) IsAction (λ action. made _) starts_action starts_event_or_end starts_event_or_end starts_event_or_end Reads-action (λ action. Reads-done _ starts_event_or_end) (λ t h. h))
    (λ t h. h))
    time_then

pub end_no_start : (t : Item) → is_end t ≡ true → starts_event t ≡ false
end_no_start (lexeme x) h = absurd cc
end_no_start (ending line) h = refl
end_no_start (bad line) h = refl
