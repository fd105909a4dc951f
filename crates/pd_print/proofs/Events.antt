-- Packets, events and answers that were written are read back.
use Rattle.std.proofs.Common.{◌≡◌, ℕ, ◌+◌, ◌-◌, ◌≤◌, Bool, true, false, List, [], ◌∷◌, ◌++◌, length, drop, Option, Some, None, refl, sym, ap, subst, ◌∙◌, arith, append_assoc, inl, inr}
use Rattle.std.specs.Prelude.{codes, ◌≢◌}
use Rattle.std.specs.List.{list_all, AllByRecursion}
use Rattle.std.specs.Prelude.{map, Result, Ok, Err, IfOk}
use Rattle.pd_match.specs.Agreement.{option_of}
use Rattle.pd_seg.specs.declared.option_list.SegOption.{SegOption}
use Rattle.pd_print.specs.Sent.{options_of}
use Rattle.std.specs.Fmt.{decimal}
use Rattle.std.proofs.lemmas.Fmt.{decimal_digit}
use Rattle.pd_text.specs.Text.{has_no_newline}
use Rattle.pd_lex.specs.declared.token.Place.{Place}
use Rattle.pd_lex.specs.declared.token.TokenKind.TheVariants.{Word}
use Rattle.pd_lex.specs.Octets.{is_word}
use Rattle.pd_lex.specs.Pieces.{front, gap}
use Rattle.pd_lex.specs.Places.{joined, line_at, octets_from, place_after, IsPlace}
use Rattle.pd_lex.specs.Scanned.{IsLeftAt, begins_name}
use Rattle.pd_lex.specs.Tokens.{Item, lexeme}
use Rattle.pd_lex.specs.Lexing.{items}
use Rattle.pd_lex.proofs.Items.{items_over_gap}
use Rattle.pd_lex.proofs.Rests.{advance, octets_in_line}
use Rattle.pd_script.specs.declared.timing.Time.{Time}
use Rattle.pd_script.specs.declared.calls.ErrorName.{ErrorName}
use Rattle.pd_script.specs.declared.calls.ExpectedResult.{ExpectedResult}
use Rattle.pd_script.specs.declared.packets.Options.TheVariants as lists
use Rattle.pd_script.specs.declared.packets.Packet.{Packet}
use Rattle.pd_script.specs.declared.script_events.Action.{Action}
use Rattle.pd_script.specs.declared.script_events.Event.{Event}
use Rattle.pd_script.specs.Items.{is_word as is_word_item, text_of}
use Rattle.pd_script.specs.Values.{error_name, error_by_name_or_unknown}
use Rattle.pd_script.specs.Spelling.{Spelling, IsSymbol}
use Rattle.pd_script.specs.PacketGrammar.{IsOctets, IsPacket}
use Rattle.pd_script.specs.Grammar.{IsTime, IsMaybeBlockingEnd, IsErrorName, IsExpectedResult, IsAction, IsEvent}
use Rattle.pd_seg.specs.declared.call_results.Answer.{Answer}
use Rattle.pd_seg.specs.declared.call_results.Answer.TheVariants.{Number, Error}
use Rattle.pd_seg.specs.declared.call_results.Errno.{Errno}
use Rattle.pd_seg.specs.declared.call_results.Errno.TheVariants as answered
use Rattle.pd_print.specs.declared.packet_texts.Direction.{Direction}
use Rattle.pd_print.specs.declared.packet_texts.Direction.TheVariants.{Inbound, Outbound}
use Rattle.pd_print.specs.Numbers.{time_text}
use Rattle.pd_print.specs.Options.{options_text}
use Rattle.pd_print.specs.Packets.{flags_text, numbered, packet_text, arrow, event_text, action_of}
use Rattle.pd_print.specs.Answers.{name_of, answer_text, expected_result_of}
use Rattle.pd_print.specs.RoundTrip.{line_after, IsReadAs, event_of, FitsTime, FitsDirection, HasBlock, HaveBlocks, FitsPacket, FitsAnswer}
use Rattle.pd_print.proofs.Lexemes.{ends_word, ends_number, number_ends_word, symbol_front, minus_front, newline_front}
use Rattle.pd_print.proofs.Leaves.{ReadTo, over_space, spaced, one_read, symbol_read, int_read, word_passed}
use Rattle.pd_print.proofs.TimeLemmas.{time_read}
use Rattle.pd_print.proofs.PacketPartLemmas.{flags_read, octets_read, ack_read, win_read}
use Rattle.pd_print.proofs.OptionParts.{options_end, options_read}

-- ---- packets

-- a packet's octets, part by part
octets_right : (s e l X : List ℕ) → ((((32 ∷ s) ++ (58 ∷ e)) ++ (40 ∷ l)) ++ (41 ∷ [])) ++ X ≡ 32 ∷ (s ++ (58 ∷ (e ++ (40 ∷ (l ++ (41 ∷ X))))))
octets_right s e l X =
    append_assoc (((32 ∷ s) ++ (58 ∷ e)) ++ (40 ∷ l)) (41 ∷ []) X
    ∙ (append_assoc ((32 ∷ s) ++ (58 ∷ e)) (40 ∷ l) (41 ∷ X)
    ∙ append_assoc (32 ∷ s) (58 ∷ e) (40 ∷ (l ++ (41 ∷ X))))

packet_right : (F s e l A W P rest : List ℕ) → (((F ++ ((((32 ∷ s) ++ (58 ∷ e)) ++ (40 ∷ l)) ++ (41 ∷ []))) ++ (A ++ W)) ++ P) ++ rest ≡ F ++ (32 ∷ (s ++ (58 ∷ (e ++ (40 ∷ (l ++ (41 ∷ (A ++ (W ++ (P ++ rest))))))))))
packet_right F s e l A W P rest =
    let O : List ℕ = (((32 ∷ s) ++ (58 ∷ e)) ++ (40 ∷ l)) ++ (41 ∷ []) in
    append_assoc ((F ++ O) ++ (A ++ W)) P rest
    ∙ (append_assoc (F ++ O) (A ++ W) (P ++ rest)
    ∙ (append_assoc F O ((A ++ W) ++ (P ++ rest))
    ∙ (ap (λ (x : List ℕ). F ++ (O ++ x)) (append_assoc A W (P ++ rest))
    ∙ ap (λ (x : List ℕ). F ++ x) (octets_right s e l (A ++ (W ++ (P ++ rest)))))))

-- whether a packet arrives
abbrev arrives : Direction → Bool
arrives Inbound = true
arrives Outbound = false

win_end : (win : Option ℕ) (rest : List ℕ) → ends_number rest ≡ true → ends_number (numbered (codes " win ") win ++ rest) ≡ true
win_end None rest h = h
win_end (Some n) rest h = refl

has_win : (d : Direction) (p : Packet) → FitsDirection d p → arrives d ≡ true → p.win ≢ None
has_win Inbound p fits h = fits.0
has_win Outbound p fits h = absurd cc

has_options : (d : Direction) (p : Packet) → FitsDirection d p → arrives d ≡ true → p.options ≢ lists.Any
has_options Inbound p fits h = fits.1
has_options Outbound p fits h = absurd cc

module _ (lines : List (List ℕ)) (plain : list_all has_no_newline lines ≡ true) where
  -- the packet with the length that it has
  packet_is : (x : Packet) → x.length ≡ x.end - x.start → ◌≡◌ {A = Packet} (record { flags = x.flags; start = x.start; end = x.end; length = x.end - x.start; ack = x.ack; win = x.win; options = x.options }) x
  packet_is x e = ap (λ (n : ℕ). record { flags = x.flags; start = x.start; end = x.end; length = n; ack = x.ack; win = x.win; options = x.options }) (sym e)

  packet_read : (d : Direction) (x : Packet) (p : Place) (rest : List ℕ) → FitsPacket d x → ends_number rest ≡ true → IsLeftAt lines p (packet_text x ++ rest) → ReadTo lines Packet (IsPacket (arrives d)) x p rest
  unfolding IsPacket
  packet_read d x p rest fits ends h =
      let tail = options_text x.options ++ rest in
      let tail_ends = options_end x.options rest ends in
      let fields = numbered (codes " ack ") x.ack ++ (numbered (codes " win ") x.win ++ tail) in
      let octets = decimal x.start ++ (58 ∷ (decimal x.end ++ (40 ∷ (decimal (x.end - x.start) ++ (41 ∷ fields))))) in
      let whole : packet_text x ++ rest ≡ flags_text x.flags ++ (32 ∷ octets) =
      packet_right (flags_text x.flags) (decimal x.start) (decimal x.end) (decimal x.length) (numbered (codes " ack ") x.ack) (numbered (codes " win ") x.win) (options_text x.options) rest
      ∙ ap (λ (n : ℕ). flags_text x.flags ++ (32 ∷ (decimal x.start ++ (58 ∷ (decimal x.end ++ (40 ∷ (decimal n ++ (41 ∷ fields)))))))) fits.len in
      let flags = flags_read lines plain x.flags p octets fits.flags (subst (IsLeftAt lines p) whole h) in
      let gap = over_space lines plain flags.to octets flags.left in
      let seq = spaced lines plain (ℕ × ℕ × ℕ) IsOctets (x.start, x.end, x.end - x.start) flags.to octets fields gap (octets_read lines plain x.start x.end gap.to fields fits.order fits.small gap.left) in
      let ack = ack_read lines plain x.ack seq.to (numbered (codes " win ") x.win ++ tail) fits.ack (win_end x.win tail tail_ends) seq.left in
      let win = win_read lines plain (arrives d) x.win ack.to tail (has_win d x fits.way) fits.win tail_ends ack.left in
      let options = options_read lines plain (arrives d) x.options win.to rest (has_options d x fits.way) fits.numbers fits.blocks win.left in
      record {
        to = options.to;
        line = options.line ∙ (win.line ∙ (ack.line ∙ (seq.line ∙ flags.line)));
        left = options.left;
        spelled = (x.flags, items lines flags.to, flags.spelled, ((x.start, x.end, x.end - x.start), items lines seq.to, seq.spelled, (x.ack, items lines ack.to, ack.spelled, (x.win, items lines win.to, win.spelled, (x.options, items lines options.to, options.spelled, (packet_is x fits.len, refl))))));
      }

  -- ---- events

  action_read : (d : Direction) (x : Packet) (p : Place) (rest : List ℕ) → FitsPacket d x → ends_number rest ≡ true → IsLeftAt lines p (arrow d ++ (packet_text x ++ rest)) → ReadTo lines Action IsAction (action_of d x) p rest
  unfolding IsAction
  action_read Inbound x p rest fits ends h =
      let all = 32 ∷ (packet_text x ++ rest) in
      let gap = over_space lines plain p (60 ∷ all) h in
      let sign = spaced lines plain ℕ (IsSymbol "<") gap.to.line p (60 ∷ all) all gap (symbol_read lines plain 60 gap.to all gap.left refl refl (symbol_front 60 all refl)) in
      let next = over_space lines plain sign.to (packet_text x ++ rest) sign.left in
      let packet = spaced lines plain Packet (IsPacket true) x sign.to (packet_text x ++ rest) rest next (packet_read Inbound x next.to rest fits ends next.left) in
      record { to = packet.to; line = packet.line ∙ sign.line; left = packet.left; spelled = inr (inr (inl (gap.to.line, items lines sign.to, sign.spelled, (x, items lines packet.to, packet.spelled, (refl, refl))))) }
  action_read Outbound x p rest fits ends h =
      let all = 32 ∷ (packet_text x ++ rest) in
      let gap = over_space lines plain p (62 ∷ all) h in
      let sign = spaced lines plain ℕ (IsSymbol ">") gap.to.line p (62 ∷ all) all gap (symbol_read lines plain 62 gap.to all gap.left refl refl (symbol_front 62 all refl)) in
      let next = over_space lines plain sign.to (packet_text x ++ rest) sign.left in
      let packet = spaced lines plain Packet (IsPacket false) x sign.to (packet_text x ++ rest) rest next (packet_read Outbound x next.to rest fits ends next.left) in
      record { to = packet.to; line = packet.line ∙ sign.line; left = packet.left; spelled = inr (inr (inr (inl (gap.to.line, items lines sign.to, sign.spelled, (x, items lines packet.to, packet.spelled, (refl, refl)))))) }

  arrow_ends : (d : Direction) (s : List ℕ) → ends_number (arrow d ++ s) ≡ true
  arrow_ends Inbound s = refl
  arrow_ends Outbound s = refl

  event_read : (time : Time) (d : Direction) (x : Packet) (p : Place) (rest : List ℕ) → FitsTime time → FitsPacket d x → ends_number rest ≡ true → IsLeftAt lines p (event_text time d x ++ rest) → ReadTo lines Event IsEvent (event_of time (action_of d x) p.line) p rest
  unfolding IsEvent IsMaybeBlockingEnd
  event_read time d x p rest short fits ends h =
      let after = arrow d ++ (packet_text x ++ rest) in
      let whole : event_text time d x ++ rest ≡ time_text time ++ after =
      append_assoc (time_text time ++ arrow d) (packet_text x) rest ∙ append_assoc (time_text time) (arrow d) (packet_text x ++ rest) in
      let start = time_read lines plain time p after short (arrow_ends d (packet_text x ++ rest)) (subst (IsLeftAt lines p) whole h) in
      let action = action_read d x start.to rest fits ends start.left in
      record {
        to = action.to;
        line = action.line ∙ start.line;
        left = action.left;
        spelled = ((p.line, time), items lines start.to, start.spelled, (None, items lines start.to, inr (refl, refl), (action_of d x, items lines action.to, action.spelled, (refl, refl))));
      }

  -- ---- answers

  error_read : (name : ErrorName) (p : Place) (rest : List ℕ) → begins_name (error_name name) ≡ true → list_all is_word (error_name name) ≡ true → error_by_name_or_unknown (error_name name) ≡ name → ends_word rest ≡ true → IsLeftAt lines p (error_name name ++ rest) → ReadTo lines ErrorName IsErrorName name p rest
  error_read name p rest begins all is ends h =
      one_read lines plain ErrorName is_word_item (λ t. error_by_name_or_unknown (text_of t)) name p (lexeme (record { kind = Word; text = error_name name; from = p })) rest (word_passed lines plain (error_name name) p rest begins all ends h) refl is

  name_read : (e : Errno) (p : Place) (rest : List ℕ) → ends_word rest ≡ true → IsLeftAt lines p (error_name (name_of e) ++ rest) → ReadTo lines ErrorName IsErrorName (name_of e) p rest
  unfolding error_by_name_or_unknown
  name_read answered.Ebadf p rest ends h = error_read (name_of answered.Ebadf) p rest refl refl refl ends h
  name_read answered.Einval p rest ends h = error_read (name_of answered.Einval) p rest refl refl refl ends h
  name_read answered.Eagain p rest ends h = error_read (name_of answered.Eagain) p rest refl refl refl ends h
  name_read answered.Epipe p rest ends h = error_read (name_of answered.Epipe) p rest refl refl refl ends h

  one_digit : decimal 1 ≡ 49 ∷ []
  one_digit = decimal_digit 1 (omega arith)

  answer_read : (answer : Answer) (p : Place) (rest : List ℕ) → FitsAnswer answer → ends_number rest ≡ true → IsLeftAt lines p (answer_text answer ++ rest) → ReadTo lines ExpectedResult IsExpectedResult (expected_result_of answer) p rest
  unfolding IsExpectedResult
  answer_read (Number n) p rest small ends h =
      let number = int_read lines plain n p rest small ends h in
      record { to = number.to; line = number.line; left = number.left; spelled = inl (n, items lines number.to, number.spelled, (refl, refl)) }
  answer_read (Error e) p rest small ends h =
      let name = error_name (name_of e) ++ rest in
      let minus = symbol_read lines plain 45 p (49 ∷ 32 ∷ name) h refl refl (minus_front (32 ∷ name)) in
      let left : IsLeftAt lines minus.to (decimal 1 ++ (32 ∷ name)) = subst (λ (s : List ℕ). IsLeftAt lines minus.to (s ++ (32 ∷ name))) (sym one_digit) minus.left in
      let one = int_read lines plain 1 minus.to (32 ∷ name) (omega arith) refl left in
      let gap = over_space lines plain one.to name one.left in
      let error = spaced lines plain ErrorName IsErrorName (name_of e) one.to name rest gap (name_read e gap.to rest (number_ends_word rest ends) gap.left) in
      record {
        to = error.to;
        line = error.line ∙ (one.line ∙ minus.line);
        left = error.left;
        spelled = inr (inr (p.line, items lines minus.to, minus.spelled, (1, items lines one.to, one.spelled, inl (name_of e, items lines error.to, error.spelled, (refl, refl)))));
      }

  -- ---- the rest of a line

  -- what is spelled up to the end of a line leaves the next one
  line_read : (A : Type 0) (spelling : Spelling A) (v : A) (p : Place) (more : List ℕ) → ReadTo lines A spelling v p (10 ∷ more) → spelling v (items lines p) (items lines (line_after p))
  line_read A spelling v p more r =
      let on = advance lines plain r.to (10 ∷ []) more r.left.place r.left.left in
      let here : front (octets_from lines r.to) ≡ gap (octets_from lines (place_after r.to (10 ∷ []))) = ap front r.left.left ∙ (newline_front more ∙ ap gap (sym on.left)) in
      let over : items lines r.to ≡ items lines (place_after r.to (10 ∷ [])) = items_over_gap lines plain r.to (place_after r.to (10 ∷ [])) r.left.place on.place here in
      let next : items lines r.to ≡ items lines (line_after p) = over ∙ ap (λ (n : ℕ). items lines (record { line = n + 1; at = 0 })) r.line in
      subst (λ (ts : List Item). spelling v (items lines p) ts) next r.spelled

  line_left : (p : Place) (octets : List ℕ) → IsPlace lines p → p.line ≤ length lines → drop p.at (line_at lines p.line) ≡ octets → IsLeftAt lines p (octets ++ 10 ∷ joined (drop p.line lines))
  line_left p octets place le is = record { place = place; left = octets_in_line lines p place le ∙ ap (λ (s : List ℕ). s ++ 10 ∷ joined (drop p.line lines)) is }

pub time_back : (time : Time) → FitsTime time → IsReadAs IsTime (λ line. (line, time)) (time_text time)
time_back time fits lines p plain place le is =
    let more = joined (drop p.line lines) in
    line_read lines plain (ℕ × Time) IsTime (p.line, time) p more (time_read lines plain time p (10 ∷ more) fits refl (line_left lines plain p (time_text time) place le is))

pub event_back : (time : Time) (d : Direction) (x : Packet) → FitsTime time → FitsPacket d x → IsReadAs IsEvent (event_of time (action_of d x)) (event_text time d x)
event_back time d x short fits lines p plain place le is =
    let more = joined (drop p.line lines) in
    line_read lines plain Event IsEvent (event_of time (action_of d x) p.line) p more (event_read lines plain time d x p (10 ∷ more) short fits refl (line_left lines plain p (event_text time d x) place le is))

pub answer_back : (answer : Answer) → FitsAnswer answer → IsReadAs IsExpectedResult (λ line. expected_result_of answer) (answer_text answer)
answer_back answer small lines p plain place le is =
    let more = joined (drop p.line lines) in
    line_read lines plain ExpectedResult IsExpectedResult (expected_result_of answer) p more (answer_read lines plain answer p (10 ∷ more) small refl (line_left lines plain p (answer_text answer) place le is))

-- ---- segments

-- what holds of each of some, holds with one more
pub all_push : {A : Type 0} (P : A → Type 0) (xs : List A) (x : A) → AllByRecursion P xs → P x → AllByRecursion P (xs ++ x ∷ [])
all_push P [] x h one = (one, tt)
all_push P (y ∷ ys) x h one = (h.0, all_push P ys x h.1 one)

each_block : (os : List SegOption) → AllByRecursion (λ o. HasBlock (option_of o)) os → AllByRecursion HasBlock (map option_of os)
each_block [] h = tt
each_block (o ∷ os) h = (h.0, each_block os h.1)

pub have_blocks : (os : List SegOption) → AllByRecursion (λ o. HasBlock (option_of o)) os → HaveBlocks (options_of os)
have_blocks [] h = tt
have_blocks (o ∷ os) h = each_block (o ∷ os) h

-- what follows from a fact of the value, follows where there is one
pub if_ok : {T E : Type 0} (P Q : T → Type 0) (r : Result T E) → IfOk r P → ((t : T) → P t → Q t) → IfOk r Q
if_ok P Q (Ok t) h f = f t h
if_ok P Q (Err e) h f = tt
