-- Packets are read as they are spelled.
use Rattle.std.proofs.Common.{◌≡◌, ℕ, ◌-◌, ◌≤◌, ◌<◌, Bool, true, false, List, [], ◌∷◌, length, Some, None, Ok, Err, refl, sym, ap, subst, arith}
use Rattle.std.specs.Prelude.{codes, ◌&&◌, ◌||◌, nat_le, nat_lt, ◌==◌, unwrap_or}
use Rattle.std.specs.Str.{bytes_eq}
use Rattle.std.specs.Str.Parse.{AllDigits, digits_value}
use Rattle.std.specs.Char.{digit_value}
use Rattle.std.specs.Fmt.{decimal}
use Rattle.std.specs.List.{list_all}
use Rattle.std.proofs.lemmas.Fmt.{decimal_is_IsNumeral}
use Rattle.std.proofs.lemmas.List.{length-append}
use Rattle.std.proofs.lemmas.Bool.Decides.{nat_tests}
use Rattle.pd_lex.specs.declared.token.TokenKind.TheVariants as kinds
use Rattle.pd_lex.specs.Octets.{is_digit}
use Rattle.pd_lex.specs.Tokens.{Item, lexeme, ending, bad}
use Rattle.pd_script.specs.Items.{is_token, is_next_int_within_u32, is_int_from, is_int_of, is_named, is_flags, is_option, is_num, is_dots, is_symbol, is_int_kind, is_num_kind, is_dots_kind, is_word_kind, is_symbol_kind, is_nonempty_digits, is_small, starts_event_or_end, text_of}
use Rattle.pd_script.specs.Values.{number, flags_of, with_ack, find_option_by_name}
use Rattle.pd_script.specs.Reader.{Reader, done, one, when, onto}
use Rattle.pd_script.specs.TokenReading.{symbol_at, int_at, dots_at}
use Rattle.pd_script.specs.PacketReading.{int_from_at, int_of_at, named_at, letters_at, option_name_at, repeated_at, no_flags_at, point_at, lettered_at, flags_at, octets_at, numbered_at, ack_at, win_at, block_at, blocks_at, timestamp_at, option_rest_at, option_at, next_option_at, some_options_at, listed_at, unlisted_at, any_options_at, list_at, inside_options_at, bracketed_options_at, options_at, packet_at}
use Rattle.pd_script.specs.Spelling.{Spelling, token, made, either, IsSymbol, IsInt, IsDots, Repeats}
use Rattle.pd_script.specs.PacketGrammar.{IsIntFrom, IsIntOf, IsNamed, IsLetters, IsOptionName, IsNoFlags, IsPoint, IsLettered, IsFlags, IsOctets, IsNumbered, IsAck, IsWin, IsBlock, AreBlocks, IsTimestamp, IsOptionRest, IsOption, IsNextOption, AreOptions, IsListed, IsUnlisted, IsAnyOptions, IsList, IsInsideOptions, IsBracketedOptions, IsOptions, IsPacket}
use Rattle.pd_script.specs.declared.names.OptionName.{OptionName}
use Rattle.pd_script.specs.declared.names.OptionName.TheVariants as names
use Rattle.pd_script.specs.declared.packets.PacketFlags.{PacketFlags}
use Rattle.pd_script.specs.declared.packets.SackBlock.{SackBlock}
use Rattle.pd_script.specs.declared.packets.PacketOption.{PacketOption}
use Rattle.pd_script.specs.declared.packets.PacketOption.TheVariants as options
use Rattle.pd_script.specs.declared.packets.Options.TheVariants as lists
use Rattle.pd_script.proofs.Laws.{any, ok}
use Rattle.pd_script.proofs.Matches.{Reads, Reads-one, Reads-bind, Reads-bind_if, Reads-done, Reads-when, Reads-widen, Reads-narrow, Reads-optional}
use Rattle.pd_script.proofs.Apart.{IsOf, and-left, and-right, and-false-right, or-left, or-right, or-elim, or-elim-no, not-true, not-false, apart, text_apart, int_kind, num_kind, dots_kind, symbol_kind, symbol_apart, end_no_token}
use Rattle.pd_script.proofs.ArgumentLaws.{a_token}
use Rattle.pd_script.proofs.TokenLaws.{IsSymbolOf, all, but, last, tail, symbol, int, dots, NoStart, goes_on_not, symbol_no_start}
use Rattle.pd_script.proofs.Repeating.{Reads-repeated, cons_is}
use Rattle.pd_script.proofs.Plain.{is_plain}

-- ---- tokens

pub named_kind : (name : List ℕ) → IsOf is_word_kind (is_named name)
named_kind name = record { kind = at }
  where
    at : (x : Item) → is_named name x ≡ true → is_token (λ k text. is_word_kind k) x ≡ true
    at (lexeme x) h = and-left _ _ h
    at (ending line) h = h
    at (bad line) h = h

flags_kind : IsOf is_word_kind is_flags
flags_kind = record { kind = at }
  where
    at : (x : Item) → is_flags x ≡ true → is_token (λ k text. is_word_kind k) x ≡ true
    at (lexeme x) h = and-left _ _ h
    at (ending line) h = h
    at (bad line) h = h

option_kind : IsOf is_word_kind is_option
option_kind = record { kind = at }
  where
    at : (x : Item) → is_option x ≡ true → is_token (λ k text. is_word_kind k) x ≡ true
    at (lexeme x) h = and-left _ _ h
    at (ending line) h = h
    at (bad line) h = h

named : (name : List ℕ) → is_named name (a_token kinds.Word name) ≡ true → is_plain (a_token kinds.Word name) ≡ true → Reads (named_at name) (IsNamed name) (is_named name) any
named name h g = last (one (is_named name)) (λ t. tt) (token (is_named name)) (is_named name) any (Reads-one is_word_kind (is_named name) (a_token kinds.Word name) (named_kind name) h g)

letters : Reads letters_at IsLetters is_flags any
letters = last (one is_flags) (λ t. flags_of (text_of t)) (token is_flags) is_flags any (Reads-one is_word_kind is_flags (a_token kinds.Word (83 ∷ [])) flags_kind refl refl)

option_name : Reads option_name_at IsOptionName is_option any
unfolding find_option_by_name
option_name = last (one is_option) (λ t. unwrap_or (find_option_by_name (text_of t)) names.Nop) (token is_option) is_option any (Reads-one is_word_kind is_option (a_token kinds.Word (codes "nop")) option_kind refl refl)

int_from_kind : (least : ℕ) → IsOf is_int_kind (is_int_from least)
int_from_kind least = record { kind = λ x h. int_kind.kind x (and-left (is_next_int_within_u32 x) _ h) }

int_from : (least : ℕ) → least ≤ 4294967295 → Reads (int_from_at least) (IsIntFrom least) (is_int_from least) any
int_from least h =
    let reached : nat_le least 4294967295 ≡ true = grind (arith, nat_tests) in
    last (one (is_int_from least)) (λ t. number (text_of t)) (token (is_int_from least)) (is_int_from least) any (Reads-one is_int_kind (is_int_from least) (a_token kinds.Int (codes "4294967295")) (int_from_kind least) reached refl)

digit_is : (c : ℕ) → digit_value c < 10 → is_digit c ≡ true
digit_is c h = grind (arith, nat_tests)

digits_are : (ds : List ℕ) → AllDigits 10 ds → list_all is_digit ds ≡ true
digits_are [] h = refl
digits_are (c ∷ ds) h = rw (digit_is c h.0, digits_are ds h.1) refl

some_digits : (n : ℕ) → 0 < n → nat_lt 0 n ≡ true
some_digits n h = grind (arith, nat_tests)

small_is : (n : ℕ) → n ≤ 4294967295 → is_small n ≡ true
small_is n h = grind (arith, nat_tests)

same_is : (n : ℕ) → (n == n) ≡ true
same_is n = grind (arith, nat_tests)

int_of_kind : (n : ℕ) → IsOf is_int_kind (is_int_of n)
int_of_kind n = record { kind = λ x h. int_kind.kind x (and-left (is_next_int_within_u32 x) _ h) }

int_of : (n : ℕ) → n ≤ 4294967295 → Reads (int_of_at n) (IsIntOf n) (is_int_of n) any
int_of n h =
    let D = decimal_is_IsNumeral n (omega arith) in
    let value : digits_value 10 (decimal n) ≡ n = D.1 in
    let passes : is_int_of n (a_token kinds.Int (decimal n)) ≡ true = rw (value, small_is n h, same_is n) refl in
    let plain : is_nonempty_digits (decimal n) ≡ true = rw (some_digits (length (decimal n)) D.0.0, digits_are (decimal n) D.0.1) refl in
    last (one (is_int_of n)) (λ t. number (text_of t)) (token (is_int_of n)) (is_int_of n) any (Reads-one is_int_kind (is_int_of n) (a_token kinds.Int (decimal n)) (int_of_kind n) passes plain)

int_bound : (t : Item) → is_next_int_within_u32 t ≡ true → number (text_of t) ≤ 4294967295
int_bound (lexeme x) h =
    let small : nat_le (number x.text) 4294967295 ≡ true = and-right (is_int_kind x.kind) _ h in
    grind (arith, nat_tests)
int_bound (ending line) h = absurd cc
int_bound (bad line) h = absurd cc

int_small : (ts : List Item) (v : ℕ) (rest : List Item) → IsInt v ts rest → v ≤ 4294967295
int_small ts v rest h = subst (λ (x : ℕ). x ≤ 4294967295) h.3.0 (int_bound h.0 h.2.1)

int_from_small : (least : ℕ) (ts : List Item) (v : ℕ) (rest : List Item) → IsIntFrom least v ts rest → v ≤ 4294967295
int_from_small least ts v rest h = subst (λ (x : ℕ). x ≤ 4294967295) h.3.0 (int_bound h.0 (and-left (is_next_int_within_u32 h.0) _ h.2.1))

-- ---- flags

abbrev but_point : Item → Bool
but_point = but (is_symbol 46)

Reads-point : (f : PacketFlags) → Reads (point_at f) (IsPoint f) (is_symbol 46) but_point
Reads-point f = last (symbol_at 46) (λ line. with_ack f) (IsSymbol ".") (is_symbol 46) but_point (symbol 46 refl refl)

Reads-lettered : Reads lettered_at IsLettered is_flags but_point
Reads-lettered =
    Reads-bind letters_at _ IsLetters _ is_flags any any but_point letters
    (λ f. tail (is_symbol 46) (point_at f) (IsPoint f) f (Reads-point f) (λ w rest e. absurd cc))
    (all any)

abbrev starts_flags : Item → Bool
starts_flags t = is_symbol 46 t || is_flags t

flags_no_symbol : (octet : ℕ) (t : Item) → is_flags t ≡ true → is_symbol octet t ≡ false
flags_no_symbol octet t h = apart is_word_kind is_symbol_kind is_flags (is_symbol octet) refl flags_kind (symbol_kind octet) t h

Reads-some_flags : Reads (when (is_symbol 46) (point_at (flags_of [])) lettered_at) (either (IsPoint (flags_of [])) IsLettered) starts_flags but_point
Reads-some_flags =
    Reads-when (is_symbol 46) (point_at (flags_of [])) lettered_at (IsPoint (flags_of [])) IsLettered (is_symbol 46) is_flags starts_flags but_point
    (Reads-point (flags_of []))
    Reads-lettered
    (λ t h. h)
    (flags_no_symbol 46)
    (λ w rest e. absurd cc)
    (λ t h. or-left (is_symbol 46 t) (is_flags t) h)
    (λ t h. or-right (is_symbol 46 t) (is_flags t) h)

Reads-flags : Reads flags_at IsFlags any but_point
unfolding flags_at IsFlags
Reads-flags =
    Reads-when (is_symbol 45) no_flags_at (when (is_symbol 46) (point_at (flags_of [])) lettered_at) IsNoFlags (either (IsPoint (flags_of [])) IsLettered) (is_symbol 45) starts_flags any but_point
    (last (symbol_at 45) (λ line. flags_of []) (IsSymbol "-") (is_symbol 45) but_point (symbol 45 refl refl))
    Reads-some_flags
    (λ t h. h)
    (λ t h. or-elim-no (is_symbol 46 t) (is_flags t) (is_symbol 45 t) (symbol_apart 46 45 refl t) (flags_no_symbol 45 t) h)
    (λ w rest e. absurd cc)
    (all (is_symbol 45))
    (all starts_flags)

int_no_point : (t : Item) → is_next_int_within_u32 t ≡ true → but_point t ≡ true
int_no_point t h = not-false (is_symbol 46 t) (apart is_int_kind is_symbol_kind is_next_int_within_u32 (is_symbol 46) refl int_kind (symbol_kind 46) t h)

-- ---- numbers

Reads-octets : Reads octets_at IsOctets is_next_int_within_u32 any
unfolding octets_at IsOctets
Reads-octets =
    Reads-bind_if int_at _ IsInt _ (λ start. start ≤ 4294967295) is_next_int_within_u32 any (is_symbol 58) any int_small int
    (λ start small. Reads-bind (symbol_at 58) _ (IsSymbol ":") _ (is_symbol 58) any (is_int_from start) any (symbol 58 refl refl)
    (λ colon. Reads-bind_if (int_from_at start) _ (IsIntFrom start) _ (λ end. end ≤ 4294967295) (is_int_from start) any (is_symbol 40) any (int_from_small start) (int_from start small)
    (λ end bound. Reads-bind (symbol_at 40) _ (IsSymbol "(") _ (is_symbol 40) any (is_int_of (end - start)) any (symbol 40 refl refl)
    (λ opening. Reads-bind (int_of_at (end - start)) _ (IsIntOf (end - start)) _ (is_int_of (end - start)) any (is_symbol 41) any (int_of (end - start) (omega arith))
    (λ len. last (symbol_at 41) (λ closing. (start, end, len)) (IsSymbol ")") (is_symbol 41) any (symbol 41 refl refl))
    (all (is_symbol 41)))
    (all (is_int_of (end - start))))
    (all (is_symbol 40)))
    (all (is_int_from start)))
    (all (is_symbol 58))

Reads-numbered : (name : List ℕ) → Reads (named_at name) (IsNamed name) (is_named name) any → Reads (numbered_at name) (IsNumbered name) (is_named name) any
Reads-numbered name word =
    Reads-bind (named_at name) _ (IsNamed name) _ (is_named name) any is_next_int_within_u32 any word
    (λ line. last int_at (λ n. Some n) IsInt is_next_int_within_u32 any int)
    (all is_next_int_within_u32)

abbrev ack_name : List ℕ
ack_name = codes "ack"

abbrev win_name : List ℕ
win_name = codes "win"

-- what may follow the window
abbrev follows_win : Item → Bool
follows_win t = is_symbol 60 t || starts_event_or_end t

-- what may follow the acknowledgment number
abbrev follows_ack : Bool → Item → Bool
follows_ack true t = is_named win_name t
follows_ack false t = is_named win_name t || follows_win t

named_no_start : (name : List ℕ) → NoStart (is_named name)
named_no_start name = record {
  num_is = apart is_num_kind is_word_kind is_num (is_named name) refl num_kind (named_kind name);
  plus_is = apart is_symbol_kind is_word_kind (is_symbol 43) (is_named name) refl (symbol_kind 43) (named_kind name);
  star_is = apart is_symbol_kind is_word_kind (is_symbol 42) (is_named name) refl (symbol_kind 42) (named_kind name);
  end_is = λ t h. end_no_token (λ kind text. is_word_kind kind && bytes_eq text name) t h;
}

win_follows_not : (name : List ℕ) (t : Item) → follows_win t ≡ true → is_named name t ≡ false
win_follows_not name t h =
    or-elim-no (is_symbol 60 t) (starts_event_or_end t) (is_named name t)
    (apart is_symbol_kind is_word_kind (is_symbol 60) (is_named name) refl (symbol_kind 60) (named_kind name) t)
    (goes_on_not (is_named name) (named_no_start name) t) h

named_apart : (a b : List ℕ) → bytes_eq a b ≡ false → (t : Item) → is_named a t ≡ true → is_named b t ≡ false
named_apart a b other (lexeme x) h = and-false-right (is_word_kind x.kind) (bytes_eq x.text b) (text_apart x.text a b other (and-right (is_word_kind x.kind) _ h))
named_apart a b other (ending line) h = refl
named_apart a b other (bad line) h = refl

ack_follows_not : (inbound : Bool) (t : Item) → follows_ack inbound t ≡ true → is_named ack_name t ≡ false
ack_follows_not true t h = named_apart win_name ack_name refl t h
ack_follows_not false t h = or-elim-no (is_named win_name t) (follows_win t) (is_named ack_name t) (named_apart win_name ack_name refl t) (win_follows_not ack_name t) h

numbered_ack : Reads (numbered_at ack_name) (IsNumbered ack_name) (is_named ack_name) any
numbered_ack = Reads-numbered ack_name (named ack_name refl refl)

numbered_win : Reads (numbered_at win_name) (IsNumbered win_name) (is_named win_name) any
numbered_win = Reads-numbered win_name (named win_name refl refl)

abbrev starts_ack : Bool → Item → Bool
starts_ack inbound t = is_named ack_name t || follows_ack inbound t

Reads-ack : (inbound : Bool) → Reads ack_at IsAck (starts_ack inbound) (follows_ack inbound)
unfolding ack_at IsAck
Reads-ack inbound = Reads-optional (is_named ack_name) (follows_ack inbound) (numbered_at ack_name) (IsNumbered ack_name) None (Reads-narrow any (follows_ack inbound) numbered_ack (all (follows_ack inbound))) (ack_follows_not inbound) (λ w rest e. absurd cc)

Reads-win : (inbound : Bool) → Reads (win_at inbound) (IsWin inbound) (follows_ack inbound) follows_win
unfolding win_at IsWin
Reads-win true = Reads-narrow any follows_win numbered_win (all follows_win)
Reads-win false = Reads-optional (is_named win_name) follows_win (numbered_at win_name) (IsNumbered win_name) None (Reads-narrow any follows_win numbered_win (all follows_win)) (win_follows_not win_name) (λ w rest e. absurd cc)

-- ---- options

symbol_less : (octet : ℕ) (v : ℕ) (ts rest : List Item) → IsSymbolOf octet v ts rest → length rest < length ts
symbol_less octet v ts rest h = omega (arith, ap length h.2.0, ap length h.3.1)

int_less : (v : ℕ) (ts rest : List Item) → IsInt v ts rest → length rest < length ts
int_less v ts rest h = omega (arith, ap length h.2.0, ap length h.3.1)

-- what is left is no longer
not_longer : {A : Type 0} {p : Reader A} {P : Spelling A} {f s : Item → Bool} (v : A) (ts rest : List Item) → Reads p P f s → P v ts rest → length rest ≤ length ts
not_longer v ts rest r h = let T = r.takes ts v rest h in omega (arith, ap length T.1, length-append T.0 rest)

Reads-block : Reads block_at IsBlock is_next_int_within_u32 any
Reads-block =
    Reads-bind int_at _ IsInt _ is_next_int_within_u32 any (is_symbol 58) any int
    (λ left. Reads-bind (symbol_at 58) _ (IsSymbol ":") _ (is_symbol 58) any is_next_int_within_u32 any (symbol 58 refl refl)
    (λ colon. last int_at (λ right. record { left = left; right = right }) IsInt is_next_int_within_u32 any int)
    (all is_next_int_within_u32))
    (all (is_symbol 58))

pub block_less : (ts : List Item) (v : SackBlock) (rest : List Item) → block_at ts ≡ ok v rest → length rest < length ts
block_less ts v rest e =
    let h = Reads-block.sound ts v rest e in
    let first = int_less h.0 ts h.1 h.2 in
    let colon = symbol_less 58 h.3.0 h.1 h.3.1 h.3.2 in
    let right = int_less h.3.3.0 h.3.1 h.3.3.1 h.3.3.2 in
    let same : length h.3.3.1 ≡ length rest = ap length h.3.3.3.1 in
    omega arith

abbrev but_int : Item → Bool
but_int = but is_next_int_within_u32

abbrev follows_block : Item → Bool
follows_block t = is_next_int_within_u32 t || but_int t

Reads-blocks : Reads blocks_at AreBlocks is_next_int_within_u32 but_int
unfolding blocks_at AreBlocks
Reads-blocks =
    Reads-bind block_at _ IsBlock _ is_next_int_within_u32 any follows_block but_int Reads-block
    (λ b. Reads-bind (repeated_at is_next_int_within_u32 block_at) (λ bs. done (b ∷ bs)) (Repeats IsBlock) (λ bs. made (b ∷ bs)) follows_block but_int but_int but_int
    (Reads-repeated is_next_int_within_u32 block_at block_less IsBlock any but_int Reads-block (λ t h. not-true (is_next_int_within_u32 t) h) (all follows_block))
    (λ bs. Reads-done (b ∷ bs) but_int)
    (λ t h. h))
    (all follows_block)

Reads-timestamp : Reads timestamp_at IsTimestamp (is_named (codes "val")) but_int
Reads-timestamp =
    Reads-bind (named_at (codes "val")) _ (IsNamed (codes "val")) _ (is_named (codes "val")) any is_next_int_within_u32 but_int (named (codes "val") refl refl)
    (λ val. Reads-bind int_at _ IsInt _ is_next_int_within_u32 any (is_named (codes "ecr")) but_int int
    (λ v. Reads-bind (named_at (codes "ecr")) _ (IsNamed (codes "ecr")) _ (is_named (codes "ecr")) any is_next_int_within_u32 but_int (named (codes "ecr") refl refl)
    (λ ecr. last int_at (λ e. options.Timestamp v e) IsInt is_next_int_within_u32 but_int int)
    (all is_next_int_within_u32))
    (all (is_named (codes "ecr"))))
    (all is_next_int_within_u32)

any_done : {A : Type 0} (x : A) → Reads (done x) (made x) any but_int
any_done x = Reads-widen but_int any (Reads-done x but_int) (all but_int)

Reads-option_rest : (name : OptionName) → Reads (option_rest_at name) (IsOptionRest name) any but_int
unfolding option_rest_at IsOptionRest
Reads-option_rest names.Mss = Reads-widen is_next_int_within_u32 any (last int_at (λ n. options.Mss n) IsInt is_next_int_within_u32 but_int int) (all is_next_int_within_u32)
Reads-option_rest names.Wscale = Reads-widen is_next_int_within_u32 any (last int_at (λ n. options.Wscale n) IsInt is_next_int_within_u32 but_int int) (all is_next_int_within_u32)
Reads-option_rest names.SackOk = any_done options.SackOk
Reads-option_rest names.Nop = any_done options.Nop
Reads-option_rest names.Eol = any_done options.Eol
Reads-option_rest names.Timestamp = Reads-widen (is_named (codes "val")) any Reads-timestamp (all (is_named (codes "val")))
Reads-option_rest names.Sack = Reads-widen is_next_int_within_u32 any (Reads-bind blocks_at (λ bs. done (options.Sack bs)) AreBlocks (λ bs. made (options.Sack bs)) is_next_int_within_u32 but_int but_int but_int Reads-blocks (λ bs. Reads-done (options.Sack bs) but_int) (λ t h. h)) (all is_next_int_within_u32)

Reads-option : Reads option_at IsOption is_option but_int
unfolding option_at IsOption
Reads-option = Reads-bind option_name_at option_rest_at IsOptionName IsOptionRest is_option any any but_int option_name Reads-option_rest (all any)

Reads-next_option : Reads next_option_at IsNextOption (is_symbol 44) but_int
Reads-next_option = Reads-bind (symbol_at 44) (λ comma. option_at) (IsSymbol ",") (λ comma. IsOption) (is_symbol 44) any is_option but_int (symbol 44 refl refl) (λ comma. Reads-option) (all is_option)

pub next_option_less : (ts : List Item) (v : PacketOption) (rest : List Item) → next_option_at ts ≡ ok v rest → length rest < length ts
next_option_less ts v rest e =
    let h = Reads-next_option.sound ts v rest e in
    let comma = symbol_less 44 h.0 ts h.1 h.2 in
    let after = not_longer v h.1 rest Reads-option h.3 in
    omega arith

abbrev follows_option : Item → Bool
follows_option t = is_symbol 44 t || is_symbol 62 t

symbol_no_int : (octet : ℕ) (t : Item) → is_symbol octet t ≡ true → but_int t ≡ true
symbol_no_int octet t h = not-false (is_next_int_within_u32 t) (apart is_symbol_kind is_int_kind (is_symbol octet) is_next_int_within_u32 refl (symbol_kind octet) int_kind t h)

option_then : (t : Item) → follows_option t ≡ true → but_int t ≡ true
option_then t h = or-elim (is_symbol 44 t) (is_symbol 62 t) (but_int t) (symbol_no_int 44 t) (symbol_no_int 62 t) h

Reads-some_options : Reads some_options_at AreOptions is_option (is_symbol 62)
unfolding some_options_at AreOptions
Reads-some_options =
    Reads-bind option_at _ IsOption _ is_option but_int follows_option (is_symbol 62) Reads-option
    (λ o. Reads-bind (repeated_at (is_symbol 44) next_option_at) (λ os. done (o ∷ os)) (Repeats IsNextOption) (λ os. made (o ∷ os)) follows_option (is_symbol 62) (is_symbol 62) (is_symbol 62)
    (Reads-repeated (is_symbol 44) next_option_at next_option_less IsNextOption but_int (is_symbol 62) Reads-next_option (symbol_apart 62 44 refl) option_then)
    (λ os. Reads-done (o ∷ os) (is_symbol 62))
    (λ t h. h))
    option_then

abbrev starts_list : Item → Bool
starts_list t = is_symbol 62 t || is_option t

option_no_symbol : (t : Item) → is_option t ≡ true → is_symbol 62 t ≡ false
option_no_symbol = apart is_word_kind is_symbol_kind is_option (is_symbol 62) refl option_kind (symbol_kind 62)

Reads-list : Reads list_at IsList starts_list any
Reads-list =
    Reads-when (is_symbol 62) unlisted_at listed_at IsUnlisted IsListed (is_symbol 62) is_option starts_list any
    (last (symbol_at 62) (λ closing. lists.Listed []) (IsSymbol ">") (is_symbol 62) any (symbol 62 refl refl))
    (Reads-bind some_options_at _ AreOptions _ is_option (is_symbol 62) (is_symbol 62) any Reads-some_options
    (λ os. last (symbol_at 62) (λ closing. lists.Listed os) (IsSymbol ">") (is_symbol 62) any (symbol 62 refl refl))
    (λ t h. h))
    (λ t h. h)
    option_no_symbol
    (λ w rest e. absurd cc)
    (λ t h. or-left (is_symbol 62 t) (is_option t) h)
    (λ t h. or-right (is_symbol 62 t) (is_option t) h)

list_no_dots : (t : Item) → starts_list t ≡ true → is_dots t ≡ false
list_no_dots t h =
    or-elim-no (is_symbol 62 t) (is_option t) (is_dots t)
    (apart is_symbol_kind is_dots_kind (is_symbol 62) is_dots refl (symbol_kind 62) dots_kind t)
    (apart is_word_kind is_dots_kind is_option is_dots refl option_kind dots_kind t) h

Reads-inside_options : (inbound : Bool) → Reads (inside_options_at inbound) (IsInsideOptions inbound) any any
Reads-inside_options true = Reads-widen starts_list any Reads-list (all starts_list)
Reads-inside_options false =
    Reads-when is_dots any_options_at list_at IsAnyOptions IsList is_dots starts_list any any
    (Reads-bind dots_at _ IsDots _ is_dots any (is_symbol 62) any dots
    (λ line. last (symbol_at 62) (λ closing. lists.Any) (IsSymbol ">") (is_symbol 62) any (symbol 62 refl refl))
    (all (is_symbol 62)))
    Reads-list
    (λ t h. h)
    list_no_dots
    (λ w rest e. absurd cc)
    (all is_dots)
    (all starts_list)

Reads-bracketed : (inbound : Bool) → Reads (bracketed_options_at inbound) (IsBracketedOptions inbound) (is_symbol 60) any
Reads-bracketed inbound = Reads-bind (symbol_at 60) (λ opening. inside_options_at inbound) (IsSymbol "<") (λ opening. IsInsideOptions inbound) (is_symbol 60) any any any (symbol 60 refl refl) (λ opening. Reads-inside_options inbound) (all any)

Reads-options : (inbound : Bool) → Reads (options_at inbound) (IsOptions inbound) follows_win starts_event_or_end
unfolding options_at IsOptions
Reads-options inbound = Reads-optional (is_symbol 60) starts_event_or_end (bracketed_options_at inbound) (IsBracketedOptions inbound) lists.Absent (Reads-narrow any starts_event_or_end (Reads-bracketed inbound) (all starts_event_or_end)) (goes_on_not (is_symbol 60) (symbol_no_start 60 refl refl)) (λ w rest e. absurd cc)

-- ---- packets

pub Reads-packet : (inbound : Bool) → Reads (packet_at inbound) (IsPacket inbound) any starts_event_or_end
unfolding packet_at IsPacket
Reads-packet inbound =
    Reads-bind flags_at _ IsFlags _ any but_point is_next_int_within_u32 starts_event_or_end Reads-flags
    (λ flags. Reads-bind octets_at _ IsOctets _ is_next_int_within_u32 any (starts_ack inbound) starts_event_or_end Reads-octets
    (λ octets. Reads-bind ack_at _ IsAck _ (starts_ack inbound) (follows_ack inbound) (follows_ack inbound) starts_event_or_end (Reads-ack inbound)
    (λ ack. Reads-bind (win_at inbound) _ (IsWin inbound) _ (follows_ack inbound) follows_win follows_win starts_event_or_end (Reads-win inbound)
    (λ win. Reads-bind (options_at inbound) (λ os. done _) (IsOptions inbound) (λ os. made _) follows_win starts_event_or_end starts_event_or_end starts_event_or_end (Reads-options inbound) (λ os. Reads-done _ starts_event_or_end) (λ t h. h))
    (λ t h. h))
    (λ t h. h))
    (all (starts_ack inbound)))
    int_no_point

-- ---- steps of the code

pub blocks_err : (xs rest : List Item) → block_at xs ≡ Err rest → blocks_at xs ≡ Err rest
unfolding blocks_at
blocks_err xs rest e = rw e refl

pub blocks_begin : (xs ys : List Item) (b : SackBlock) → block_at xs ≡ Ok (b, ys) → onto (b ∷ []) (repeated_at is_next_int_within_u32 block_at ys) ≡ blocks_at xs
unfolding blocks_at
blocks_begin xs ys b e = rw e (sym (cons_is b (repeated_at is_next_int_within_u32 block_at ys)))

pub options_err : (xs rest : List Item) → option_at xs ≡ Err rest → some_options_at xs ≡ Err rest
unfolding some_options_at
options_err xs rest e = rw e refl

pub options_begin : (xs ys : List Item) (o : PacketOption) → option_at xs ≡ Ok (o, ys) → onto (o ∷ []) (repeated_at (is_symbol 44) next_option_at ys) ≡ some_options_at xs
unfolding some_options_at
options_begin xs ys o e = rw e (sym (cons_is o (repeated_at (is_symbol 44) next_option_at ys)))
