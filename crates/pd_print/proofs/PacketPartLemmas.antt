-- The flags, the octets, the ack number and the window of a packet are read as what was written.
use Rattle.std.proofs.Common.{◌≡◌, ℕ, ◌-◌, ◌≤◌, Bool, true, false, cond, List, [], ◌∷◌, ◌++◌, Option, Some, None, refl, sym, ap, subst, ◌∙◌, arith, inl, inr}
use Rattle.std.specs.Prelude.{codes, IfSome, ◌≢◌}
use Rattle.std.specs.List.{list_all}
use Rattle.std.specs.Str.{bytes_eq}
use Rattle.std.specs.Fmt.{decimal}
use Rattle.pd_text.specs.Text.{has_no_newline}
use Rattle.pd_lex.specs.declared.token.Place.{Place}
use Rattle.pd_lex.specs.declared.token.TokenKind.TheVariants.{Word}
use Rattle.pd_lex.specs.Octets.{is_word}
use Rattle.pd_lex.specs.Scanned.{IsLeftAt, begins_name}
use Rattle.pd_lex.specs.Tokens.{lexeme}
use Rattle.pd_lex.specs.Lexing.{items}
use Rattle.pd_script.specs.declared.packets.PacketFlags.{PacketFlags}
use Rattle.pd_script.specs.Items.{is_flags, text_of}
use Rattle.pd_script.specs.Values.{is_flag_letter, flags_of}
use Rattle.pd_script.specs.Spelling.{IsInt}
use Rattle.pd_script.specs.PacketGrammar.{IsFlags, IsOctets, IsNumbered, IsAck, IsWin}
use Rattle.pd_print.specs.Packets.{flags_text, numbered}
use Rattle.pd_print.specs.RoundTrip.{IsSmall}
use Rattle.pd_print.proofs.Lexemes.{ends_number, symbol_front, point_front, dash_front}
use Rattle.pd_print.proofs.Leaves.{ReadTo, over_space, spaced, one_read, symbol_read, int_read, int_from_read, int_of_read, word_passed, named_read}

-- the point, if it is written
abbrev point : Bool → List ℕ
point ack = cond ack (46 ∷ []) []

module _ (lines : List (List ℕ)) (plain : list_all has_no_newline lines ≡ true) where
  lettered : (letters : List ℕ) (ack : Bool) (p : Place) (rest : List ℕ) → begins_name letters ≡ true → list_all is_word letters ≡ true → list_all is_flag_letter letters ≡ true → IsLeftAt lines p (letters ++ (point ack ++ (32 ∷ rest))) → ReadTo lines PacketFlags IsFlags (record (flags_of letters) { ack = ack }) p (32 ∷ rest)
  unfolding IsFlags flags_of
  lettered letters true p rest begins words flags h =
      let w = word_passed lines plain letters p (46 ∷ 32 ∷ rest) begins words refl h in
      let l = one_read lines plain PacketFlags is_flags (λ t. flags_of (text_of t)) (flags_of letters) p (lexeme (record { kind = Word; text = letters; from = p })) (46 ∷ 32 ∷ rest) w flags refl in
      let ack = symbol_read lines plain 46 l.to (32 ∷ rest) l.left refl refl (point_front rest) in
      record { to = ack.to; line = ack.line ∙ l.line; left = ack.left; spelled = inr (inr (flags_of letters, items lines l.to, l.spelled, inl (l.to.line, items lines ack.to, ack.spelled, (refl, refl)))) }
  lettered letters false p rest begins words flags h =
      let w = word_passed lines plain letters p (32 ∷ rest) begins words refl h in
      let l = one_read lines plain PacketFlags is_flags (λ t. flags_of (text_of t)) (flags_of letters) p (lexeme (record { kind = Word; text = letters; from = p })) (32 ∷ rest) w flags refl in
      record { to = l.to; line = l.line; left = l.left; spelled = inr (inr (flags_of letters, items lines l.to, l.spelled, inr (refl, refl))) }

  -- the flags by their bits
  abbrev of_bits : Bool → Bool → Bool → Bool → Bool → PacketFlags
  of_bits fin syn rst psh ack = record { syn = syn; fin = fin; rst = rst; psh = psh; ack = ack; other = false }

  flags_by : (fin syn rst psh ack : Bool) (p : Place) (rest : List ℕ) → IsLeftAt lines p (flags_text (of_bits fin syn rst psh ack) ++ (32 ∷ rest)) → ReadTo lines PacketFlags IsFlags (of_bits fin syn rst psh ack) p (32 ∷ rest)
  unfolding IsFlags flags_of
  flags_by false false false false false p rest h =
      let minus = symbol_read lines plain 45 p (32 ∷ rest) h refl refl (dash_front rest) in
      record { to = minus.to; line = minus.line; left = minus.left; spelled = inl (p.line, items lines minus.to, minus.spelled, (refl, refl)) }
  flags_by false false false false true p rest h =
      let ack = symbol_read lines plain 46 p (32 ∷ rest) h refl refl (point_front rest) in
      record { to = ack.to; line = ack.line; left = ack.left; spelled = inr (inl (p.line, items lines ack.to, ack.spelled, (refl, refl))) }
  flags_by false false false true ack p rest h = lettered (80 ∷ []) ack p rest refl refl refl h
  flags_by false false true false ack p rest h = lettered (82 ∷ []) ack p rest refl refl refl h
  flags_by false false true true ack p rest h = lettered (82 ∷ 80 ∷ []) ack p rest refl refl refl h
  flags_by false true false false ack p rest h = lettered (83 ∷ []) ack p rest refl refl refl h
  flags_by false true false true ack p rest h = lettered (83 ∷ 80 ∷ []) ack p rest refl refl refl h
  flags_by false true true false ack p rest h = lettered (83 ∷ 82 ∷ []) ack p rest refl refl refl h
  flags_by false true true true ack p rest h = lettered (83 ∷ 82 ∷ 80 ∷ []) ack p rest refl refl refl h
  flags_by true false false false ack p rest h = lettered (70 ∷ []) ack p rest refl refl refl h
  flags_by true false false true ack p rest h = lettered (70 ∷ 80 ∷ []) ack p rest refl refl refl h
  flags_by true false true false ack p rest h = lettered (70 ∷ 82 ∷ []) ack p rest refl refl refl h
  flags_by true false true true ack p rest h = lettered (70 ∷ 82 ∷ 80 ∷ []) ack p rest refl refl refl h
  flags_by true true false false ack p rest h = lettered (70 ∷ 83 ∷ []) ack p rest refl refl refl h
  flags_by true true false true ack p rest h = lettered (70 ∷ 83 ∷ 80 ∷ []) ack p rest refl refl refl h
  flags_by true true true false ack p rest h = lettered (70 ∷ 83 ∷ 82 ∷ []) ack p rest refl refl refl h
  flags_by true true true true ack p rest h = lettered (70 ∷ 83 ∷ 82 ∷ 80 ∷ []) ack p rest refl refl refl h

  pub flags_read : (f : PacketFlags) (p : Place) (rest : List ℕ) → f.other ≡ false → IsLeftAt lines p (flags_text f ++ (32 ∷ rest)) → ReadTo lines PacketFlags IsFlags f p (32 ∷ rest)
  flags_read f p rest none h =
      let same : of_bits f.fin f.syn f.rst f.psh f.ack ≡ f = ap (λ (b : Bool). record { syn = f.syn; fin = f.fin; rst = f.rst; psh = f.psh; ack = f.ack; other = b }) (sym none) in
      subst (λ (x : PacketFlags). ReadTo lines PacketFlags IsFlags x p (32 ∷ rest)) same (flags_by f.fin f.syn f.rst f.psh f.ack p rest h)

  -- ---- octets

  pub octets_read : (start end : ℕ) (p : Place) (rest : List ℕ) → start ≤ end → IsSmall end → IsLeftAt lines p (decimal start ++ (58 ∷ (decimal end ++ (40 ∷ (decimal (end - start) ++ (41 ∷ rest)))))) → ReadTo lines (ℕ × ℕ × ℕ) IsOctets (start, end, end - start) p rest
  unfolding IsOctets
  octets_read start end p rest order small h =
      let len = decimal (end - start) ++ (41 ∷ rest) in
      let a = int_read lines plain start p (58 ∷ (decimal end ++ (40 ∷ len))) (omega (arith, order, small)) refl h in
      let colon = symbol_read lines plain 58 a.to (decimal end ++ (40 ∷ len)) a.left refl refl (symbol_front 58 (decimal end ++ (40 ∷ len)) refl) in
      let b = int_from_read lines plain start end colon.to (40 ∷ len) order small refl colon.left in
      let opening = symbol_read lines plain 40 b.to len b.left refl refl (symbol_front 40 len refl) in
      let c = int_of_read lines plain (end - start) opening.to (41 ∷ rest) (omega (arith, small)) refl opening.left in
      let closing = symbol_read lines plain 41 c.to rest c.left refl refl (symbol_front 41 rest refl) in
      record {
        to = closing.to;
        line = closing.line ∙ (c.line ∙ (opening.line ∙ (b.line ∙ (colon.line ∙ a.line))));
        left = closing.left;
        spelled = (start, items lines a.to, a.spelled, (a.to.line, items lines colon.to, colon.spelled, (end, items lines b.to, b.spelled, (b.to.line, items lines opening.to, opening.spelled, (end - start, items lines c.to, c.spelled, (c.to.line, items lines closing.to, closing.spelled, (refl, refl)))))));
      }

  -- ---- a word and a number

  pub numbered_read : (w : List ℕ) (n : ℕ) (p : Place) (rest : List ℕ) → begins_name w ≡ true → list_all is_word w ≡ true → bytes_eq w w ≡ true → IsSmall n → ends_number rest ≡ true → IsLeftAt lines p (w ++ (32 ∷ (decimal n ++ rest))) → ReadTo lines (Option ℕ) (IsNumbered w) (Some n) p rest
  numbered_read w n p rest begins all same small ends h =
      let word = named_read lines plain w p (32 ∷ (decimal n ++ rest)) begins all same refl h in
      let gap = over_space lines plain word.to (decimal n ++ rest) word.left in
      let number = spaced lines plain ℕ IsInt n word.to (decimal n ++ rest) rest gap (int_read lines plain n gap.to rest small ends gap.left) in
      record { to = number.to; line = number.line ∙ word.line; left = number.left; spelled = (tt, items lines word.to, word.spelled, (n, items lines number.to, number.spelled, (refl, refl))) }

  pub ack_read : (ack : Option ℕ) (p : Place) (rest : List ℕ) → IfSome ack IsSmall → ends_number rest ≡ true → IsLeftAt lines p (numbered (codes " ack ") ack ++ rest) → ReadTo lines (Option ℕ) IsAck ack p rest
  unfolding IsAck
  ack_read None p rest small ends h = record { to = p; line = refl; left = h; spelled = inr (refl, refl) }
  ack_read (Some n) p rest small ends h =
      let gap = over_space lines plain p (codes "ack " ++ (decimal n ++ rest)) h in
      let r = spaced lines plain (Option ℕ) (IsNumbered (codes "ack")) (Some n) p (codes "ack " ++ (decimal n ++ rest)) rest gap (numbered_read (codes "ack") n gap.to rest refl refl refl small ends gap.left) in
      record { to = r.to; line = r.line; left = r.left; spelled = inl r.spelled }

  some_win : (n : ℕ) (p : Place) (rest : List ℕ) → IsSmall n → ends_number rest ≡ true → IsLeftAt lines p (numbered (codes " win ") (Some n) ++ rest) → ReadTo lines (Option ℕ) (IsNumbered (codes "win")) (Some n) p rest
  some_win n p rest small ends h =
      let gap = over_space lines plain p (codes "win " ++ (decimal n ++ rest)) h in
      spaced lines plain (Option ℕ) (IsNumbered (codes "win")) (Some n) p (codes "win " ++ (decimal n ++ rest)) rest gap (numbered_read (codes "win") n gap.to rest refl refl refl small ends gap.left)

  pub win_read : (inbound : Bool) (win : Option ℕ) (p : Place) (rest : List ℕ) → (inbound ≡ true → win ≢ None) → IfSome win IsSmall → ends_number rest ≡ true → IsLeftAt lines p (numbered (codes " win ") win ++ rest) → ReadTo lines (Option ℕ) (IsWin inbound) win p rest
  unfolding IsWin
  win_read true None p rest some small ends h = absurd (some refl refl)
  win_read true (Some n) p rest some small ends h = some_win n p rest small ends h
  win_read false None p rest some small ends h = record { to = p; line = refl; left = h; spelled = inr (refl, refl) }
  win_read false (Some n) p rest some small ends h =
      let r = some_win n p rest small ends h in
      record { to = r.to; line = r.line; left = r.left; spelled = inl r.spelled }
