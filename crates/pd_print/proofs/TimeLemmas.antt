-- A time is read as what was written.
use Rattle.std.proofs.Common.{◌≡◌, ℕ, ◌/◌, ◌%◌, ◌^◌, ◌<◌, ◌≤◌, true, false, nat_le, nat_lt, not, ◌==◌, List, ◌∷◌, ◌++◌, refl, ap, subst, ◌∙◌, arith, append_assoc, inl, inr}
use Rattle.std.specs.List.{list_all}
use Rattle.std.specs.Fmt.{decimal}
use Rattle.std.proofs.lemmas.List.{append-nil}
use Rattle.std.proofs.lemmas.List.Folds.{list_all-append}
use Rattle.std.proofs.lemmas.Bool.Decides.{nat_tests}
use Rattle.pd_text.specs.Text.{has_no_newline}
use Rattle.pd_lex.specs.declared.token.Place.{Place}
use Rattle.pd_lex.specs.declared.token.TokenKind.{TokenKind}
use Rattle.pd_lex.specs.declared.token.TokenKind.TheVariants.{Int, Decimal}
use Rattle.pd_lex.specs.Pieces.{front}
use Rattle.pd_lex.specs.Scanned.{IsLeftAt}
use Rattle.pd_lex.specs.Tokens.{lexeme, line_of}
use Rattle.pd_lex.specs.Lexing.{items}
use Rattle.pd_script.specs.declared.timing.Time.{Time}
use Rattle.pd_script.specs.declared.timing.Time.TheVariants as times
use Rattle.pd_script.specs.Items.{is_num_kind, is_num, is_num_from, text_of}
use Rattle.pd_script.specs.Values.{microseconds}
use Rattle.pd_script.specs.Grammar.{IsNum, IsNumFrom, IsTime}
use Rattle.pd_print.specs.Numbers.{shortest_digits, seconds_text, time_text}
use Rattle.pd_print.specs.RoundTrip.{IsShort, FitsTime}
use Rattle.pd_print.proofs.DigitLemmas.{Written, decimal_written, six_are_enough, shortest-digits, shortest-some}
use Rattle.pd_print.proofs.Seconds.{by_part, fraction_none, fraction_some, whole_small, microseconds_part, seconds_back}
use Rattle.pd_print.proofs.Lexemes.{ends_number, number_ends_word, int_front, decimal_front, symbol_front}
use Rattle.pd_print.proofs.Leaves.{Passed, ReadTo, digits_inside, passed, one_read, symbol_read}

-- seconds are one token, digits or digits with a point
pub record SecondsAt (lines : List (List ℕ)) (time_us : ℕ) (p : Place) (rest : List ℕ) : Type 0 where
  pub kind : TokenKind
  pub num : is_num_kind kind ≡ true
  pub at : Passed lines p (lexeme (record { kind = kind; text = seconds_text time_us; from = p })) rest

lt_is : (a b : ℕ) → a < b → nat_lt a b ≡ true
lt_is a b h = grind (arith, nat_tests)

le_is : (a b : ℕ) → a ≤ b → nat_le a b ≡ true
le_is a b h = grind (arith, nat_tests)

decimal_inside : (whole ds : List ℕ) → has_no_newline whole ≡ true → has_no_newline ds ≡ true → has_no_newline (whole ++ 46 ∷ ds) ≡ true
decimal_inside whole ds h g = list_all-append (λ octet. not (octet == 10)) whole (46 ∷ ds) ∙ rw (h, g) refl

module _ (lines : List (List ℕ)) (plain : list_all has_no_newline lines ≡ true) where
  seconds_at : (time_us : ℕ) (p : Place) (rest : List ℕ) → time_us < 2 ^ 64 → ends_number rest ≡ true → IsLeftAt lines p (seconds_text time_us ++ rest) → SecondsAt lines time_us p rest
  seconds_at time_us p rest small ends h = by_part (time_us % 1000000) (SecondsAt lines time_us p rest) none some
    where
      w : Written (time_us / 1000000) (decimal (time_us / 1000000))
      w = decimal_written (time_us / 1000000) (whole_small time_us small)

      none : time_us % 1000000 ≡ 0 → SecondsAt lines time_us p rest
      none e =
          let text : seconds_text time_us ≡ decimal (time_us / 1000000) = ap (λ (s : List ℕ). decimal (time_us / 1000000) ++ s) (fraction_none (time_us % 1000000) e) ∙ append-nil (decimal (time_us / 1000000)) in
          record {
            kind = Int;
            num = refl;
            at = passed lines plain p Int (seconds_text time_us) rest h (ap has_no_newline text ∙ digits_inside (decimal (time_us / 1000000)) w.digits) (ap (λ (s : List ℕ). front (s ++ rest)) text ∙ int_front (decimal (time_us / 1000000)) rest (time_us / 1000000) w ends);
          }

      some : (time_us % 1000000 == 0) ≡ false → 0 < time_us % 1000000 → SecondsAt lines time_us p rest
      some e more =
          let ds = shortest_digits 6 (time_us % 1000000) in
          let digits = shortest-digits 6 (time_us % 1000000) in
          let text : seconds_text time_us ≡ decimal (time_us / 1000000) ++ 46 ∷ ds = ap (λ (s : List ℕ). decimal (time_us / 1000000) ++ s) (fraction_some (time_us % 1000000) e) in
          let few = shortest-some 6 (time_us % 1000000) (six_are_enough (time_us % 1000000) (microseconds_part time_us)) more in
          record {
            kind = Decimal;
            num = refl;
            at = passed lines plain p Decimal (seconds_text time_us) rest h
                (ap has_no_newline text ∙ decimal_inside (decimal (time_us / 1000000)) ds (digits_inside (decimal (time_us / 1000000)) w.digits) (digits_inside ds digits))
                (ap (λ (s : List ℕ). front (s ++ rest)) text ∙ (ap front (append_assoc (decimal (time_us / 1000000)) (46 ∷ ds) rest) ∙ decimal_front (decimal (time_us / 1000000)) ds rest (time_us / 1000000) w digits few (number_ends_word rest ends)));
          }

  num_read : (time_us : ℕ) (p : Place) (rest : List ℕ) → IsShort time_us → ends_number rest ≡ true → IsLeftAt lines p (seconds_text time_us ++ rest) → ReadTo lines (ℕ × ℕ) IsNum (p.line, time_us) p rest
  num_read time_us p rest short ends h =
      let s = seconds_at time_us p rest (omega (arith, short)) ends h in
      let back = seconds_back time_us (omega (arith, short)) in
      one_read lines plain (ℕ × ℕ) is_num (λ t. (line_of t, microseconds (text_of t))) (p.line, time_us) p (lexeme (record { kind = s.kind; text = seconds_text time_us; from = p })) rest s.at
      (rw (s.num, back, lt_is time_us 4294967296000000 short) refl)
      (rw back refl)

  num_from_read : (least time_us : ℕ) (p : Place) (rest : List ℕ) → least ≤ time_us → IsShort time_us → ends_number rest ≡ true → IsLeftAt lines p (seconds_text time_us ++ rest) → ReadTo lines ℕ (IsNumFrom least) time_us p rest
  num_from_read least time_us p rest order short ends h =
      let s = seconds_at time_us p rest (omega (arith, short)) ends h in
      let back = seconds_back time_us (omega (arith, short)) in
      one_read lines plain ℕ (is_num_from least) (λ t. microseconds (text_of t)) time_us p (lexeme (record { kind = s.kind; text = seconds_text time_us; from = p })) rest s.at
      (rw (s.num, back, lt_is time_us 4294967296000000 short, le_is least time_us order) refl)
      back

  pub time_read : (time : Time) (p : Place) (rest : List ℕ) → FitsTime time → ends_number rest ≡ true → IsLeftAt lines p (time_text time ++ rest) → ReadTo lines (ℕ × Time) IsTime (p.line, time) p rest
  unfolding IsTime
  time_read times.Any p rest fits ends h =
      let star = symbol_read lines plain 42 p rest h refl refl (symbol_front 42 rest refl) in
      record { to = star.to; line = star.line; left = star.left; spelled = inl (p.line, items lines star.to, star.spelled, (refl, refl)) }
  time_read (times.Absolute time_us) p rest fits ends h =
      let n = num_read time_us p rest fits ends h in
      record { to = n.to; line = n.line; left = n.left; spelled = inr (inr ((p.line, time_us), items lines n.to, n.spelled, inr (refl, refl))) }
  time_read (times.Relative time_us) p rest fits ends h =
      let plus = symbol_read lines plain 43 p (seconds_text time_us ++ rest) h refl refl (symbol_front 43 (seconds_text time_us ++ rest) refl) in
      let n = num_read time_us plus.to rest fits ends plus.left in
      record { to = n.to; line = n.line ∙ plus.line; left = n.left; spelled = inr (inl (p.line, items lines plus.to, plus.spelled, ((plus.to.line, time_us), items lines n.to, n.spelled, inr (refl, refl)))) }
  time_read (times.AbsoluteRange first last) p rest fits ends h =
      let after = 126 ∷ (seconds_text last ++ rest) in
      let left : IsLeftAt lines p (seconds_text first ++ after) = subst (IsLeftAt lines p) (append_assoc (seconds_text first) (126 ∷ seconds_text last) rest) h in
      let n = num_read first p after (omega (arith, fits.0, fits.1)) refl left in
      let tilde = symbol_read lines plain 126 n.to (seconds_text last ++ rest) n.left refl refl (symbol_front 126 (seconds_text last ++ rest) refl) in
      let m = num_from_read first last tilde.to rest fits.0 fits.1 ends tilde.left in
      record { to = m.to; line = m.line ∙ (tilde.line ∙ n.line); left = m.left; spelled = inr (inr ((p.line, first), items lines n.to, n.spelled, inl (n.to.line, items lines tilde.to, tilde.spelled, (last, items lines m.to, m.spelled, (refl, refl))))) }
  time_read (times.RelativeRange first last) p rest fits ends h =
      let after = 126 ∷ 43 ∷ (seconds_text last ++ rest) in
      let left : IsLeftAt lines p (43 ∷ (seconds_text first ++ after)) = subst (IsLeftAt lines p) (ap (λ (s : List ℕ). 43 ∷ s) (append_assoc (seconds_text first) (126 ∷ 43 ∷ seconds_text last) rest)) h in
      let plus = symbol_read lines plain 43 p (seconds_text first ++ after) left refl refl (symbol_front 43 (seconds_text first ++ after) refl) in
      let n = num_read first plus.to after (omega (arith, fits.0, fits.1)) refl plus.left in
      let tilde = symbol_read lines plain 126 n.to (43 ∷ (seconds_text last ++ rest)) n.left refl refl (symbol_front 126 (43 ∷ (seconds_text last ++ rest)) refl) in
      let sign = symbol_read lines plain 43 tilde.to (seconds_text last ++ rest) tilde.left refl refl (symbol_front 43 (seconds_text last ++ rest) refl) in
      let m = num_from_read first last sign.to rest fits.0 fits.1 ends sign.left in
      record { to = m.to; line = m.line ∙ (sign.line ∙ (tilde.line ∙ (n.line ∙ plus.line))); left = m.left; spelled = inr (inl (p.line, items lines plus.to, plus.spelled, ((plus.to.line, first), items lines n.to, n.spelled, inl (n.to.line, items lines tilde.to, tilde.spelled, (last, items lines m.to, inl (tilde.to.line, items lines sign.to, sign.spelled, m.spelled), (refl, refl)))))) }
