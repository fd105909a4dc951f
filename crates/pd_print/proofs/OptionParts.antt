-- The TCP options of a packet are read as what was written.
use Rattle.std.proofs.Common.{◌≡◌, ℕ, ◌<◌, Bool, true, false, List, [], ◌∷◌, ◌++◌, length, Some, refl, ap, subst, ◌∙◌, arith, append_assoc, inl, inr}
use Rattle.std.specs.Prelude.{codes, flat_map, ◌≢◌, unwrap_or, ⊤}
use Rattle.std.specs.List.{list_all, AllByRecursion}
use Rattle.std.specs.Str.{bytes_eq}
use Rattle.std.specs.Fmt.{decimal}
use Rattle.pd_text.specs.Text.{has_no_newline}
use Rattle.pd_lex.specs.declared.token.Place.{Place}
use Rattle.pd_lex.specs.declared.token.TokenKind.TheVariants.{Word, Dots}
use Rattle.pd_lex.specs.Octets.{is_word}
use Rattle.pd_lex.specs.Scanned.{IsLeftAt, begins_name}
use Rattle.pd_lex.specs.Tokens.{Item, lexeme}
use Rattle.pd_lex.specs.Lexing.{items}
use Rattle.pd_script.specs.declared.names.OptionName.{OptionName}
use Rattle.pd_script.specs.declared.names.OptionName.TheVariants as names
use Rattle.pd_script.specs.declared.packets.SackBlock.{SackBlock}
use Rattle.pd_script.specs.declared.packets.PacketOption.{PacketOption}
use Rattle.pd_script.specs.declared.packets.PacketOption.TheVariants as options
use Rattle.pd_script.specs.declared.packets.Options.{Options}
use Rattle.pd_script.specs.declared.packets.Options.TheVariants as lists
use Rattle.pd_script.specs.Items.{is_option, is_dots, text_of}
use Rattle.pd_script.specs.Values.{find_option_by_name}
use Rattle.pd_script.specs.Spelling.{IsInt, Repeats}
use Rattle.pd_script.specs.PacketGrammar.{IsNamed, IsOptionName, IsBlock, AreBlocks, IsOptionRest, IsOption, IsNextOption, AreOptions, IsList, IsInsideOptions, IsOptions}
use Rattle.pd_print.specs.Options.{block_text, option_text, next_option_text, list_text, options_text}
use Rattle.pd_print.specs.RoundTrip.{IsSmall, FitsBlock, IsSmallOption, AreSmallOptions, HasBlock, HaveBlocks}
use Rattle.pd_print.proofs.Lexemes.{ends_word, ends_number, number_ends_word, symbol_front, dots_front}
use Rattle.pd_print.proofs.Leaves.{ReadTo, passed, over_space, spaced, one_read, symbol_read, int_read, word_passed, named_read}

-- an option that can be written
abbrev pub FitsOption : PacketOption → Type 0
FitsOption o = IsSmallOption o × HasBlock o

both : (os : List PacketOption) → AllByRecursion IsSmallOption os → AllByRecursion HasBlock os → AllByRecursion FitsOption os
both [] small blocks = tt
both (o ∷ os) small blocks = ((small.0, blocks.0), both os small.1 blocks.1)

-- what follows ends a number
blocks_end : (bs : List SackBlock) (rest : List ℕ) → ends_number rest ≡ true → ends_number (flat_map block_text bs ++ rest) ≡ true
blocks_end [] rest h = h
blocks_end (b ∷ bs) rest h = refl

others_end : (os : List PacketOption) (rest : List ℕ) → ends_number rest ≡ true → ends_number (flat_map next_option_text os ++ rest) ≡ true
others_end [] rest h = h
others_end (o ∷ os) rest h = refl

pub options_end : (o : Options) (rest : List ℕ) → ends_number rest ≡ true → ends_number (options_text o ++ rest) ≡ true
options_end lists.Absent rest h = h
options_end lists.Any rest h = refl
options_end (lists.Listed os) rest h = refl

module _ (lines : List (List ℕ)) (plain : list_all has_no_newline lines ≡ true) where
  -- ---- blocks

  block_read : (b : SackBlock) (p : Place) (rest : List ℕ) → FitsBlock b → ends_number rest ≡ true → IsLeftAt lines p (block_text b ++ rest) → ReadTo lines SackBlock IsBlock b p rest
  block_read b p rest fits ends h =
      let right = decimal b.right ++ rest in
      let all : IsLeftAt lines p (32 ∷ (decimal b.left ++ (58 ∷ right))) = subst (IsLeftAt lines p) (ap (λ (s : List ℕ). 32 ∷ s) (append_assoc (decimal b.left) (58 ∷ decimal b.right) rest)) h in
      let gap = over_space lines plain p (decimal b.left ++ (58 ∷ right)) all in
      let left = spaced lines plain ℕ IsInt b.left p (decimal b.left ++ (58 ∷ right)) (58 ∷ right) gap (int_read lines plain b.left gap.to (58 ∷ right) fits.0 refl gap.left) in
      let colon = symbol_read lines plain 58 left.to right left.left refl refl (symbol_front 58 right refl) in
      let last = int_read lines plain b.right colon.to rest fits.1 ends colon.left in
      record {
        to = last.to;
        line = last.line ∙ (colon.line ∙ left.line);
        left = last.left;
        spelled = (b.left, items lines left.to, left.spelled, (left.to.line, items lines colon.to, colon.spelled, (b.right, items lines last.to, last.spelled, (refl, refl))));
      }

  blocks_read : (bs : List SackBlock) (p : Place) (rest : List ℕ) → AllByRecursion FitsBlock bs → ends_number rest ≡ true → IsLeftAt lines p (flat_map block_text bs ++ rest) → ReadTo lines (List SackBlock) (Repeats IsBlock) bs p rest
  blocks_read [] p rest fits ends h = record { to = p; line = refl; left = h; spelled = refl }
  blocks_read (b ∷ bs) p rest fits ends h =
      let after = flat_map block_text bs ++ rest in
      let all : IsLeftAt lines p (block_text b ++ after) = subst (IsLeftAt lines p) (append_assoc (block_text b) (flat_map block_text bs) rest) h in
      let one = block_read b p after fits.0 (blocks_end bs rest ends) all in
      let others = blocks_read bs one.to rest fits.1 ends one.left in
      record { to = others.to; line = others.line ∙ one.line; left = others.left; spelled = (items lines one.to, one.spelled, others.spelled) }

  some_blocks_read : (bs : List SackBlock) (p : Place) (rest : List ℕ) → 0 < length bs → AllByRecursion FitsBlock bs → ends_number rest ≡ true → IsLeftAt lines p (flat_map block_text bs ++ rest) → ReadTo lines (List SackBlock) AreBlocks bs p rest
  unfolding AreBlocks
  some_blocks_read [] p rest some fits ends h = absurd (omega (arith, some))
  some_blocks_read (b ∷ bs) p rest some fits ends h =
      let after = flat_map block_text bs ++ rest in
      let all : IsLeftAt lines p (block_text b ++ after) = subst (IsLeftAt lines p) (append_assoc (block_text b) (flat_map block_text bs) rest) h in
      let one = block_read b p after fits.0 (blocks_end bs rest ends) all in
      let others = blocks_read bs one.to rest fits.1 ends one.left in
      record { to = others.to; line = others.line ∙ one.line; left = others.left; spelled = (b, items lines one.to, one.spelled, (bs, items lines others.to, others.spelled, (refl, refl))) }

  -- ---- options

  name_read : (w : List ℕ) (name : OptionName) (p : Place) (rest : List ℕ) → begins_name w ≡ true → list_all is_word w ≡ true → find_option_by_name w ≡ Some name → ends_word rest ≡ true → IsLeftAt lines p (w ++ rest) → ReadTo lines OptionName IsOptionName name p rest
  name_read w name p rest begins all is ends h =
      one_read lines plain OptionName is_option (λ t. unwrap_or (find_option_by_name (text_of t)) names.Nop) name p (lexeme (record { kind = Word; text = w; from = p })) rest (word_passed lines plain w p rest begins all ends h) (rw is refl) (rw is refl)

  -- a number and a word after a blank
  int_after : (n : ℕ) (p : Place) (rest : List ℕ) → IsSmall n → ends_number rest ≡ true → IsLeftAt lines p (32 ∷ (decimal n ++ rest)) → ReadTo lines ℕ IsInt n p rest
  int_after n p rest small ends h =
      let gap = over_space lines plain p (decimal n ++ rest) h in
      spaced lines plain ℕ IsInt n p (decimal n ++ rest) rest gap (int_read lines plain n gap.to rest small ends gap.left)

  word_after : (w : List ℕ) (p : Place) (rest : List ℕ) → begins_name w ≡ true → list_all is_word w ≡ true → bytes_eq w w ≡ true → ends_word rest ≡ true → IsLeftAt lines p (32 ∷ (w ++ rest)) → ReadTo lines ⊤ (IsNamed w) tt p rest
  word_after w p rest begins all same ends h =
      let gap = over_space lines plain p (w ++ rest) h in
      spaced lines plain ⊤ (IsNamed w) tt p (w ++ rest) rest gap (named_read lines plain w gap.to rest begins all same ends gap.left)

  option_read : (o : PacketOption) (p : Place) (rest : List ℕ) → FitsOption o → ends_number rest ≡ true → IsLeftAt lines p (option_text o ++ rest) → ReadTo lines PacketOption IsOption o p rest
  unfolding IsOption IsOptionRest find_option_by_name
  option_read (options.Mss n) p rest fits ends h =
      let name = name_read (codes "mss") names.Mss p (32 ∷ (decimal n ++ rest)) refl refl refl refl h in
      let number = int_after n name.to rest fits.0 ends name.left in
      record { to = number.to; line = number.line ∙ name.line; left = number.left; spelled = (names.Mss, items lines name.to, name.spelled, (n, items lines number.to, number.spelled, (refl, refl))) }
  option_read (options.Wscale n) p rest fits ends h =
      let name = name_read (codes "wscale") names.Wscale p (32 ∷ (decimal n ++ rest)) refl refl refl refl h in
      let number = int_after n name.to rest fits.0 ends name.left in
      record { to = number.to; line = number.line ∙ name.line; left = number.left; spelled = (names.Wscale, items lines name.to, name.spelled, (n, items lines number.to, number.spelled, (refl, refl))) }
  option_read options.SackOk p rest fits ends h =
      let name = name_read (codes "sackOK") names.SackOk p rest refl refl refl (number_ends_word rest ends) h in
      record { to = name.to; line = name.line; left = name.left; spelled = (names.SackOk, items lines name.to, name.spelled, (refl, refl)) }
  option_read options.Nop p rest fits ends h =
      let name = name_read (codes "nop") names.Nop p rest refl refl refl (number_ends_word rest ends) h in
      record { to = name.to; line = name.line; left = name.left; spelled = (names.Nop, items lines name.to, name.spelled, (refl, refl)) }
  option_read options.Eol p rest fits ends h =
      let name = name_read (codes "eol") names.Eol p rest refl refl refl (number_ends_word rest ends) h in
      record { to = name.to; line = name.line; left = name.left; spelled = (names.Eol, items lines name.to, name.spelled, (refl, refl)) }
  option_read (options.Timestamp v e) p rest fits ends h =
      let echo = codes " ecr " ++ (decimal e ++ rest) in
      let all : IsLeftAt lines p (codes "TS val " ++ (decimal v ++ echo)) = subst (IsLeftAt lines p) (ap (λ (s : List ℕ). codes "TS val " ++ s) (append_assoc (decimal v) (codes " ecr " ++ decimal e) rest)) h in
      let name = name_read (codes "TS") names.Timestamp p (codes " val " ++ (decimal v ++ echo)) refl refl refl refl all in
      let val = word_after (codes "val") name.to (32 ∷ (decimal v ++ echo)) refl refl refl refl name.left in
      let value = int_after v val.to echo fits.0.0 refl val.left in
      let ecr = word_after (codes "ecr") value.to (32 ∷ (decimal e ++ rest)) refl refl refl refl value.left in
      let number = int_after e ecr.to rest fits.0.1 ends ecr.left in
      record {
        to = number.to;
        line = number.line ∙ (ecr.line ∙ (value.line ∙ (val.line ∙ name.line)));
        left = number.left;
        spelled = (names.Timestamp, items lines name.to, name.spelled, (tt, items lines val.to, val.spelled, (v, items lines value.to, value.spelled, (tt, items lines ecr.to, ecr.spelled, (e, items lines number.to, number.spelled, (refl, refl))))));
      }
  option_read (options.Sack bs) p rest fits ends h =
      let after = flat_map block_text bs ++ rest in
      let name = name_read (codes "sack") names.Sack p after refl refl refl (number_ends_word after (blocks_end bs rest ends)) h in
      let blocks = some_blocks_read bs name.to rest fits.1 fits.0 ends name.left in
      record { to = blocks.to; line = blocks.line ∙ name.line; left = blocks.left; spelled = (names.Sack, items lines name.to, name.spelled, (bs, items lines blocks.to, blocks.spelled, (refl, refl))) }

  others_read : (os : List PacketOption) (p : Place) (rest : List ℕ) → AllByRecursion FitsOption os → ends_number rest ≡ true → IsLeftAt lines p (flat_map next_option_text os ++ rest) → ReadTo lines (List PacketOption) (Repeats IsNextOption) os p rest
  others_read [] p rest fits ends h = record { to = p; line = refl; left = h; spelled = refl }
  others_read (o ∷ os) p rest fits ends h =
      let after = flat_map next_option_text os ++ rest in
      let all : IsLeftAt lines p (44 ∷ (option_text o ++ after)) = subst (IsLeftAt lines p) (append_assoc (next_option_text o) (flat_map next_option_text os) rest) h in
      let comma = symbol_read lines plain 44 p (option_text o ++ after) all refl refl (symbol_front 44 (option_text o ++ after) refl) in
      let one = option_read o comma.to after fits.0 (others_end os rest ends) comma.left in
      let others = others_read os one.to rest fits.1 ends one.left in
      record { to = others.to; line = others.line ∙ (one.line ∙ comma.line); left = others.left; spelled = (items lines one.to, (p.line, items lines comma.to, comma.spelled, one.spelled), others.spelled) }

  -- ---- options in angle brackets

  list_read : (os : List PacketOption) (p : Place) (rest : List ℕ) → AllByRecursion FitsOption os → IsLeftAt lines p (list_text os ++ (62 ∷ rest)) → ReadTo lines Options IsList (lists.Listed os) p rest
  unfolding AreOptions
  list_read [] p rest fits h =
      let closing = symbol_read lines plain 62 p rest h refl refl (symbol_front 62 rest refl) in
      record { to = closing.to; line = closing.line; left = closing.left; spelled = inl (p.line, items lines closing.to, closing.spelled, (refl, refl)) }
  list_read (o ∷ os) p rest fits h =
      let after = flat_map next_option_text os ++ (62 ∷ rest) in
      let all : IsLeftAt lines p (option_text o ++ after) = subst (IsLeftAt lines p) (append_assoc (option_text o) (flat_map next_option_text os) (62 ∷ rest)) h in
      let one = option_read o p after fits.0 (others_end os (62 ∷ rest) refl) all in
      let others = others_read os one.to (62 ∷ rest) fits.1 refl one.left in
      let closing = symbol_read lines plain 62 others.to rest others.left refl refl (symbol_front 62 rest refl) in
      record {
        to = closing.to;
        line = closing.line ∙ (others.line ∙ one.line);
        left = closing.left;
        spelled = inr (o ∷ os, items lines others.to, (o, items lines one.to, one.spelled, (os, items lines others.to, others.spelled, (refl, refl))), (others.to.line, items lines closing.to, closing.spelled, (refl, refl)));
      }

  inside : (inbound : Bool) (v : Options) (ts rest : List Item) → IsList v ts rest → IsInsideOptions inbound v ts rest
  inside true v ts rest h = h
  inside false v ts rest h = inr h

  pub options_read : (inbound : Bool) (o : Options) (p : Place) (rest : List ℕ) → (inbound ≡ true → o ≢ lists.Any) → AreSmallOptions o → HaveBlocks o → IsLeftAt lines p (options_text o ++ rest) → ReadTo lines Options (IsOptions inbound) o p rest
  unfolding IsOptions
  options_read inbound lists.Absent p rest written small blocks h = record { to = p; line = refl; left = h; spelled = inr (refl, refl) }
  options_read true lists.Any p rest written small blocks h = absurd (written refl refl)
  options_read false lists.Any p rest written small blocks h =
      let gap = over_space lines plain p (codes "<...>" ++ rest) h in
      let opening = symbol_read lines plain 60 gap.to (codes "...>" ++ rest) gap.left refl refl (symbol_front 60 (codes "...>" ++ rest) refl) in
      let dots = one_read lines plain ⊤ is_dots (λ t. tt) tt opening.to (lexeme (record { kind = Dots; text = codes "..."; from = opening.to })) (62 ∷ rest) (passed lines plain opening.to Dots (codes "...") (62 ∷ rest) opening.left refl (dots_front (62 ∷ rest))) refl refl in
      let closing = symbol_read lines plain 62 dots.to rest dots.left refl refl (symbol_front 62 rest refl) in
      let all : ReadTo lines Options (IsOptions false) lists.Any gap.to rest = record {
        to = closing.to;
        line = closing.line ∙ (dots.line ∙ opening.line);
        left = closing.left;
        spelled = inl (gap.to.line, items lines opening.to, opening.spelled, inl (tt, items lines dots.to, dots.spelled, (dots.to.line, items lines closing.to, closing.spelled, (refl, refl))));
      } in
      spaced lines plain Options (IsOptions false) lists.Any p (codes "<...>" ++ rest) rest gap all
  options_read inbound (lists.Listed os) p rest written small blocks h =
      let left : IsLeftAt lines p (32 ∷ 60 ∷ (list_text os ++ (62 ∷ rest))) = subst (IsLeftAt lines p) (ap (λ (s : List ℕ). 32 ∷ 60 ∷ s) (append_assoc (list_text os) (62 ∷ []) rest)) h in
      let gap = over_space lines plain p (60 ∷ (list_text os ++ (62 ∷ rest))) left in
      let opening = symbol_read lines plain 60 gap.to (list_text os ++ (62 ∷ rest)) gap.left refl refl (symbol_front 60 (list_text os ++ (62 ∷ rest)) refl) in
      let list = list_read os opening.to rest (both os small blocks) opening.left in
      let all : ReadTo lines Options (IsOptions inbound) (lists.Listed os) gap.to rest = record {
        to = list.to;
        line = list.line ∙ opening.line;
        left = list.left;
        spelled = inl (gap.to.line, items lines opening.to, opening.spelled, inside inbound (lists.Listed os) (items lines opening.to) (items lines list.to) list.spelled);
      } in
      spaced lines plain Options (IsOptions inbound) (lists.Listed os) p (60 ∷ (list_text os ++ (62 ∷ rest))) rest gap all
