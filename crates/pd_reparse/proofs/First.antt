-- The headers of two texts, and their first events.
use Rattle.std.proofs.Common.{◌≡◌, ℕ, zero, suc, ◌+◌, ◌<◌, ◌≤◌, Bool, true, false, cond, List, [], ◌∷◌, ◌++◌, length, take, max, ◌&&◌, refl, sym, ap, subst, ◌∙◌, arith}
use Rattle.std.specs.List.{list_all, count_by}
use Rattle.std.specs.Str.{bytes_eq}
use Rattle.std.proofs.lemmas.List.Recursion.{is_count_by}
use Rattle.std.proofs.lemmas.List.Sums.{common_prefix_len-le}
use Rattle.std.proofs.Math.Numerals.{one-add}
use Rattle.std.proofs.lemmas.Slice.Eq.{bytes_eq-Decides}
use Rattle.pd_text.specs.Text.{AreLines, common_prefix}
use Rattle.pd_lex.specs.declared.token.Place.{Place}
use Rattle.pd_lex.specs.Places.{first_place}
use Rattle.pd_lex.specs.Tokens.{Item, lexeme, ending, bad}
use Rattle.pd_lex.specs.Lexing.{items}
use Rattle.pd_lex.specs.Agreement.{last_line, IsInOrder, AgreeTo, ItemsAreInOrder, FirstLinesAgree}
use Rattle.pd_script.specs.declared.script_events.Event.{Event}
use Rattle.pd_script.specs.Items.{is_header, starts_event, next_is}
use Rattle.pd_script.specs.Script.{header_of, header_end, header_in, after_header, script_of}
use Rattle.pd_script.proofs.Apart.{is_lexeme}
use Rattle.pd_script.proofs.GrammarLaws.{Reads-event}
use Rattle.pd_reparse.specs.declared.parsed_event.ParsedEvent.{ParsedEvent}
use Rattle.pd_reparse.specs.Reading.{ReadingView, parsed_events_in, reading_in, reading_of, events_of, is_decided_within_first_lines, kept_of, IsReadingOfFirst}
use Rattle.pd_script.specs.Header.{place_after_item}
use Rattle.pd_reparse.proofs.Scripts.{reading_is_script}
use Rattle.pd_reparse.proofs.Common.{shared}
use Rattle.pd_reparse.proofs.Stays.{tally, first_is, both, after as after_tokens, Stay, stays, start_stays, starts_no_header}

-- ---- headers

pub record Header (ts : List Item) : Type 0 where
  pub front : List Item
  pub parts : ts ≡ front ++ after_header ts
  pub all : list_all is_header front ≡ true
  pub tokens : list_all is_lexeme front ≡ true

pub header_parts : (ts : List Item) → Header ts
header_parts [] = record { front = []; parts = refl; all = refl; tokens = refl }
header_parts (lexeme x ∷ ts) = by_test (is_header (lexeme x)) refl (header_parts ts)
  where
    by_test : (b : Bool) → is_header (lexeme x) ≡ b → Header ts → Header (lexeme x ∷ ts)
    by_test true h H = record { front = lexeme x ∷ H.front; parts = rw h (ap (λ (l : List Item). lexeme x ∷ l) H.parts); all = rw h H.all; tokens = H.tokens }
    by_test false h H = record { front = []; parts = rw h refl; all = refl; tokens = refl }
header_parts (ending n ∷ ts) = record { front = []; parts = refl; all = refl; tokens = refl }
header_parts (bad n ∷ ts) = record { front = []; parts = refl; all = refl; tokens = refl }

header_alone : (ts : List Item) → next_is is_header ts ≡ false → (header_of ts ≡ []) × (after_header ts ≡ ts)
header_alone [] h = (refl, refl)
header_alone (t ∷ ts) h = (rw h refl, rw h refl)

end_alone : (p : Place) (ts : List Item) → next_is is_header ts ≡ false → header_end p ts ≡ p
end_alone p [] h = refl
end_alone p (t ∷ ts) h = rw h refl

-- what follows a header doesn't change it
same_items : (hs xs : List Item) → list_all is_header hs ≡ true → next_is is_header xs ≡ false → (header_of (hs ++ xs) ≡ header_of hs) × (after_header (hs ++ xs) ≡ xs)
same_items [] xs all none = header_alone xs none
same_items (h ∷ hs) xs all none = by_test (is_header h) refl all (λ g. same_items hs xs g none)
  where
    by_test : (b : Bool) → is_header h ≡ b → (b && list_all is_header hs) ≡ true → (list_all is_header hs ≡ true → (header_of (hs ++ xs) ≡ header_of hs) × (after_header (hs ++ xs) ≡ xs)) → (header_of (h ∷ (hs ++ xs)) ≡ header_of (h ∷ hs)) × (after_header (h ∷ (hs ++ xs)) ≡ xs)
    by_test true e g ih = let S = ih g in (rw (e, S.0) refl, rw e S.1)
    by_test false e g ih = absurd cc

same_end : (p : Place) (hs xs ys : List Item) → list_all is_header hs ≡ true → next_is is_header xs ≡ false → next_is is_header ys ≡ false → header_end p (hs ++ xs) ≡ header_end p (hs ++ ys)
same_end p [] xs ys all one other = end_alone p xs one ∙ sym (end_alone p ys other)
same_end p (h ∷ hs) xs ys all one other = by_test (is_header h) refl all (λ g. same_end (place_after_item p h) hs xs ys g one other)
  where
    by_test : (b : Bool) → is_header h ≡ b → (b && list_all is_header hs) ≡ true → (list_all is_header hs ≡ true → header_end (place_after_item p h) (hs ++ xs) ≡ header_end (place_after_item p h) (hs ++ ys)) → header_end p (h ∷ (hs ++ xs)) ≡ header_end p (h ∷ (hs ++ ys))
    by_test true e g ih = rw e (ih g)
    by_test false e g ih = absurd cc

same_header : (hs xs ys : List Item) → list_all is_header hs ≡ true → next_is is_header xs ≡ false → next_is is_header ys ≡ false → header_in (hs ++ xs) ≡ header_in (hs ++ ys)
same_header hs xs ys all one other =
    let same : header_of (hs ++ xs) ≡ header_of (hs ++ ys) = (same_items hs xs all one).0 ∙ sym (same_items hs ys all other).0 in
    rw (same, same_end first_place hs xs ys all one other) refl

-- ---- both texts

starts_after : (ts : List Item) → next_is starts_event ts ≡ true → next_is is_header ts ≡ false
starts_after [] h = refl
starts_after (t ∷ ts) h = starts_no_header t h

pub record Again (k : ℕ) (xs ys : List Item) : Type 0 where
  pub header : header_in xs ≡ header_in ys
  pub stay : Stay 4096 k (parsed_events_in 4096 (after_header xs)).events (after_header ys)

again : (same line last k : ℕ) (xs ys : List Item) → IsInOrder line last xs → AgreeTo same xs ys → suc k ≤ tally same (parsed_events_in 4096 (after_header xs)).events → (m : ℕ) → IsInOrder m last (after_header xs) → Again (suc k) xs ys
again same line last k xs ys up agree le m up_after =
    let F = first_is same 4095 k m last (after_header xs) up_after le in
    let H = header_parts xs in
    let K = Reads-event.takes (after_header xs) F.e (lexeme F.x ∷ F.rest) (Reads-event.sound (after_header xs) F.e (lexeme F.x ∷ F.rest) F.is.reads) in
    let B = after_tokens m last K.0 (lexeme F.x ∷ F.rest) K.2 (subst (λ (l : List Item). IsInOrder m last l) K.1 up_after) in
    let ends : last_line F.x ≡ F.x.from.line = B.rises.3 (start_stays F.x F.is.begins) in
    let parts : xs ≡ H.front ++ (K.0 ++ lexeme F.x ∷ F.rest) = H.parts ∙ ap (λ (l : List Item). H.front ++ l) K.1 in
    let S = shared same line last H.front K.0 F.x F.rest ys H.tokens K.2 (omega (arith, ends, F.is.within)) (subst (λ (l : List Item). IsInOrder line last l) parts up) (subst (λ (l : List Item). AgreeTo same l ys) parts agree) in
    let agree_after : AgreeTo same (after_header xs) S.more = subst (λ (l : List Item). AgreeTo same l S.more) (sym K.1) S.agree in
    let Two = both same 4095 m last (after_header xs) S.more F.e F.x F.rest up_after agree_after F.is in
    let one : next_is is_header (after_header xs) ≡ false = starts_after (after_header xs) F.is.start in
    let other : next_is is_header S.more ≡ false = starts_after S.more Two.is.start in
    let after_ys : after_header ys ≡ S.more = ap after_header S.parts ∙ (same_items H.front S.more H.all other).1 in
    record {
      header = ap header_in H.parts ∙ same_header H.front (after_header xs) S.more H.all one other ∙ ap header_in (sym S.parts);
      stay = subst (λ (l : List Item). Stay 4096 (suc k) (parsed_events_in 4096 (after_header xs)).events l) (sym after_ys) (stays 4096 same m last (suc k) (after_header xs) S.more up_after agree_after le);
    }

-- ---- texts

pub tally_is : (same : ℕ) (ds : List ParsedEvent) → tally same ds ≡ count_by (λ (d : ParsedEvent). is_decided_within_first_lines same d.lookahead_line) ds
tally_is same ds = is_count_by (tally same) (λ (d : ParsedEvent). is_decided_within_first_lines same d.lookahead_line) refl (λ d ds. refl) ds

pub kept_is : (same : ℕ) (r : ReadingView) → kept_of same r ≡ tally same r.events
unfolding kept_of
kept_is same r = sym (tally_is same r.events)

pub in_order_after : (line last : ℕ) (ts : List Item) → IsInOrder line last ts → (m : ℕ) × IsInOrder m last (after_header ts)
in_order_after line last ts up =
    let H = header_parts ts in
    let B = after_tokens line last H.front (after_header ts) H.tokens (subst (λ (l : List Item). IsInOrder line last l) H.parts up) in
    (B.from, B.rises)

-- some event of the reading of a text is decided by lines that another text has too
pub again_in : ItemsAreInOrder → FirstLinesAgree → (lines others : List (List ℕ)) (same k : ℕ) → AreLines lines → AreLines others → same ≤ length lines → take same lines ≡ take same others → suc k ≤ kept_of same (reading_of lines) → Again (suc k) (items lines first_place) (items others first_place)
unfolding reading_of reading_in
again_in order first lines others same k plain plain_others within equal le =
    let up = order lines first_place plain in
    let agree = first lines others same first_place plain plain_others within equal in
    let B = in_order_after 1 (max 1 (length lines)) (items lines first_place) up in
    again same 1 (max 1 (length lines)) k (items lines first_place) (items others first_place) up agree (subst (λ (n : ℕ). suc k ≤ n) (kept_is same (reading_in (items lines first_place))) le) B.0 B.1

pub tally_short : (same : ℕ) (ds : List ParsedEvent) → tally same ds ≤ length ds
tally_short same [] = omega arith
tally_short same (d ∷ ds) = by_test (is_decided_within_first_lines same d.lookahead_line) (tally_short same ds)
  where
    by_test : (b : Bool) → tally same ds ≤ length ds → cond b (1 + tally same ds) (tally same ds) ≤ suc (length ds)
    by_test true h = omega (arith, h)
    by_test false h = omega (arith, h)

take_again : {X : Type 0} (k : ℕ) (xs zs : List X) → k ≤ length xs → take k (take k xs ++ zs) ≡ take k xs
take_again zero xs zs h = refl
take_again (suc k) [] zs h = absurd (omega (arith, h))
take_again (suc k) (x ∷ xs) zs h = ap (λ l. x ∷ l) (take_again k xs zs (omega (arith, h)))

-- the equal first lines are equal
pub front_equal : (xs ys : List (List ℕ)) → take (common_prefix xs ys) xs ≡ take (common_prefix xs ys) ys
front_equal [] ys = refl
front_equal (x ∷ xs) [] = refl
front_equal (x ∷ xs) (y ∷ ys) = by_test (bytes_eq x y) refl (front_equal xs ys)
  where
    by_test : (b : Bool) → bytes_eq x y ≡ b → take (common_prefix xs ys) xs ≡ take (common_prefix xs ys) ys → take (cond b (1 + common_prefix xs ys) 0) (x ∷ xs) ≡ take (cond b (1 + common_prefix xs ys) 0) (y ∷ ys)
    by_test true e h = let same : x ≡ y = (bytes_eq-Decides x y).0 e in rw (one-add, same) (ap (λ (l : List (List ℕ)). y ∷ l) h)
    by_test false e h = refl

pub first_stay : ItemsAreInOrder → FirstLinesAgree → (lines others : List (List ℕ)) (count : ℕ) → AreLines lines → AreLines others → 0 < count → count ≤ kept_of (common_prefix lines others) (reading_of lines) → ((reading_of lines).header ≡ (reading_of others).header) × (take count (reading_of lines).events ≡ take count (reading_of others).events)
unfolding reading_of reading_in
first_stay order first lines others zero plain plain_others some le = absurd (omega (arith, some))
first_stay order first lines others (suc k) plain plain_others some le =
    let A = again_in order first lines others (common_prefix lines others) k plain plain_others (common_prefix_len-le bytes_eq lines others).0 (front_equal lines others) le in
    let olds = (reading_of lines).events in
    let short : suc k ≤ length olds = omega (arith, le, kept_is (common_prefix lines others) (reading_of lines), tally_short (common_prefix lines others) olds) in
    (A.header, sym (rw A.stay.read (take_again (suc k) olds _ short)))

pub first_of_scripts_stay : ItemsAreInOrder → FirstLinesAgree → (lines others : List (List ℕ)) (count : ℕ) → AreLines lines → AreLines others → 0 < count → count ≤ kept_of (common_prefix lines others) (reading_of lines) → ((script_of lines).header ≡ (script_of others).header) × (take count (script_of lines).events ≡ take count (script_of others).events)
first_of_scripts_stay order first lines others count plain plain_others some le =
    let S = first_stay order first lines others count plain plain_others some le in
    rw (← reading_is_script lines, ← reading_is_script others) (S.0, sym (taken count (reading_of lines).events) ∙ ap events_of S.1 ∙ taken count (reading_of others).events)
  where
    taken : (k : ℕ) (ds : List ParsedEvent) → events_of (take k ds) ≡ take k (events_of ds)
    taken zero ds = refl
    taken (suc k) [] = refl
    taken (suc k) (d ∷ ds) = ap (λ (es : List Event). d.event ∷ es) (taken k ds)

-- the reading of a text, for a text with which it has so many first lines in common
pub reads_front : (text lines : List (List ℕ)) (r : ReadingView) (same : ℕ) → AreLines text → r ≡ reading_of text → same ≡ common_prefix text lines → IsReadingOfFirst same lines r
reads_front text lines r same plain read is =
    rw is (record { text = text; plain = plain; read = read; within = (common_prefix_len-le bytes_eq text lines).0; equal = front_equal text lines })
