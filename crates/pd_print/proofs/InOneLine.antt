-- The text that is written of an event has no newline.
use Rattle.std.proofs.Common.{◌≡◌, ℕ, ◌/◌, ◌%◌, ◌^◌, ◌<◌, Bool, true, false, cond, not, ◌==◌, List, [], ◌∷◌, ◌++◌, Option, Some, None, refl, ap, ◌∙◌, arith}
use Rattle.std.specs.Prelude.{codes, flat_map, IfSome, ◌||◌}
use Rattle.std.specs.List.{AllByRecursion}
use Rattle.std.specs.Fmt.{decimal}
use Rattle.std.proofs.lemmas.List.Folds.{list_all-append}
use Rattle.pd_text.specs.Text.{has_no_newline}
use Rattle.pd_script.specs.declared.timing.Time.{Time}
use Rattle.pd_script.specs.declared.timing.Time.TheVariants as times
use Rattle.pd_script.specs.declared.packets.PacketFlags.{PacketFlags}
use Rattle.pd_script.specs.declared.packets.SackBlock.{SackBlock}
use Rattle.pd_script.specs.declared.packets.PacketOption.{PacketOption}
use Rattle.pd_script.specs.declared.packets.PacketOption.TheVariants as options
use Rattle.pd_script.specs.declared.packets.Options.{Options}
use Rattle.pd_script.specs.declared.packets.Options.TheVariants as lists
use Rattle.pd_script.specs.declared.packets.Packet.{Packet}
use Rattle.pd_print.specs.declared.packet_texts.Direction.{Direction}
use Rattle.pd_print.specs.declared.packet_texts.Direction.TheVariants.{Inbound, Outbound}
use Rattle.pd_print.specs.Numbers.{shortest_digits, fraction_text, seconds_text, time_text}
use Rattle.pd_print.specs.Options.{block_text, option_text, next_option_text, list_text, options_text}
use Rattle.pd_print.specs.Packets.{flag_letter, point_text, flags_text, octets_text, numbered, fields_text, packet_text, arrow, event_text}
use Rattle.pd_print.specs.RoundTrip.{IsSmall, FitsTime, FitsBlock, IsSmallOption, AreSmallOptions, FitsPacket}
use Rattle.pd_print.proofs.DigitLemmas.{decimal_written, shortest-digits}
use Rattle.pd_print.proofs.Seconds.{by_part, fraction_none, fraction_some, whole_small}
use Rattle.pd_print.proofs.Leaves.{digits_inside}

both : (xs ys : List ℕ) → has_no_newline xs ≡ true → has_no_newline ys ≡ true → has_no_newline (xs ++ ys) ≡ true
both xs ys h g = list_all-append (λ octet. not (octet == 10)) xs ys ∙ rw (h, g) refl

number_inside : (n : ℕ) → n < 2 ^ 64 → has_no_newline (decimal n) ≡ true
number_inside n h = digits_inside (decimal n) (decimal_written n h).digits

small_inside : (n : ℕ) → IsSmall n → has_no_newline (decimal n) ≡ true
small_inside n h = number_inside n (omega (arith, h))

-- ---- times

fraction_inside : (part : ℕ) → has_no_newline (fraction_text part) ≡ true
fraction_inside part = by_part part (has_no_newline (fraction_text part) ≡ true) (λ e. ap has_no_newline (fraction_none part e)) (λ e more. ap has_no_newline (fraction_some part e) ∙ digits_inside (shortest_digits 6 part) (shortest-digits 6 part))

seconds_inside : (time_us : ℕ) → time_us < 2 ^ 64 → has_no_newline (seconds_text time_us) ≡ true
seconds_inside time_us h = both (decimal (time_us / 1000000)) (fraction_text (time_us % 1000000)) (number_inside (time_us / 1000000) (whole_small time_us h)) (fraction_inside (time_us % 1000000))

time_inside : (time : Time) → FitsTime time → has_no_newline (time_text time) ≡ true
time_inside times.Any fits = refl
time_inside (times.Absolute time_us) fits = seconds_inside time_us (omega (arith, fits))
time_inside (times.Relative time_us) fits = seconds_inside time_us (omega (arith, fits))
time_inside (times.AbsoluteRange first last) fits = both (seconds_text first) (126 ∷ seconds_text last) (seconds_inside first (omega (arith, fits.0, fits.1))) (seconds_inside last (omega (arith, fits.1)))
time_inside (times.RelativeRange first last) fits = both (seconds_text first) (126 ∷ 43 ∷ seconds_text last) (seconds_inside first (omega (arith, fits.0, fits.1))) (seconds_inside last (omega (arith, fits.1)))

-- ---- packets

letter_inside : (wanted : Bool) (octet : ℕ) → (octet == 10) ≡ false → has_no_newline (flag_letter wanted octet) ≡ true
letter_inside true octet h = rw h refl
letter_inside false octet h = refl

point_inside : (ack some : Bool) → has_no_newline (cond ack (46 ∷ []) (cond some [] (45 ∷ []))) ≡ true
point_inside true some = refl
point_inside false true = refl
point_inside false false = refl

flags_inside : (f : PacketFlags) → has_no_newline (flags_text f) ≡ true
flags_inside f =
    let fin = letter_inside f.fin 70 refl in
    let syn = letter_inside f.syn 83 refl in
    let rst = letter_inside f.rst 82 refl in
    let psh = letter_inside f.psh 80 refl in
    let two = both (flag_letter f.fin 70) (flag_letter f.syn 83) fin syn in
    let three = both (flag_letter f.fin 70 ++ flag_letter f.syn 83) (flag_letter f.rst 82) two rst in
    let four = both (flag_letter f.fin 70 ++ flag_letter f.syn 83 ++ flag_letter f.rst 82) (flag_letter f.psh 80) three psh in
    both (flag_letter f.fin 70 ++ flag_letter f.syn 83 ++ flag_letter f.rst 82 ++ flag_letter f.psh 80) (point_text f) four (point_inside f.ack (f.fin || f.syn || f.rst || f.psh))

octets_inside : (p : Packet) → IsSmall p.start → IsSmall p.end → IsSmall p.length → has_no_newline (octets_text p) ≡ true
octets_inside p start end len =
    let one = both (codes " " ++ decimal p.start) (codes ":" ++ decimal p.end) (small_inside p.start start) (small_inside p.end end) in
    let two = both (codes " " ++ decimal p.start ++ (codes ":" ++ decimal p.end)) (codes "(" ++ decimal p.length) one (small_inside p.length len) in
    both (codes " " ++ decimal p.start ++ (codes ":" ++ decimal p.end) ++ (codes "(" ++ decimal p.length)) (codes ")") two refl

numbered_inside : (word : List ℕ) (n : Option ℕ) → has_no_newline word ≡ true → IfSome n IsSmall → has_no_newline (numbered word n) ≡ true
numbered_inside word None h small = refl
numbered_inside word (Some n) h small = both word (decimal n) h (small_inside n small)

blocks_inside : (bs : List SackBlock) → AllByRecursion FitsBlock bs → has_no_newline (flat_map block_text bs) ≡ true
blocks_inside [] fits = refl
blocks_inside (b ∷ bs) fits =
    let one = both (codes " " ++ decimal b.left) (codes ":" ++ decimal b.right) (small_inside b.left fits.0.0) (small_inside b.right fits.0.1) in
    both (block_text b) (flat_map block_text bs) one (blocks_inside bs fits.1)

option_inside : (o : PacketOption) → IsSmallOption o → has_no_newline (option_text o) ≡ true
option_inside (options.Mss n) small = small_inside n small
option_inside (options.Wscale n) small = small_inside n small
option_inside options.SackOk small = refl
option_inside options.Nop small = refl
option_inside options.Eol small = refl
option_inside (options.Timestamp v e) small = both (codes "TS val " ++ decimal v) (codes " ecr " ++ decimal e) (small_inside v small.0) (small_inside e small.1)
option_inside (options.Sack blocks) small = blocks_inside blocks small

others_inside : (os : List PacketOption) → AllByRecursion IsSmallOption os → has_no_newline (flat_map next_option_text os) ≡ true
others_inside [] small = refl
others_inside (o ∷ os) small = both (next_option_text o) (flat_map next_option_text os) (option_inside o small.0) (others_inside os small.1)

list_inside : (os : List PacketOption) → AllByRecursion IsSmallOption os → has_no_newline (list_text os) ≡ true
list_inside [] small = refl
list_inside (o ∷ os) small = both (option_text o) (flat_map next_option_text os) (option_inside o small.0) (others_inside os small.1)

options_inside : (o : Options) → AreSmallOptions o → has_no_newline (options_text o) ≡ true
options_inside lists.Absent small = refl
options_inside lists.Any small = refl
options_inside (lists.Listed os) small = both (codes " <" ++ list_text os) (codes ">") (list_inside os small) refl

arrow_inside : (d : Direction) → has_no_newline (arrow d) ≡ true
arrow_inside Inbound = refl
arrow_inside Outbound = refl

packet_inside : (d : Direction) (p : Packet) → FitsPacket d p → has_no_newline (packet_text p) ≡ true
packet_inside d p fits =
    let start : IsSmall p.start = omega (arith, fits.order, fits.small) in
    let len : IsSmall p.length = omega (arith, fits.len, fits.small) in
    let front = both (flags_text p.flags) (octets_text p) (flags_inside p.flags) (octets_inside p start fits.small len) in
    let fields = both (numbered (codes " ack ") p.ack) (numbered (codes " win ") p.win) (numbered_inside (codes " ack ") p.ack refl fits.ack) (numbered_inside (codes " win ") p.win refl fits.win) in
    let three = both (flags_text p.flags ++ octets_text p) (fields_text p) front fields in
    both (flags_text p.flags ++ octets_text p ++ fields_text p) (options_text p.options) three (options_inside p.options fits.numbers)

pub event_inside : (time : Time) (d : Direction) (p : Packet) → FitsTime time → FitsPacket d p → has_no_newline (event_text time d p) ≡ true
event_inside time d p short fits =
    let front = both (time_text time) (arrow d) (time_inside time short) (arrow_inside d) in
    both (time_text time ++ arrow d) (packet_text p) front (packet_inside d p fits)
