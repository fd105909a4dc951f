-- Reads, each of which gives an octet but for the one that finds the end.
use Rattle.std.proofs.Common.{◌≡◌, ◌⊎◌, inl, inr, ℕ, ◌+◌, ◌≤◌, ◌<◌, Bool, true, false, List, [], ◌∷◌, ◌++◌, length, Option, Some, None, Result, Ok, Err, IfSome, IsErrAnd, ap, subst, sym, ◌∙◌, arith, length-append}
use Rattle.std.specs.Io.KnownBytes.{Consumes}
use Rattle.std.specs.Str.Lines.{lines}
use Rattle.pd_protocol.specs.Input.{IfKnown, to_come, Spends, IsCaused, HasCause, reads_left}
use Rattle.pd_protocol.specs.LinePieces.{NoNewline, Cuts, CutsPiece, KeepsLine, Gave, Stops}
use Rattle.pd_protocol.specs.NextLines.{TakesLine, IsLine}
use Rattle.pd_protocol.specs.declared.line_reader.NextLine.{NextLine}
use Rattle.pd_protocol.specs.declared.line_reader.NextLine.TheVariants.{Whole, Long, End}
use Rattle.pd_protocol.specs.declared.faults.ServeFault.{ServeFault}
use Rattle.pd_protocol.specs.declared.faults.ServeFault.TheVariants.{HistoryFull, NoWorkers, Differs, BadCommand, Truncated, Read, Write, OutOfMemory}
use Rattle.pd_protocol.proofs.Known.{known_then, known_same, fact_before}

-- ---- the reads of one line

pub gave_none : (n : ℕ) (a : Option (List ℕ)) → IfKnown (Gave true n n) a a
gave_none n a = known_same (Gave true n n) a (λ x. omega arith)

-- a read more, which gave octets
pub gave_more : (first now next : ℕ) (block : List ℕ) (a b c : Option (List ℕ)) → IfKnown (Gave true first now) a b → Consumes b c block → 0 < length block → next + 1 ≡ now → IfKnown (Gave true first next) a c
gave_more first now next block None b c h k s e = tt
gave_more first now next block (Some x) None c h k s e = absurd h
gave_more first now next block (Some x) (Some y) None h k s e = absurd k
gave_more first now next block (Some x) (Some y) (Some z) h k s e = omega (arith, ap length k, length-append block z, h, s, e)

-- the read that found the end
pub gave_last : (first now next : ℕ) (block : List ℕ) (a b c : Option (List ℕ)) → IfKnown (Gave true first now) a b → Consumes b c block → block ≡ [] → next + 1 ≡ now → IfKnown (Gave false first next) a c
gave_last first now next block None b c h k s e = tt
gave_last first now next block (Some x) None c h k s e = absurd h
gave_last first now next block (Some x) (Some y) None h k s e = absurd k
gave_last first now next block (Some x) (Some y) (Some z) h k s e = omega (arith, ap length k, length-append block z, ap length s, h, e)

-- what was held in the beginning holds no newline, once a piece without one was taken
pub held_none : (first now piece left : List ℕ) → (now ≡ first) ⊎ NoNewline first → CutsPiece piece false now left → NoNewline first
held_none first now piece left (inl e) p = let is : piece ≡ first = sym p.1.0 ∙ e in subst NoNewline is p.0
held_none first now piece left (inr h) p = h

-- a read that failed, or none that was left
stops_out : (old : List ℕ × ℕ) (now : ℕ) (a b : Option (List ℕ)) → IfKnown (Gave true old.1 now) a b → now ≡ 0 → IfSome a (λ octets. reads_left old octets ≤ length octets + 1)
stops_out old now None b h e = tt
stops_out old now (Some x) None h e = absurd h
stops_out old now (Some x) (Some y) h e = omega (arith, h, e)

pub stops_caused : (failed : Type 0) (old new : List ℕ × ℕ) (now : ℕ) (a b : Option (List ℕ)) (fault : ServeFault) → IfKnown (Gave true old.1 now) a b → Stops failed now new.1 fault → IsCaused failed old new a fault
stops_caused failed old new now a b Read h (inl f) = inl f
stops_caused failed old new now a b Read h (inr s) = inr (s.1, stops_out old now a b h s.0)
stops_caused failed old new now a b HistoryFull h s = tt
stops_caused failed old new now a b NoWorkers h s = tt
stops_caused failed old new now a b Differs h s = tt
stops_caused failed old new now a b BadCommand h s = tt
stops_caused failed old new now a b Truncated h s = tt
stops_caused failed old new now a b Write h s = tt
stops_caused failed old new now a b OutOfMemory h s = tt

-- ---- lines one after another

some_octet : (limit : ℕ) (taken : NextLine) (o n : List ℕ) → TakesLine limit taken o n → IsLine taken → 1 ≤ length o
some_octet limit (Whole line) [] n t l = let e : [] ≡ line.items ∷ lines n = t.0 in absurd cc
some_octet limit (Whole line) (x ∷ o) n t l = omega arith
some_octet limit Long [] n t l = let e : [] ≡ t.0 ∷ lines n = t.1 in absurd cc
some_octet limit Long (x ∷ o) n t l = omega arith
some_octet limit End o n t l = absurd l

line_spends : (found : Bool) (line : List ℕ) (old new : List ℕ × ℕ) (x y : List ℕ) → Cuts line found (old.0 ++ x) (new.0 ++ y) → 1 ≤ length (old.0 ++ x) → Gave found old.1 new.1 x y → Spends old new x y
line_spends true line old new x y k s g = omega (arith, s, length-append old.0 x, g)
line_spends false line old new x y k s g = omega (arith, s, length-append old.0 x, length-append new.0 y, ap length k.1, g)

pub spends_line : (limit cap : ℕ) (taken : NextLine) (kept : List ℕ) (found : Bool) (old new : List ℕ × ℕ) (a b : Option (List ℕ)) → KeepsLine cap kept found (to_come old a) (to_come new b) → IfKnown (TakesLine limit taken) (to_come old a) (to_come new b) → IfKnown (Gave found old.1 new.1) a b → IsLine taken → IfKnown (Spends old new) a b
spends_line limit cap taken kept found old new None b k t g l = tt
spends_line limit cap taken kept found old new (Some x) None k t g l = absurd g
spends_line limit cap taken kept found old new (Some x) (Some y) k t g l = line_spends found k.0 old new x y k.3 (some_octet limit taken (old.0 ++ x) (new.0 ++ y) t l) g

pub spends_same : (u : List ℕ × ℕ) (a : Option (List ℕ)) → IfKnown (Spends u u) a a
spends_same u a = known_same (Spends u u) a (λ x. omega arith)

pub spends_at_hand : (old new : List ℕ × ℕ) (line : List ℕ) (a : Option (List ℕ)) → old.0 ≡ line ++ 10 ∷ new.0 → new.1 ≡ old.1 → IfKnown (Spends old new) a a
spends_at_hand old new line a e f = known_same (Spends old new) a (λ x. omega (arith, ap length e, length-append line (10 ∷ new.0), f))

pub spends_then : (u v w : List ℕ × ℕ) (a b c : Option (List ℕ)) → IfKnown (Spends u v) a b → IfKnown (Spends v w) b c → IfKnown (Spends u w) a c
spends_then u v w a b c h k = known_then (Spends u v) (Spends v w) (Spends u w) a b c (λ x y z h k. omega (arith, h, k)) h k

pub cause_before : (failed : Type 0) (u v w : List ℕ × ℕ) (a b : Option (List ℕ)) (fault : ServeFault) → IfKnown (Spends u v) a b → IsCaused failed v w b fault → IsCaused failed u w a fault
cause_before failed u v w a b Read h (inl f) = inl f
cause_before failed u v w a b Read h (inr (z, s)) = inr (z, fact_before (Spends u v) (λ o. reads_left v o ≤ length o + 1) (λ o. reads_left u o ≤ length o + 1) a b (λ x y h k. omega (arith, h, k)) h s)
cause_before failed u v w a b HistoryFull h s = tt
cause_before failed u v w a b NoWorkers h s = tt
cause_before failed u v w a b Differs h s = tt
cause_before failed u v w a b BadCommand h s = tt
cause_before failed u v w a b Truncated h s = tt
cause_before failed u v w a b Write h s = tt
cause_before failed u v w a b OutOfMemory h s = tt

-- ---- an input from its beginning on

pub spent_none : (line_reader : List ℕ × ℕ) (all : Option (List ℕ)) → line_reader ≡ ([], 1048576) → IfKnown (Spends ([], 1048576) line_reader) all all
spent_none line_reader all e = rw e (spends_same ([], 1048576) all)

all_read : (all : Option (List ℕ)) → IfSome all (λ octets. reads_left ([], 1048576) octets ≤ length octets + 1) → IfSome all (λ octets. 1048575 ≤ length octets)
all_read None h = tt
all_read (Some octets) h = omega (arith, h)

fault_caused : (V : Type 0) (failed : Type 0) (new : List ℕ × ℕ) (all : Option (List ℕ)) (fault : ServeFault) → IsCaused failed ([], 1048576) new all fault → HasCause {V = V} (Err fault) failed all
fault_caused V failed new all Read (inl f) = inl f
fault_caused V failed new all Read (inr s) = inr (all_read all s.1)
fault_caused V failed new all HistoryFull h = tt
fault_caused V failed new all NoWorkers h = tt
fault_caused V failed new all Differs h = tt
fault_caused V failed new all BadCommand h = tt
fault_caused V failed new all Truncated h = tt
fault_caused V failed new all Write h = tt
fault_caused V failed new all OutOfMemory h = tt

-- reading on had no end
pub caused_out : {V : Type 0} (r : Result V ServeFault) (fault : ServeFault) (failed : Type 0) (mid new : List ℕ × ℕ) (all now : Option (List ℕ)) → IsErrAnd r (λ x. x ≡ fault) → IfKnown (Spends ([], 1048576) mid) all now → IsCaused failed mid new now fault → HasCause r failed all
caused_out {V = V} (Ok v) fault failed mid new all now i s h = absurd i
caused_out {V = V} (Err x) fault failed mid new all now i s h = rw i (fault_caused V failed new all fault (cause_before failed ([], 1048576) mid new all now fault s h))
