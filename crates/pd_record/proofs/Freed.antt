-- The packets that nobody has taken change nothing that a sender does, but how many more of them the outbox takes.
use Rattle.std.proofs.Common.{◌≡◌, ℕ, zero, suc, ◌+◌, ◌<◌, ◌≤◌, Bool, true, false, if◌then◌else◌, nat_le, nat_lt, Option, None, Some, is_some, List, [], ◌∷◌, ◌++◌, length, Result, Ok, Err, refl, sym, ap, subst, ◌∙◌, append_assoc, arith}
use Rattle.std.proofs.lemmas.Bool.{le-leb, leb-true, lt-ltb, ltb-true}
use Rattle.std.proofs.lemmas.List.{length-append}
use Rattle.pd_board.specs.Retransmit.{run_at}
use Rattle.pd_recover.specs.NextSeg.{segment_of}
use Rattle.pd_recover.specs.declared.ack_action.AckAction.{AckAction}
use Rattle.pd_recover.specs.declared.ack_action.AckAction.TheVariants.{Ordinary, StepC, Entry, LimitedTransmit, NewSegment, FastRetransmit, Nothing}
use Rattle.pd_recover.specs.declared.next_segment.NextSegment.{NextSegment}
use Rattle.pd_seg.specs.declared.sack_spans.Span.{Span}
use Rattle.pd_seg.specs.declared.segments.Segment.{Segment}
use Rattle.pd_seg.specs.declared.segments.Sent.{Sent}
use Rattle.pd_seg.specs.declared.send_rule.SendRule.{SendRule}
use Rattle.pd_seg.specs.declared.send_rule.SendRule.TheVariants.{LimitedTransmit as LimitedBy3042, FastRetransmit as FastBy5681, SackFastRetransmit}
use Rattle.pd_host.specs.AckEffects.{fill_rule, OnTheWay, octets_of, fill_noted_on, sent_as, one_filled, sender_of, pipe_of, filled, push_data_segment_to_outbox, entered_on, entry, after_ack_action, taking, ack_taken}
use Rattle.pd_host.specs.Connection.{ConnectionView}
use Rattle.pd_host.specs.Expiries.{expiry_rule, advanced, deadline_of, due_by, expired, segment_again, connection_expired}
use Rattle.pd_host.specs.Packets.{data_of}
use Rattle.pd_host.specs.OutboxLimit.{has_place}
use Rattle.pd_host.specs.Host.{beside, with_outbox, then_on}
use Rattle.pd_host.specs.Sending.{ordinary_rule, on_found, repeated, places_left, with_packet_sent, with_begun_connection, with_next_past_sacked, sent_on, with_segment, sent_ordinarily, ready, sent_until_done, ordinary}
use Rattle.pd_host.specs.SendingLaws.{SendsOneByOne}
use Rattle.pd_host.specs.RttSegment.{timing_started}
use Rattle.pd_host.specs.declared.endpoint.Endpoint.{Endpoint}
use Rattle.pd_host.specs.declared.established.Established.{Established}
use Rattle.pd_host.specs.declared.connection.ack_effects.WindowFill.{WindowFill}
use Rattle.pd_host.specs.declared.connection.ack_effects.WindowFill.TheVariants.{NextSeg, NewData}
use Rattle.pd_host.specs.declared.halts.Halt.{Halt}
use Rattle.pd_host.specs.declared.halts.Halt.TheVariants.{Limit}
use Rattle.pd_host.specs.declared.endpoint.SenderState.{SenderState}
use Rattle.pd_host.proofs.Outcomes.{mapped, alike}
use Rattle.pd_host.proofs.Repeats.{repeated-none, repeated-more}
use Rattle.pd_host.proofs.SentOn.{finds, sends, fill_finds, fill_sends}

-- ---- results, seen from elsewhere

-- if something came, it came there too, and is the image of that
abbrev pub CameBy : {S : Type 0} → (S → S) → Result S Halt → Result S Halt → Type 0
CameBy {S} f (Ok b) r = (c : S) × (r ≡ Ok c) × (b ≡ f c)
CameBy f (Err halt) r = Unit {0}

pub came_by : {S : Type 0} (f : S → S) (r q : Result S Halt) (b : S) → CameBy f r q → r ≡ Ok b → (c : S) × (q ≡ Ok c) × (b ≡ f c)
came_by {S} f r q b h is = subst (λ (x : Result S Halt). CameBy f x q) is h

pub either_by : {S : Type 0} (f : S → S) (b : Bool) (x y v w : Result S Halt) → CameBy f x v → CameBy f y w → CameBy f (if b then x else y) (if b then v else w)
either_by f true x y v w first second = first
either_by f false x y v w first second = second

pub then_by : {S U : Type 0} (f : S → S) (g : U → U) (next : S → Result U Halt) (r q : Result S Halt)
    → CameBy f r q → ((c : S) → CameBy g (next (f c)) (next c)) → CameBy g (then_on next r) (then_on next q)
then_by {S} {U} f g next (Ok b) q h more =
    subst (λ (x : S). CameBy g (next x) (then_on next q)) (sym h.2)
    (subst (λ (x : Result S Halt). CameBy g (next (f h.0)) (then_on next x)) (sym h.1) (more h.0))
then_by f g next (Err halt) q h more = tt

by_image : {S : Type 0} (f : S → S) (r q : Result S Halt) → r ≡ mapped f q → CameBy f r q
by_image {S} f r (Ok c) h = subst (λ (x : Result S Halt). CameBy f x (Ok c)) (sym h) (c, refl, refl)
by_image {S} f r (Err halt) h = subst (λ (x : Result S Halt). CameBy f x (Err halt)) (sym h) tt

-- where a place there was one for stays one
guarded_by : {S : Type 0} (f : S → S) (b d : Bool) (x y : S) → (b ≡ true → d ≡ true) → x ≡ f y
    → CameBy f (if b then Ok x else Err Limit) (if d then Ok y else Err Limit)
guarded_by f true d x y room is = (y, ap (λ (p : Bool). if p then Ok y else Err Limit) (room refl), is)
guarded_by f false d x y room is = tt

-- ---- steps that are taken until nothing more is found may be taken more often

all_found : {S X : Type 0} (o : Option X) (s c : S) → (if is_some o then Err Limit else Ok s) ≡ Ok c → (o ≡ None) × (s ≡ c)
all_found None s c h = (refl, cc)
all_found (Some x) s c h = absurd cc

further : {S X : Type 0} (act : X → S → S) (rest more : S → Result S Halt) → ((s c : S) → rest s ≡ Ok c → more s ≡ Ok c)
    → (s c : S) (o : Option X) → on_found rest act s o ≡ Ok c → on_found more act s o ≡ Ok c
further act rest more go s c None h = h
further act rest more go s c (Some x) h = go (act x s) c h

pub more_times : {S X : Type 0} (find : S → Option X) (act : X → S → S) (n m : ℕ) (s c : S) → n ≤ m → repeated find act n s ≡ Ok c → repeated find act m s ≡ Ok c
more_times find act zero m s c few h =
    let all = all_found (find s) s c h in
    repeated-none find act m s all.0 ∙ ap (λ x. Ok x) all.1
more_times find act (suc n) zero s c few h = absurd (omega (arith, few))
more_times find act (suc n) (suc m) s c few h =
    further act (repeated find act n) (repeated find act m) (λ t d k. more_times find act n m t d (omega (arith, few)) k) s c (find s) h

more_by : {S X : Type 0} (f : S → S) (find : S → Option X) (act : X → S → S) (n m : ℕ) (s : S) (r : Result S Halt) → n ≤ m
    → CameBy f r (repeated find act n s) → CameBy f r (repeated find act m s)
more_by f find act n m s (Ok b) few h = (h.0, more_times find act n m s h.0 few h.1, h.2)
more_by f find act n m s (Err halt) few h = tt

repeated_by : {S X : Type 0} (f : S → S) (find : S → Option X) (act : X → S → S) (n m : ℕ) (s : S) → n ≤ m
    → ((t : S) → find (f t) ≡ find t) → ((x : X) (t : S) → act x (f t) ≡ f (act x t))
    → CameBy f (repeated find act n (f s)) (repeated find act m s)
repeated_by f find act n m s few found same =
    more_by f find act n m s (repeated find act n (f s)) few (by_image f (repeated find act n (f s)) (repeated find act n s) (alike f find act found same n s))

-- ---- packets in front of others

-- a state with these packets in front of those that nobody has taken
abbrev pub in_front : List Sent → SenderState → SenderState
in_front w s = record s { endpoint = record s.endpoint { outbox = w ++ s.endpoint.outbox } }

-- the same of an endpoint
abbrev pub in_front_on : List Sent → Endpoint → Endpoint
in_front_on w e = record e { outbox = w ++ e.outbox }

-- packets in front of others in front of the rest
pub both_in_front : (v w : List Sent) (s : SenderState) → in_front v (in_front w s) ≡ in_front (v ++ w) s
both_in_front v w s = ap (λ (l : List Sent). record s { endpoint = record s.endpoint { outbox = l } }) (sym (append_assoc v w s.endpoint.outbox))

roomy : (w o : List Sent) → has_place (w ++ o) ≡ true → has_place o ≡ true
roomy w o h =
    let many : length (w ++ o) ≡ length w + length o = length-append w o in
    let room : length (w ++ o) < 1024 = ltb-true (length (w ++ o)) 1024 h in
    lt-ltb (length o) 1024 (omega (arith, many, room))

fewer : (w : List Sent) (s : SenderState) → places_left (in_front w s) ≤ places_left s
fewer w s =
    let many : length (w ++ s.endpoint.outbox) ≡ length w + length s.endpoint.outbox = length-append w s.endpoint.outbox in
    omega (arith, many)

-- one packet more is after all of them
pub packet_freed : (w : List Sent) (now : ℕ) (rule : SendRule) (segment : Segment) (s : SenderState) → with_packet_sent now rule segment (in_front w s) ≡ in_front w (with_packet_sent now rule segment s)
packet_freed w now rule segment s =
    let packet : Sent = record { segment = segment; at = now; rule = rule } in
    ap (λ (l : List Sent). record s { endpoint = record s.endpoint { outbox = l } }) (append_assoc w s.endpoint.outbox (packet ∷ []))

-- ---- ordinary sending

sent_freed : (w : List Sent) (now : ℕ) (segment : Span) (o : Option ConnectionView) (s : SenderState)
    → sent_ordinarily now segment o (in_front w s) ≡ in_front w (sent_ordinarily now segment o s)
sent_freed w now segment None s = refl
sent_freed w now segment (Some c) s = packet_freed w now (ordinary_rule c) (data_of c segment) (with_begun_connection (with_next_past_sacked (sent_on now segment c)) s)

until_done_freed : (w : List Sent) (now : ℕ) (s : SenderState) → CameBy (in_front w) (sent_until_done now (in_front w s)) (sent_until_done now s)
until_done_freed w now s =
    repeated_by (in_front w) finds (sends now) (places_left (in_front w s)) (places_left s) s (fewer w s)
    (λ t. refl) (λ segment t. sent_freed w now segment t.endpoint.connection t)

ready_freed : (w : List Sent) (now : ℕ) (o : Option ConnectionView) (s : SenderState) → ready now o (in_front w s) ≡ in_front w (ready now o s)
ready_freed w now None s = refl
ready_freed w now (Some c) s = refl

pub ordinary_freed : (w : List Sent) (now : ℕ) (s : SenderState) → CameBy (in_front w) (ordinary now (in_front w s)) (ordinary now s)
ordinary_freed w now s =
    let ready_now : SenderState = ready now s.endpoint.connection s in
    subst (λ (u : SenderState). CameBy (in_front w) (sent_until_done now u) (sent_until_done now ready_now)) (sym (ready_freed w now s.endpoint.connection s))
    (until_done_freed w now ready_now)

-- ---- step C and limited transmit

abbrev in_front_too : List Sent → OnTheWay → OnTheWay
in_front_too w t = (in_front w t.0, t.1)

fill_freed : (w : List Sent) (now : ℕ) (filling : WindowFill) (sent : NextSegment) (o : Option ConnectionView) (t : OnTheWay)
    → one_filled now filling sent o (in_front_too w t) ≡ in_front_too w (one_filled now filling sent o t)
fill_freed w now filling sent None t = refl
fill_freed w now filling sent (Some c) t =
    let after : SenderState = with_begun_connection (fill_noted_on filling sent (sent_as now sent c) c.established) t.0 in
    ap (λ (u : SenderState). (u, t.1 + octets_of (segment_of sent))) (packet_freed w now (fill_rule filling sent) (data_of c (segment_of sent)) after)

sender_freed : (w : List Sent) (r q : Result OnTheWay Halt) → CameBy (in_front_too w) r q → CameBy (in_front w) (sender_of r) (sender_of q)
sender_freed w (Ok t) q h = (h.0.0, ap sender_of h.1, ap (λ (u : OnTheWay). u.0) h.2)
sender_freed w (Err halt) q h = tt

filled_freed : (w : List Sent) (now : ℕ) (filling : WindowFill) (s : SenderState) → CameBy (in_front w) (filled now filling (in_front w s)) (filled now filling s)
filled_freed w now filling s =
    let t : OnTheWay = (s, pipe_of s.endpoint.connection) in
    sender_freed w (repeated (fill_finds filling) (fill_sends now filling) (places_left (in_front w s)) (in_front_too w t))
    (repeated (fill_finds filling) (fill_sends now filling) (places_left s) t)
    (repeated_by (in_front_too w) (fill_finds filling) (fill_sends now filling) (places_left (in_front w s)) (places_left s) t (fewer w s)
    (λ u. refl) (λ sent u. fill_freed w now filling sent u.0.endpoint.connection u))

-- ---- the effects of an ACK

put_freed : (w : List Sent) (now : ℕ) (rule : SendRule) (segment : Span) (before after : ConnectionView) (s : SenderState)
    → CameBy (in_front w) (push_data_segment_to_outbox now rule segment before after (in_front w s)) (push_data_segment_to_outbox now rule segment before after s)
put_freed w now rule segment before after s =
    guarded_by (in_front w) (has_place (w ++ s.endpoint.outbox)) (has_place s.endpoint.outbox)
    (with_segment now rule segment before after (in_front w s)) (with_segment now rule segment before after s)
    (roomy w s.endpoint.outbox) (packet_freed w now rule (data_of before segment) (with_begun_connection after s))

entry_freed : (w : List Sent) (now : ℕ) (c : ConnectionView) (s : SenderState) → CameBy (in_front w) (entry now c (in_front w s)) (entry now c s)
entry_freed w now c s =
    let segment : Span = run_at c.board.una c.board in
    let sent : ConnectionView = entered_on segment (timing_started now segment c) c.established in
    let moved : SenderState = with_begun_connection (entered_on segment c c.established) s in
    either_by (in_front w) (nat_lt segment.start segment.end)
    (push_data_segment_to_outbox now SackFastRetransmit segment c sent (in_front w s)) (Ok (in_front w moved)) (push_data_segment_to_outbox now SackFastRetransmit segment c sent s) (Ok moved)
    (put_freed w now SackFastRetransmit segment c sent s) (moved, refl, refl)

led_to_freed : (w : List Sent) (now : ℕ) (c : ConnectionView) (s : SenderState) (next : AckAction) → CameBy (in_front w) (after_ack_action now c (in_front w s) next) (after_ack_action now c s next)
led_to_freed w now c s Ordinary = ordinary_freed w now s
led_to_freed w now c s StepC = filled_freed w now NextSeg s
led_to_freed w now c s Entry =
    then_by (in_front w) (in_front w) (filled now NextSeg) (entry now c (in_front w s)) (entry now c s) (entry_freed w now c s) (λ t. filled_freed w now NextSeg t)
led_to_freed w now c s LimitedTransmit = filled_freed w now NewData s
led_to_freed w now c s (NewSegment segment) = put_freed w now LimitedBy3042 segment c (sent_on now segment c) s
led_to_freed w now c s (FastRetransmit segment) =
    then_by (in_front w) (in_front w) (ordinary now) (push_data_segment_to_outbox now FastBy5681 segment c (timing_started now segment c) (in_front w s)) (push_data_segment_to_outbox now FastBy5681 segment c (timing_started now segment c) s)
    (put_freed w now FastBy5681 segment c (timing_started now segment c) s) (λ t. ordinary_freed w now t)
led_to_freed w now c s Nothing = (s, refl, refl)

pub taken_freed : (w : List Sent) (now : ℕ) (segment : Segment) (c : ConnectionView) (s : SenderState) (o : Option Established)
    → CameBy (in_front w) (ack_taken now segment c (in_front w s) o) (ack_taken now segment c s o)
taken_freed w now segment c s o =
    let t : ConnectionView × AckAction = taking now segment c o in
    led_to_freed w now t.0 (with_begun_connection t.0 s) t.1

-- ---- a packet that is put out at once

pub put_out_freed : (w : List Sent) (b d : Bool) (packet : Sent) (s : SenderState) (e : Endpoint) → (b ≡ true → d ≡ true)
    → CameBy (in_front w) (beside (in_front w s) (with_outbox (in_front_on w e) (if b then Ok ((w ++ e.outbox) ++ packet ∷ []) else Err Limit)))
    (beside s (with_outbox e (if d then Ok (e.outbox ++ packet ∷ []) else Err Limit)))
put_out_freed w true d packet s e room =
    let put : List Sent → SenderState = λ l. record s { endpoint = record e { outbox = l } } in (
      put (e.outbox ++ packet ∷ []),
      ap (λ (p : Bool). beside s (with_outbox e (if p then Ok (e.outbox ++ packet ∷ []) else Err Limit))) (room refl),
      ap put (append_assoc w e.outbox (packet ∷ [])),
    )
put_out_freed w false d packet s e room = tt

pub room_freed : (w o : List Sent) → has_place (w ++ o) ≡ true → has_place o ≡ true
room_freed = roomy

-- ---- expiries

abbrev pub find_due : ℕ → SenderState → Option ℕ
find_due until s = due_by until (deadline_of s)

abbrev pub expire : ℕ → SenderState → SenderState
expire at s = expired at s.endpoint.connection s

expire_freed : (w : List Sent) (at : ℕ) (o : Option ConnectionView) (s : SenderState) → expired at o (in_front w s) ≡ in_front w (expired at o s)
expire_freed w at None s = refl
expire_freed w at (Some c) s = packet_freed w at (expiry_rule c.established) (segment_again c c.established) (with_begun_connection (connection_expired at c c.established) s)

pub advanced_freed : (w : List Sent) (until : ℕ) (s : SenderState) → CameBy (in_front w) (advanced until (in_front w s)) (advanced until s)
advanced_freed w until s =
    repeated_by (in_front w) (find_due until) expire (places_left (in_front w s)) (places_left s) s (fewer w s)
    (λ t. refl) (λ at t. expire_freed w at t.endpoint.connection t)

-- ---- the expiries up to one moment, and then up to a later one

due_later : (at until : ℕ) (o : Option ℕ) (x : ℕ) → at ≤ until → due_by at o ≡ Some x → (o ≡ Some x) × (x ≤ at) × (due_by until o ≡ Some x)
due_later at until None x late h = absurd cc
due_later at until (Some y) x late h = go (nat_le y at) refl h
  where
    go : (b : Bool) → nat_le y at ≡ b → (if b then Some y else None) ≡ Some x → (Some y ≡ Some x) × (x ≤ at) × (due_by until (Some y) ≡ Some x)
    go true is k =
        let same : y ≡ x = cc in
        let low : y ≤ at = leb-true y at is in
        let test : nat_le y until ≡ true = le-leb y until (omega (arith, low, late)) in
        (k, subst (λ (z : ℕ). z ≤ at) same low, ap (λ (p : Bool). if p then Some y else None) test ∙ k)
    go false is k = absurd cc

-- one expiry puts out one packet
one_more : SendsOneByOne → (until at : ℕ) (s : SenderState) → find_due until s ≡ Some at → length (expire at s).endpoint.outbox ≡ suc (length s.endpoint.outbox)
one_more one until at s h =
    let put = one.expiries until at s h in
    let longer : length (s.endpoint.outbox ++ put.0 ∷ []) ≡ length s.endpoint.outbox + 1 = length-append s.endpoint.outbox (put.0 ∷ []) in
    ap (λ (l : List Sent). length l) put.1 ∙ omega (arith, longer)

-- the state that the expiries up to one moment leave, from which those up to a later one come to the same
abbrev Between : ℕ → ℕ → ℕ → SenderState → SenderState → Type 0
Between at until n s a = (u : SenderState) × (repeated (find_due at) expire n s ≡ Ok u) × (advanced until u ≡ Ok a)

none_between : (at until n : ℕ) (s a : SenderState) → n ≡ places_left s → repeated (find_due until) expire n s ≡ Ok a → find_due at s ≡ None → Between at until n s a
none_between at until n s a places h none =
    (s, repeated-none (find_due at) expire n s none, subst (λ (m : ℕ). repeated (find_due until) expire m s ≡ Ok a) places h)

full_between : (at until : ℕ) (s a : SenderState) → at ≤ until → zero ≡ places_left s → repeated (find_due until) expire zero s ≡ Ok a
    → (o : Option ℕ) → find_due at s ≡ o → Between at until zero s a
full_between at until s a late places h None none = none_between at until zero s a places h none
full_between at until s a late places h (Some x) found =
    let due = due_later at until (deadline_of s) x late found in
    let none = all_found (find_due until s) s a h in
    absurd (let clash : Some x ≡ None = sym due.2 ∙ none.0 in cc)

more_between : SendsOneByOne → (at until m : ℕ) (s a : SenderState) → at ≤ until → suc m ≡ places_left s → repeated (find_due until) expire (suc m) s ≡ Ok a
    → ((t : SenderState) → m ≡ places_left t → repeated (find_due until) expire m t ≡ Ok a → Between at until m t a)
    → (o : Option ℕ) → find_due at s ≡ o → Between at until (suc m) s a
more_between one at until m s a late places h further None none = none_between at until (suc m) s a places h none
more_between one at until m s a late places h further (Some x) found =
    let due = due_later at until (deadline_of s) x late found in
    let grown : length (expire x s).endpoint.outbox ≡ suc (length s.endpoint.outbox) = one_more one until x s due.2 in
    let left : m ≡ places_left (expire x s) = omega (arith, places, grown) in
    let rest = further (expire x s) left (sym (repeated-more (find_due until) expire m s x due.2) ∙ h) in
    (rest.0, repeated-more (find_due at) expire m s x found ∙ rest.1, rest.2)

split_at : SendsOneByOne → (at until n : ℕ) (s a : SenderState) → at ≤ until → n ≡ places_left s → repeated (find_due until) expire n s ≡ Ok a → Between at until n s a
split_at one at until zero s a late places h = full_between at until s a late places h (find_due at s) refl
split_at one at until (suc m) s a late places h =
    more_between one at until m s a late places h (λ t left k. split_at one at until m t a late left k) (find_due at s) refl

pub advanced_on : SendsOneByOne → (at until : ℕ) (s a : SenderState) → at ≤ until → advanced until s ≡ Ok a → (u : SenderState) × (advanced at s ≡ Ok u) × (advanced until u ≡ Ok a)
advanced_on one at until s a late h = split_at one at until (places_left s) s a late refl h

-- where no expiry is due, none is performed
pub none_due : (until : ℕ) (s : SenderState) → find_due until s ≡ None → advanced until s ≡ Ok s
none_due until s none = repeated-none (find_due until) expire (places_left s) s none
