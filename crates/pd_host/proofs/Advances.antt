-- The packets that the expiries up to a moment put out; and that they consult no settings.
use Rattle.std.proofs.Common.{◌≡◌, ℕ, ◌+◌, ◌*◌, ◌≤◌, min, nat_le, Bool, true, false, if◌then◌else◌, List, [], ◌∷◌, ◌++◌, Option, None, Some, unwrap_or, refl, sym, ap, ◌∙◌, append_assoc, append-nil, arith}
use Rattle.std.specs.List.{AllByRecursion}
use Rattle.std.proofs.lemmas.Bool.Decides.{nat_tests}
use Rattle.pd_settings.specs.declared.settings.Settings.{Settings}
use Rattle.pd_seg.specs.declared.segments.Sent.{Sent}
use Rattle.pd_host.specs.Connection.{ConnectionView}
use Rattle.pd_host.specs.Expiries.{deadline_of, due_by, segment_again, expiry_rule, connection_expired, expired, advanced}
use Rattle.pd_host.specs.InputLaws.{AdvancesPutOutAfter, AdvancesUseNone, with_settings}
use Rattle.pd_host.specs.Laws.{AreInOrder}
use Rattle.pd_host.specs.Sending.{places_left}
use Rattle.pd_host.specs.declared.established.Established.{Established}
use Rattle.pd_host.specs.declared.endpoint.SenderState.{SenderState}
use Rattle.pd_host.proofs.Outcomes.{Leaves, came, kept, alike}
use Rattle.pd_host.proofs.Rebound.{again}

abbrev pub expiry_finds : ℕ → SenderState → Option ℕ
expiry_finds until t = due_by until (deadline_of t)

abbrev pub expiry_sends : ℕ → SenderState → SenderState
expiry_sends at t = expired at t.endpoint.connection t

-- Which expiry is due

same_moment : (x y : ℕ) → Some x ≡ Some y → x ≡ y
same_moment x y e = ap (λ (o : Option ℕ). unwrap_or o x) e

nothing_due : (at : ℕ) → None ≡ Some at → ⊥
nothing_due at e = cc

at_or_before : (x until : ℕ) → nat_le x until ≡ true → x ≤ until
at_or_before x until e = grind (arith, nat_tests)

due_so : (b : Bool) (x until at : ℕ) → nat_le x until ≡ b → (if b then Some x else None) ≡ Some at → (Some x ≡ Some at) × (at ≤ until)
due_so true x until at t e =
    let same : x ≡ at = same_moment x at e in
    let before : x ≤ until = at_or_before x until t in
    (e, omega (arith, same, before))
due_so false x until at t e = absurd (nothing_due at e)

pub due : (until at : ℕ) (o : Option ℕ) → due_by until o ≡ Some at → (o ≡ Some at) × (at ≤ until)
due until at None e = absurd (nothing_due at e)
due until at (Some x) e = due_so (nat_le x until) x until at refl e

-- The order of packets

later : (n m : ℕ) (packets : List Sent) → n ≤ m → AllByRecursion (λ p. p.at ≤ n) packets → AllByRecursion (λ p. p.at ≤ m) packets
later n m [] le h = tt
later n m (p ∷ packets) le h = (omega (arith, h.0, le), later n m packets le h.1)

one_later : (n : ℕ) (packets : List Sent) (p : Sent) → p.at ≤ n → AllByRecursion (λ q. q.at ≤ n) packets → AllByRecursion (λ q. q.at ≤ n) (packets ++ p ∷ [])
one_later n [] p le h = (le, tt)
one_later n (q ∷ packets) p le h = (h.0, one_later n packets p le h.1)

one_after : (n : ℕ) (packets : List Sent) (p : Sent) → n ≤ p.at → AllByRecursion (λ q. n ≤ q.at) packets → AllByRecursion (λ q. n ≤ q.at) (packets ++ p ∷ [])
one_after n [] p le h = (le, tt)
one_after n (q ∷ packets) p le h = (h.0, one_after n packets p le h.1)

in_order : (until : ℕ) (packets : List Sent) (p : Sent) → p.at ≤ until → AllByRecursion (λ q. q.at ≤ p.at) packets → AreInOrder until packets
    → AreInOrder until (packets ++ p ∷ [])
in_order until [] p le before h = (le, (tt, tt))
in_order until (q ∷ packets) p le before h =
    (h.0, (one_after q.at packets p before.0 h.1.0, in_order until packets p le before.1 h.1.1))

-- Each expiry

-- expiries were performed: their packets are in order, and none is later than the next expiry
record IsRun (until : ℕ) (s t : SenderState) : Type 0 where
  pub packets : List Sent
  pub order : AreInOrder until packets
  pub outbox : t.endpoint.outbox ≡ s.endpoint.outbox ++ packets
  pub last : (at : ℕ) → deadline_of t ≡ Some at → AllByRecursion (λ p. p.at ≤ at) packets

none_run : (until : ℕ) (s : SenderState) → IsRun until s s
none_run until s = record { packets = []; order = tt; outbox = sym (append-nil s.endpoint.outbox); last = λ at e. tt }

-- the next expiry lies after this one
next_expiry : (at : ℕ) (c : ConnectionView) (o : Option Established)
    → (connection_expired at c o).timer.deadline ≡ Some (at + min (2 * c.timer.rto) c.timer.max_rto_us)
next_expiry at c None = refl
next_expiry at c (Some e) = refl

one_run : (until at : ℕ) (s t : SenderState) (o : Option ConnectionView) → at ≤ until → deadline_of t ≡ Some at → t.endpoint.connection ≡ o
    → IsRun until s t → IsRun until s (expired at o t)
one_run until at s t None le due e h = h
one_run until at s t (Some c) le due e h =
    let packet : Sent = record { segment = segment_again c c.established; at = at; rule = expiry_rule c.established } in
    let before : AllByRecursion (λ p. p.at ≤ at) h.packets = h.last at due in
    record {
      packets = h.packets ++ packet ∷ [];
      order = in_order until h.packets packet le before h.order;
      outbox = ap (λ (l : List Sent). l ++ packet ∷ []) h.outbox ∙ append_assoc s.endpoint.outbox h.packets (packet ∷ []);
      last = λ d f.
          let same : at + min (2 * c.timer.rto) c.timer.max_rto_us ≡ d = same_moment _ d (sym (next_expiry at c c.established) ∙ f) in
          let ahead : at ≤ d = omega (arith, same) in
          one_later d h.packets packet ahead (later at d h.packets ahead before);
    }

runs : (until : ℕ) (s : SenderState) → Leaves (IsRun until s) (advanced until s)
runs until s =
    kept (IsRun until s) (expiry_finds until) expiry_sends
    (λ at t e h.
    let now : (deadline_of t ≡ Some at) × (at ≤ until) = due until at (deadline_of t) e in
    one_run until at s t t.endpoint.connection now.1 now.0 refl h)
    (places_left s) s (none_run until s)

pub advances_put_out_after : AdvancesPutOutAfter
advances_put_out_after until s t h =
    let run : IsRun until s t = came (IsRun until s) (advanced until s) t h (runs until s) in
    (run.packets, run.order, run.outbox)

expired_again : (b : Settings) (at : ℕ) (o : Option ConnectionView) (s : SenderState) → expired at o (with_settings b s) ≡ with_settings b (expired at o s)
expired_again b at None s = refl
expired_again b at (Some c) s = refl

pub advances_use_none : AdvancesUseNone
advances_use_none until s t b h =
    alike (with_settings b) (expiry_finds until) expiry_sends (λ u. refl) (λ at u. expired_again b at u.endpoint.connection u) (places_left s) s
    ∙ ap (again b) h
