-- The packet that an expected one takes where it passes, and the packets that are left by a moment.
use Rattle.std.proofs.Common.{◌≡◌, ℕ, zero, suc, ◌≤◌, nat_le, Bool, true, false, if◌then◌else◌, Option, Some, None, List, [], ◌∷◌, ◌++◌, length, map, take, drop, slice_get, Result, Ok, refl, sym, ap, subst, ◌∙◌, ◌⊎◌, inl, inr, append_assoc, append-nil}
use Rattle.std.proofs.lemmas.Bool.{leb-true}
use Rattle.pd_script.specs.declared.packets.Packet.{Packet}
use Rattle.pd_script.specs.declared.script_events.Action.TheVariants.{Outbound}
use Rattle.pd_script.specs.declared.script_events.Event.{Event}
use Rattle.pd_seg.specs.declared.segments.Sent.{Sent}
use Rattle.pd_host.specs.Expiries.{advanced, deadline_of, due_by}
use Rattle.pd_host.specs.Host.{without_oldest}
use Rattle.pd_host.specs.declared.halts.Halt.{Halt}
use Rattle.pd_host.specs.declared.endpoint.SenderState.{SenderState}
use Rattle.pd_match.specs.Packets.{mismatch}
use Rattle.pd_print.specs.Sent.{packet_of}
use Rattle.pd_run.specs.Step.{RunStateView, tolerance_of, comparison_noted, on_step, with_state, awaited, packet_taken as compared, leaves}
use Rattle.pd_run.specs.Times.{time_range_of, is_not_too_late_within_tolerance, base_from_moment_or_later_of_base_and_sent}
use Rattle.pd_run.specs.declared.stop_reason.StopReason.{StopReason}
use Rattle.pd_run.proofs.Bounds.{agreed, step_performs}
use Rattle.pd_record.specs.FollowsRun.{input_at, inputs_in, departure_at, departures_in, departed}
use Rattle.pd_record.specs.Recorder.{RecorderView, Answers, recorded_as, event_at, leaves_next, or_expired, due_where, oldest_of, departs, with_unmet, comes, comes_on}
use Rattle.pd_record.specs.declared.recorded.RecordedEvent.{RecordedEvent}
use Rattle.pd_record.proofs.Again.{Bases, IsReady, has_happened, packet_went}
use Rattle.pd_record.proofs.Freed.{came_by, in_front, find_due, advanced_freed, advanced_on, none_due}
use Rattle.pd_record.proofs.Leaves.{Awaited, Stands, Expires, both as stepped_both, which_awaited, what_leaves, no_items, none_in, first_sent}
use Rattle.pd_record.proofs.Passing.{given, both}

-- a state that came
abbrev ran : SenderState → Result SenderState Halt
ran s = Ok s

-- ---- the first of the packets that nobody has taken

-- a state without it
abbrev pub without_first : SenderState → SenderState
without_first s = record s { endpoint = record s.endpoint { outbox = drop 1 s.endpoint.outbox } }

first_of : (l : List Sent) (sent : Sent) → slice_get l 0 ≡ Some sent → l ≡ sent ∷ drop 1 l
first_of [] sent h = absurd cc
first_of (x ∷ xs) sent h = let same : x ≡ sent = cc in ap (λ (y : Sent). y ∷ xs) same

pub one_of : (l : List Sent) (sent : Sent) → slice_get l 0 ≡ Some sent → take 1 l ≡ sent ∷ []
one_of [] sent h = absurd cc
one_of (x ∷ xs) sent h = let same : x ≡ sent = cc in ap (λ (y : Sent). y ∷ []) same

pub first_stands : (s : SenderState) (sent : Sent) → slice_get s.endpoint.outbox 0 ≡ Some sent → s ≡ in_front (sent ∷ []) (without_first s)
first_stands s sent h = ap (λ (l : List Sent). record s { endpoint = record s.endpoint { outbox = l } }) (first_of s.endpoint.outbox sent h)

same_sent : (o : Option Sent) (x y : Sent) → o ≡ Some x → o ≡ Some y → x ≡ y
same_sent o x y a b = let same : Some x ≡ Some y = sym a ∙ b in cc

same_moment : (o : Option ℕ) (x y : ℕ) → o ≡ Some x → o ≡ Some y → x ≡ y
same_moment o x y a b = let same : Some x ≡ Some y = sym a ∙ b in cc

-- ---- an expected packet that passes

-- it was unmatched, or the next expiry sent it
abbrev pub Waits : RunStateView → RunStateView → Event → SenderState → Type 0
Waits r s e before =
    ((before ≡ r.host.state) × (s.clock ≡ r.clock))
    ⊎ ((length r.host.state.endpoint.outbox ≡ 0) × (at : ℕ) × (deadline_of r.host.state ≡ Some at) × (advanced at r.host.state ≡ Ok before)
    × (is_not_too_late_within_tolerance (time_range_of r.base e.time) (tolerance_of r) at ≡ true) × (s.clock ≡ at))

-- the packet that it took, and the run after it
pub record Met (r s : RunStateView) (e : Event) (sent : Sent) : Type 0 where
  pub before : SenderState
  pub first : slice_get before.endpoint.outbox 0 ≡ Some sent
  pub waits : Waits r s e before
  pub state : s.host.state ≡ without_first before
  pub base : s.base ≡ base_from_moment_or_later_of_base_and_sent r.base e.time sent.at
  pub header_tolerance : s.header_tolerance ≡ r.header_tolerance
  pub happened : on_step (λ q. take 1 q.host.state.endpoint.outbox) (λ v. []) (awaited (comparison_noted r) e) ≡ sent ∷ []

-- a run after the oldest packet was taken
abbrev taken_by : RunStateView → Event → Sent → RunStateView
taken_by q e sent = record q { host = without_oldest q.host; base = base_from_moment_or_later_of_base_and_sent q.base e.time sent.at }

took : (e : Event) (p : Packet) (q s : RunStateView) (o : Option Sent) → slice_get q.host.state.endpoint.outbox 0 ≡ o → compared e p q o ≡ Ok s
    → (sent : Sent) × (slice_get q.host.state.endpoint.outbox 0 ≡ Some sent) × (taken_by q e sent ≡ s)
took e p q s None is h = absurd cc
took e p q s (Some sent) is h =
    (sent, is, agreed (taken_by q e sent) s _ (mismatch p (time_range_of q.base e.time) sent (tolerance_of q)) h)

abbrev came_to : RunStateView → Result RunStateView StopReason
came_to r = Ok r

took_one : (r q : RunStateView) (e : Event) (sent : Sent) → awaited (comparison_noted r) e ≡ came_to q → slice_get q.host.state.endpoint.outbox 0 ≡ Some sent
    → on_step (λ x. take 1 x.host.state.endpoint.outbox) (λ v. []) (awaited (comparison_noted r) e) ≡ sent ∷ []
took_one r q e sent is first =
    ap (λ (came : Result RunStateView StopReason). on_step (λ x. take 1 x.host.state.endpoint.outbox) (λ v. []) came) is ∙ one_of q.host.state.endpoint.outbox sent first

pub met : (r s : RunStateView) (e : Event) (p : Packet) → leaves (comparison_noted r) e p ≡ Ok s → (sent : Sent) × Met r s e sent
met r s e p h =
    let went = stepped_both (λ (q : RunStateView). compared e p q (slice_get q.host.state.endpoint.outbox 0)) (awaited (comparison_noted r) e) s h in
    let last = took e p went.0 s (slice_get went.0.host.state.endpoint.outbox 0) refl went.2 in
    (last.0, go went.0 last.0 went.1 last.1 last.2 (which_awaited (comparison_noted r) went.0 e went.1))
  where
    go : (q : RunStateView) (sent : Sent) → awaited (comparison_noted r) e ≡ Ok q → slice_get q.host.state.endpoint.outbox 0 ≡ Some sent → taken_by q e sent ≡ s
        → (q ≡ comparison_noted r) ⊎ Awaited (comparison_noted r) q e → Met r s e sent
    go q sent is first same (inl stood) =
        let its : taken_by (comparison_noted r) e sent ≡ s = ap (λ (x : RunStateView). taken_by x e sent) (sym stood) ∙ same in
        record {
          before = r.host.state;
          first = ap (λ (x : RunStateView). slice_get x.host.state.endpoint.outbox 0) (sym stood) ∙ first;
          waits = inl (refl, sym (ap (λ (x : RunStateView). x.clock) its));
          state = sym (ap (λ (x : RunStateView). x.host.state) its);
          base = sym (ap (λ (x : RunStateView). x.base) its);
          header_tolerance = sym (ap (λ (x : RunStateView). x.header_tolerance) its);
          happened = took_one r q e sent is first;
        }
    go q sent is first same (inr wait) =
        let after : RunStateView = record (with_state (comparison_noted r) wait.2) { clock = wait.1 } in
        let its : taken_by after e sent ≡ s = ap (λ (x : RunStateView). taken_by x e sent) (sym wait.5) ∙ same in
        record {
          before = wait.2;
          first = ap (λ (x : RunStateView). slice_get x.host.state.endpoint.outbox 0) (sym wait.5) ∙ first;
          waits = inr (wait.0, wait.1, wait.3, wait.4, wait.6, sym (ap (λ (x : RunStateView). x.clock) its));
          state = sym (ap (λ (x : RunStateView). x.host.state) its);
          base = sym (ap (λ (x : RunStateView). x.base) its);
          header_tolerance = sym (ap (λ (x : RunStateView). x.header_tolerance) its);
          happened = took_one r q e sent is first;
        }

-- the packet that leaves next is the one that it took
abbrev Next : (ℕ → Bool) → RunStateView → SenderState → Type 0
Next may r before = (before ≡ r.host.state) ⊎ ((at : ℕ) × (may at ≡ true) × (advanced at r.host.state ≡ Ok before))

pub takes_next : (may : ℕ → Bool) (r s : RunStateView) (e : Event) (sent other : Sent) → leaves_next may r ≡ Some sent → (m : Met r s e other)
    → (other ≡ sent) × Next may r m.before
takes_next may r s e sent other next m = go m.waits (what_leaves may r sent next)
  where
    go : Waits r s e m.before → Stands r sent ⊎ Expires may r sent → (other ≡ sent) × Next may r m.before
    go (inl waits) (inl stands) =
        let same : Some other ≡ Some sent = sym m.first ∙ (ap (λ (x : SenderState). slice_get x.endpoint.outbox 0) waits.0 ∙ stands) in
        (cc, inl waits.0)
    go (inl waits) (inr due) =
        absurd (let clash : Some other ≡ None = sym m.first ∙ (ap (λ (x : SenderState). slice_get x.endpoint.outbox 0) waits.0 ∙ due.0) in cc)
    go (inr waits) (inl stands) =
        absurd (let clash : None ≡ Some sent = sym (ap (λ (l : List Sent). slice_get l 0) (no_items r.host.state.endpoint.outbox waits.0)) ∙ stands in cc)
    go (inr waits) (inr due) =
        let moment : waits.1 ≡ due.1 = same_moment (deadline_of r.host.state) waits.1 due.1 waits.2 due.3 in
        let came : advanced due.1 r.host.state ≡ Ok m.before = ap (λ (at : ℕ). advanced at r.host.state) (sym moment) ∙ waits.3 in
        let both_came : Ok m.before ≡ advanced due.1 r.host.state = sym came in
        let state : m.before ≡ due.2 = (let same : ran m.before ≡ ran due.2 = both_came ∙ due.5 in cc) in
        let first : Some other ≡ Some sent = sym m.first ∙ (ap (λ (x : SenderState). slice_get x.endpoint.outbox 0) state ∙ due.6) in
        (cc, inr (due.1, due.4, came))

-- from equal states two of them took the same
pub same_before : (r s q u : RunStateView) (e x : Event) (sent other : Sent) → q.host.state ≡ r.host.state → q.clock ≡ r.clock
    → (m : Met r s e sent) (n : Met q u x other) → (n.before ≡ m.before) × (u.clock ≡ s.clock)
same_before r s q u e x sent other same clock m n = go m.waits n.waits
  where
    empty : length r.host.state.endpoint.outbox ≡ 0 → slice_get r.host.state.endpoint.outbox 0 ≡ None
    empty none = ap (λ (l : List Sent). slice_get l 0) (no_items r.host.state.endpoint.outbox none)

    go : Waits r s e m.before → Waits q u x n.before → (n.before ≡ m.before) × (u.clock ≡ s.clock)
    go (inl a) (inl b) = (b.0 ∙ (same ∙ sym a.0), b.1 ∙ (clock ∙ sym a.1))
    go (inl a) (inr b) =
        let none : length r.host.state.endpoint.outbox ≡ 0 = ap (λ (y : SenderState). length y.endpoint.outbox) (sym same) ∙ b.0 in
        absurd (let clash : Some sent ≡ None = sym m.first ∙ (ap (λ (y : SenderState). slice_get y.endpoint.outbox 0) a.0 ∙ empty none) in cc)
    go (inr a) (inl b) =
        absurd (let clash : Some other ≡ None = sym n.first ∙ (ap (λ (y : SenderState). slice_get y.endpoint.outbox 0) (b.0 ∙ same) ∙ empty a.0) in cc)
    go (inr a) (inr b) =
        let due : deadline_of r.host.state ≡ Some b.1 = ap (λ (y : SenderState). deadline_of y) (sym same) ∙ b.2 in
        let moment : b.1 ≡ a.1 = same_moment (deadline_of r.host.state) b.1 a.1 due a.2 in
        let came : advanced a.1 r.host.state ≡ Ok n.before = ap (λ (y : SenderState). advanced a.1 y) (sym same) ∙ (ap (λ (at : ℕ). advanced at q.host.state) (sym moment) ∙ b.3) in
        let state : ran n.before ≡ ran m.before = sym came ∙ a.3 in
        (cc, b.5 ∙ (moment ∙ sym a.5))

-- ---- the packets that are left by a moment

-- the moment of a packet
abbrev pub moment : Sent → ℕ
moment sent = sent.at

-- the recording of packets that left, from one state of the recorder to another: all that the expiries up to a moment send
pub record LeftOver (until : ℕ) (t : RecorderView) (more : List RecordedEvent) (left : List Sent) (u : RecorderView) (a : SenderState) : Type 0 where
  pub state : a ≡ in_front left u.run.host.state
  pub inputs : inputs_in more ≡ []
  pub packets : departures_in more ≡ map departed left
  pub unmet : u.unmet ≡ t.unmet ++ map moment left
  pub base : u.base ≡ t.base
  pub header_tolerance : u.run.header_tolerance ≡ t.run.header_tolerance
  pub ready : IsReady u.count u.run
  pub early : u.run.clock ≤ until
  pub none : find_due until u.run.host.state ≡ None

abbrev LeftAll : ℕ → List RecordedEvent → RecorderView → RecorderView × List RecordedEvent → SenderState → Type 0
LeftAll until before t y a = (more : List RecordedEvent) × (left : List Sent) × (y.1 ≡ before ++ more) × LeftOver until t more left y.0 a

module _ (laws : Bases) where
  -- where nothing leaves any more no expiry is due
  none_leaves : (until : ℕ) (r : RunStateView) (a : SenderState) → advanced until r.host.state ≡ Ok a → leaves_next (λ due. nat_le due until) r ≡ None
      → find_due until r.host.state ≡ None
  none_leaves until r a h none = by_first (slice_get r.host.state.endpoint.outbox 0) refl none
    where
      s : SenderState
      s = r.host.state

      comes_then : (at : ℕ) → slice_get s.endpoint.outbox 0 ≡ None → deadline_of s ≡ Some at → nat_le at until ≡ true → oldest_of (advanced at s) ≡ None → ⊥
      comes_then at empty due within old =
          let on = advanced_on laws.one_by_one at until s a (leb-true at until within) h in
          let first = first_sent laws.after s on.0 at (none_in s.endpoint.outbox empty) due on.1 in
          let is : oldest_of (advanced at s) ≡ Some first.0 = ap oldest_of on.1 ∙ first.2 in
          let clash : None ≡ Some first.0 = sym old ∙ is in
          cc

      by_test : (at : ℕ) (b : Bool) → slice_get s.endpoint.outbox 0 ≡ None → deadline_of s ≡ Some at → nat_le at until ≡ b
          → or_expired s None (if b then Some at else None) ≡ None → find_due until s ≡ None
      by_test at true empty due within old = absurd (comes_then at empty due within old)
      by_test at false empty due within old = ap (due_by until) due ∙ ap (λ (b : Bool). if b then Some at else None) within

      by_due : (o : Option ℕ) → slice_get s.endpoint.outbox 0 ≡ None → deadline_of s ≡ o → or_expired s None (due_where (λ due. nat_le due until) o) ≡ None → find_due until s ≡ None
      by_due None empty due old = ap (due_by until) due
      by_due (Some at) empty due old = by_test at (nat_le at until) empty due refl old

      by_first : (o : Option Sent) → slice_get s.endpoint.outbox 0 ≡ o → or_expired s o (due_where (λ due. nat_le due until) (deadline_of s)) ≡ None → find_due until s ≡ None
      by_first None empty old = by_due (deadline_of s) empty refl old
      by_first (Some x) first old = absurd cc

  -- the expiries up to a later moment come to the same from where the next packet leaves
  before_next : (until : ℕ) (r : RunStateView) (before a : SenderState) → Next (λ due. nat_le due until) r before → advanced until r.host.state ≡ Ok a → advanced until before ≡ Ok a
  before_next until r before a (inl same) h = ap (advanced until) same ∙ h
  before_next until r before a (inr due) h =
      let on = advanced_on laws.one_by_one due.0 until r.host.state a (leb-true due.0 until due.1) h in
      let same : ran before ≡ ran on.0 = sym due.2 ∙ on.1 in
      let its : before ≡ on.0 = cc in
      ap (advanced until) its ∙ on.2

  one_left : (further : List RecordedEvent → RecorderView → Answers (RecorderView × List RecordedEvent)) (until : ℕ)
      → ((before : List RecordedEvent) (t : RecorderView) (y : RecorderView × List RecordedEvent) (a : SenderState) → IsReady t.count t.run → t.run.clock ≤ until → advanced until t.run.host.state ≡ Ok a
      → further before t ≡ Ok y → LeftAll until before t y a)
      → (line : ℕ) (before : List RecordedEvent) (t : RecorderView) (y : RecorderView × List RecordedEvent) (a : SenderState) (o : Option Sent) → leaves_next (λ due. nat_le due until) t.run ≡ o
      → IsReady t.count t.run → t.run.clock ≤ until → advanced until t.run.host.state ≡ Ok a → comes_on further line before t o ≡ Ok y → LeftAll until before t y a
  one_left further until goes line before t y a None is ready early came h =
      let none : find_due until t.run.host.state ≡ None = none_leaves until t.run a came is in
      let same : ran a ≡ ran t.run.host.state = sym came ∙ none_due until t.run.host.state none in
      let its : a ≡ t.run.host.state = cc in
      subst (λ (z : RecorderView × List RecordedEvent). LeftAll until before t z a) (given (t, before) y h) (
        [],
        [],
        sym (append-nil before),
        record {
          state = its;
          inputs = refl;
          packets = refl;
          unmet = sym (append-nil t.unmet);
          base = refl;
          header_tolerance = refl;
          ready = ready;
          early = early;
          none = none;
        },
      )
  one_left further until goes line before t y a (Some sent) is ready early came h =
      let may : ℕ → Bool = λ due. nat_le due until in
      let packet : Packet = packet_of sent.segment in
      let b = both (λ (x : RecorderView × RecordedEvent). further (before ++ x.1 ∷ []) (with_unmet x.0 sent.at)) (departs t line sent) y h in
      let x : Event = event_at t line sent.at (Outbound packet) in
      let was = has_happened t line sent.at (Outbound packet) b.0 b.1 in
      let s : RunStateView = was.0 in
      let m = met t.run s x packet (step_performs t.run s x was.1.0) in
      let its = takes_next may t.run s x sent m.0 is m.1 in
      let first = packet_went laws t line may sent b.0 ready is b.1 in
      let within : b.0.0.run.clock ≤ until = first.1 until (λ at comes. leb-true at until comes) early in
      let front : m.1.before ≡ in_front (sent ∷ []) s.host.state =
      first_stands m.1.before sent (m.1.first ∙ ap (λ (z : Sent). Some z) its.0) ∙ ap (in_front (sent ∷ [])) (sym m.1.state) in
      let from_there : advanced until (in_front (sent ∷ []) s.host.state) ≡ Ok a =
      ap (advanced until) (sym front) ∙ before_next until t.run m.1.before a its.1 came in
      let freed = came_by (in_front (sent ∷ [])) (advanced until (in_front (sent ∷ []) s.host.state)) (advanced until s.host.state) a (advanced_freed (sent ∷ []) until s.host.state) from_there in
      let state : b.0.0.run.host.state ≡ s.host.state = ap (λ (z : RecorderView × RecordedEvent). z.0.run.host.state) was.1.2 in
      let event : b.0.1 ≡ recorded_as sent.at x = ap (λ (z : RecorderView × RecordedEvent). z.1) was.1.2 in
      let rest = goes (before ++ b.0.1 ∷ []) (with_unmet b.0.0 sent.at) y freed.0 first.0.ready within (ap (advanced until) state ∙ freed.1) b.2 in (
        b.0.1 ∷ rest.0,
        sent ∷ rest.1,
        rest.2 ∙ append_assoc before (b.0.1 ∷ []) rest.0,
        record {
          state = freed.2 ∙ ap (in_front (sent ∷ [])) rest.3.state;
          inputs = ap (λ (z : RecordedEvent). input_at z.at z.event.action ++ inputs_in rest.0) event ∙ rest.3.inputs;
          packets = ap (λ (z : RecordedEvent). departure_at z.at z.event.action ++ departures_in rest.0) event ∙ ap (λ l. departed sent ∷ l) rest.3.packets;
          unmet = rest.3.unmet ∙ (ap (λ (z : RecorderView × RecordedEvent). (z.0.unmet ++ sent.at ∷ []) ++ map moment rest.1) was.1.2 ∙ append_assoc t.unmet (sent.at ∷ []) (map moment rest.1));
          base = rest.3.base ∙ ap (λ (z : RecorderView × RecordedEvent). z.0.base) was.1.2;
          header_tolerance = rest.3.header_tolerance ∙ (ap (λ (z : RecorderView × RecordedEvent). z.0.run.header_tolerance) was.1.2 ∙ m.1.header_tolerance);
          ready = rest.3.ready;
          early = rest.3.early;
          none = rest.3.none;
        },
      )

  pub all_left : (n line until : ℕ) (before : List RecordedEvent) (t : RecorderView) (y : RecorderView × List RecordedEvent) (a : SenderState) → IsReady t.count t.run → t.run.clock ≤ until
      → advanced until t.run.host.state ≡ Ok a → comes n line until before t ≡ Ok y → LeftAll until before t y a
  unfolding comes
  all_left zero line until before t y a ready early came h = absurd cc
  all_left (suc n) line until before t y a ready early came h = one_left (comes n line until) until (all_left n line until) line before t y a _ refl ready early came h
