-- A timer that goes by the settings, and expires in time: what each rule keeps of it.
use Rattle.std.proofs.Common.{ℕ, ◌+◌, ◌-◌, ◌<◌, ◌≤◌, ◌==◌, ◌*◌, min, nat_lt, Bool, if◌then◌else◌, Option, Some, None, arith}
use Rattle.std.specs.Prelude.{is_some, IfSome}
use Rattle.pd_settings.specs.declared.settings.Settings.{Settings}
use Rattle.pd_seg.specs.declared.sack_spans.Span.{Span}
use Rattle.pd_seg.specs.declared.segments.Segment.{Segment}
use Rattle.pd_timer.specs.Laws.{IsBoundedBy, StaysWithin}
use Rattle.pd_timer.specs.Rto.{RtoView, initial, sampled, started, restarted, stopped, expired_rto, reinitialized}
use Rattle.pd_recover.specs.declared.next_segment.NextSegment.{NextSegment}
use Rattle.pd_recover.specs.declared.next_segment.NextSegment.TheVariants.{Lost, New, Hole, Rescue}
use Rattle.pd_host.specs.AckEffects.{newly_acked, with_number, with_blocks, with_timing, can_update_window, with_new_window, with_ack, taking, sent_as, fill_noted_on, entered_on}
use Rattle.pd_host.specs.Calls.{with_fin, closed_stream}
use Rattle.pd_host.specs.Connection.{ConnectionView}
use Rattle.pd_host.specs.Handshake.{syn_acked}
use Rattle.pd_host.specs.RttSegment.{timing_started, is_measured, measured, with_sample, with_timer_updated}
use Rattle.pd_host.specs.declared.established.Established.{Established}
use Rattle.pd_host.specs.declared.connection.ack_effects.WindowFill.{WindowFill}
use Rattle.pd_host.specs.declared.connection.rtt_segment.RttSegment.{RttSegment}
use Rattle.pd_host.proofs.Kept.{by_test}
use Rattle.pd_host.proofs.Rules.{HoldsFirst, KeptBySending, KeptByArrivals, KeptByCalls, first_run}

-- a moment ahead, by at most the greatest timeout
abbrev pub IsAhead : Settings → ℕ → ℕ → Type 0
IsAhead b now at = (now < at) × (at ≤ now + b.max_rto_us)

-- the timer goes by the settings, and its expiry lies ahead
pub record IsTimely (b : Settings) (now : ℕ) (t : RtoView) : Type 0 where
  pub bounds : IsBoundedBy b t
  pub deadline : IfSome t.deadline (IsAhead b now)

-- no timeout is 0
least : (b : Settings) → 1000 ≤ b.min_rto_us
least b = b.min_rto_us_in_range.0

restarted_timely : (b : Settings) (now : ℕ) (t : RtoView) → IsBoundedBy b t → IsTimely b now (restarted now t)
restarted_timely b now t g = record {
  bounds = record { least = g.least; greatest = g.greatest; not_below = g.not_below; not_above = g.not_above };
  deadline = (omega (arith, least b, g.not_below), omega (arith, g.not_above));
}

pub started_timely : (b : Settings) (now : ℕ) (t : RtoView) → IsTimely b now t → IsTimely b now (started now t)
started_timely b now t h = by_test (IsTimely b now) (is_some t.deadline) t (restarted now t) (λ _. h) (λ _. restarted_timely b now t h.bounds)

pub stopped_timely : (b : Settings) (now : ℕ) (t : RtoView) → IsBoundedBy b t → IsTimely b now (stopped t)
stopped_timely b now t g = record {
  bounds = record { least = g.least; greatest = g.greatest; not_below = g.not_below; not_above = g.not_above };
  deadline = tt;
}

module _ (within : StaysWithin) where
  pub backed_off_timely : (b : Settings) (now : ℕ) (t : RtoView) → IsBoundedBy b t → IsTimely b now (expired_rto now t)
  backed_off_timely b now t g =
      let k : IsBoundedBy b (expired_rto now t) = within.expiry now b t g in
      restarted_timely b now (record t { rto = min (2 * t.rto) t.max_rto_us }) (record { least = k.least; greatest = k.greatest; not_below = k.not_below; not_above = k.not_above })

  pub initial_timely : (b : Settings) (now : ℕ) → IsTimely b now (started now (initial b.min_rto_us b.max_rto_us))
  initial_timely b now = restarted_timely b now (initial b.min_rto_us b.max_rto_us) (within.first b)

  sampled_timely : (b : Settings) (now r granularity : ℕ) (t : RtoView) → IsTimely b now t → IsTimely b now (sampled r granularity t)
  sampled_timely b now r granularity t h = record { bounds = within.measured r granularity b t h.bounds; deadline = h.deadline }

  settled_timely : (b : Settings) (now : ℕ) (syn_ack_resent : Bool) (t : RtoView) → IsTimely b now t
      → IsTimely b now (stopped (if syn_ack_resent then reinitialized t else t))
  settled_timely b now syn_ack_resent t h =
      stopped_timely b now _ (by_test (IsBoundedBy b) syn_ack_resent (reinitialized t) t (λ _. within.establishment b t h.bounds) (λ _. h.bounds))

  -- the connection's timer
  abbrev Timely : Settings → ℕ → ConnectionView → Type 0
  Timely b now c = IsTimely b now c.timer

  measured_timely : (b : Settings) (now granularity ack : ℕ) (c : ConnectionView) (o : Option RttSegment) → Timely b now c
      → Timely b now (measured now granularity ack c o)
  measured_timely b now granularity ack c None h = h
  measured_timely b now granularity ack c (Some t) h =
      by_test (Timely b now) (is_measured ack t) _ c (λ _. sampled_timely b now (now - t.sent_at) granularity c.timer h) (λ _. h)

  moved_timely : (b : Settings) (now : ℕ) (c : ConnectionView) → Timely b now c → Timely b now (with_timer_updated now c)
  moved_timely b now c h =
      by_test (IsTimely b now) (c.board.una == c.board.top) (stopped c.timer) (restarted now c.timer)
      (λ _. stopped_timely b now c.timer h.bounds) (λ _. restarted_timely b now c.timer h.bounds)

  timing_timely : (b : Settings) (now granularity n : ℕ) (c : ConnectionView) → Timely b now c → Timely b now (with_timing now granularity n c)
  timing_timely b now granularity n c h =
      by_test (Timely b now) (nat_lt 0 n) _ c
      (λ _. moved_timely b now (with_sample now granularity c.board.una c) (measured_timely b now granularity c.board.una c c.rtt_segment h)) (λ _. h)

  window_timely : (b : Settings) (now : ℕ) (segment : Segment) (e : Established) (c : ConnectionView) → Timely b now c
      → Timely b now (with_new_window segment e c).0
  window_timely b now segment e c h = by_test (λ (p : ConnectionView × Established). Timely b now p.0) (can_update_window e segment) _ (c, e) (λ _. h) (λ _. h)

  ack_timely : (b : Settings) (now : ℕ) (segment : Segment) (e : Established) (c : ConnectionView) → Timely b now c
      → Timely b now (with_ack now segment e c).0.0
  ack_timely b now segment e c h =
      window_timely b now segment e _
      (timing_timely b now e.granularity_us (newly_acked c segment) (with_blocks segment (with_number segment c)) h)

  taking_timely : (b : Settings) (now : ℕ) (segment : Segment) (c : ConnectionView) (o : Option Established) → Timely b now c
      → Timely b now (taking now segment c o).0
  taking_timely b now segment c None h = h
  taking_timely b now segment c (Some e) h = ack_timely b now segment e c h

  -- what is noted of loss recovery leaves the timer
  noted_timely : (b : Settings) (now : ℕ) (filling : WindowFill) (sent : NextSegment) (c : ConnectionView) (o : Option Established) → Timely b now c
      → Timely b now (fill_noted_on filling sent c o)
  noted_timely b now filling sent c None h = h
  noted_timely b now filling sent c (Some e) h = h

  entered_timely : (b : Settings) (now : ℕ) (segment : Span) (c : ConnectionView) (o : Option Established) → Timely b now c
      → Timely b now (entered_on segment c o)
  entered_timely b now segment c None h = h
  entered_timely b now segment c (Some e) h = h

  clocked_timely : (b : Settings) (now : ℕ) (segment : Span) (c : ConnectionView) → Timely b now c → Timely b now (timing_started now segment c)
  clocked_timely b now segment c h = started_timely b now c.timer h

  sent_timely : (b : Settings) (now : ℕ) (sent : NextSegment) (c : ConnectionView) → Timely b now c → Timely b now (sent_as now sent c)
  sent_timely b now (Lost segment) c h = clocked_timely b now segment c h
  sent_timely b now (New segment) c h = clocked_timely b now segment c h
  sent_timely b now (Hole segment) c h = clocked_timely b now segment c h
  sent_timely b now (Rescue segment) c h = clocked_timely b now segment c h

  closed_timely : (b : Settings) (now : ℕ) (c : ConnectionView) → Timely b now c → Timely b now (closed_stream c)
  closed_timely b now c h = by_test (Timely b now) c.is_reset c (with_fin c) (λ _. h) (λ _. h)

  sending_timely : (b : Settings) (now : ℕ) → KeptBySending now (Timely b now)
  sending_timely b now = record {
    ready = λ c h. h;
    sent = λ c segment h e. clocked_timely b now segment c h;
  }

  -- a connection that begins goes by the settings held; one that was begun goes on by its own, whatever is held
  pub first_timely : (now : ℕ) → HoldsFirst now (λ b c. Timely b now c)
  first_timely now b _ segment _ = initial_timely b now

  pub arrivals_timely : (now : ℕ) (a b : Settings) → KeptByArrivals now b (Timely a now) (Timely a now)
  arrivals_timely now a b = record {
    sending = sending_timely a now;
    sent = λ c h. h;
    acks = record {
      filled = λ filling pipe c sent h e.
          noted_timely a now filling sent (sent_as now sent c) c.established (sent_timely a now sent c h);
      entry = λ c h e. entered_timely a now (first_run c) (timing_started now (first_run c) c) c.established (clocked_timely a now (first_run c) c h);
      entry_alone = λ c h. entered_timely a now (first_run c) c c.established h;
      ack = λ segment c h passed. taking_timely a now segment c c.established h;
      new_segment = λ segment c new h passed e. clocked_timely a now new (taking now segment c c.established).0 (taking_timely a now segment c c.established h);
      again = λ segment c first h passed e. clocked_timely a now first (taking now segment c c.established).0 (taking_timely a now segment c c.established h);
    };
    established = λ segment c h e.
        settled_timely a now (with_sample now b.granularity_us 1 (syn_acked c)).syn_ack_resent _
        (measured_timely a now b.granularity_us 1 (syn_acked c) c.rtt_segment h);
    is_reset = λ c h. stopped_timely a now c.timer h.bounds;
    finished = λ c h. h;
  }

  pub calls_timely : (now : ℕ) (a b : Settings) → KeptByCalls now b (λ _. Unit {0}) (Timely a now) (Timely a now)
  calls_timely now a b = record {
    sending = sending_timely a now;
    sent = λ c h. h;
    accepted = λ c h e. h;
    nagle = λ on c h. h;
    queued = λ n c q h unclosed still. h;
    finished = λ c q h unclosed still. closed_timely a now c h;
    abandoned = λ c h unclosed was. closed_timely a now c h;
  }
