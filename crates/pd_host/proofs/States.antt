-- Every state that the rules reach is lawful.
use Rattle.std.proofs.Common.{ℕ, Option, Some, None, refl}
use Rattle.std.specs.Prelude.{IfSome}
use Rattle.pd_settings.specs.declared.settings.Settings.{Settings}
use Rattle.pd_timer.specs.Laws.{StaysWithin as Bounds}
use Rattle.pd_recover.specs.Laws.{StaysWithin as Windows}
use Rattle.pd_host.specs.Calls.{with_stream, with_fin, closed_stream}
use Rattle.pd_host.specs.Connection.{ConnectionView}
use Rattle.pd_host.specs.Invariants.{IsReached, IsBelowPoint, IsLawful, StartsLawful, AdvancesStayLawful, ArrivalsStayLawful, CallsStayLawful, TakingStaysLawful}
use Rattle.pd_host.specs.Laws.{AreInOrder}
use Rattle.pd_host.specs.RttSegment.{timing_started}
use Rattle.pd_host.specs.declared.endpoint.SenderState.{SenderState}
use Rattle.pd_host.specs.declared.descriptors.StreamState.TheVariants as stream_state
use Rattle.pd_host.proofs.Acked.{taking_live, taking_new, taking_again}
use Rattle.pd_host.proofs.ArrivalsKept.{arrived_holds}
use Rattle.pd_host.proofs.CallsKept.{called_holds}
use Rattle.pd_host.proofs.Expired.{resent_reached, expired_reached, later_reached}
use Rattle.pd_host.proofs.ExpiriesKept.{advanced_holds}
use Rattle.pd_host.proofs.Kept.{by_test}
use Rattle.pd_host.proofs.Moments.{Good, good, up_to, anything, expiries, one_more, starts_up_to_date, taking_keeps_up}
use Rattle.pd_host.proofs.Queued.{accepted_reached, nagle_reached, finned_reached, queued_live, finished_live, abandoned_reached}
use Rattle.pd_host.proofs.Reached.{IsLive, sending_live, filling_live, entry_live, entry_alone_live}
use Rattle.pd_host.proofs.Recovers.{taking_below, noted_below, entered_below, stream_below, begun_below, nagle_below, finned_below}
use Rattle.pd_host.proofs.Rules.{Holds, HoldsFirst, KeptBySending, KeptByArrivals, KeptByCalls, KeptByExpiries, first_run}
use Rattle.pd_host.proofs.Shaken.{begun_reached, reset_reached, established_reached}
use Rattle.pd_host.proofs.Timely.{IsTimely, first_timely, arrivals_timely, calls_timely}

-- a connection between two inputs
record IsKnown (b : Settings) (now : ℕ) (c : ConnectionView) : Type 0 where
  timely : IsTimely b now c.timer
  reached : IsReached b now c
  below : IsBelowPoint c

-- one that data is sent on
record IsSending (b : Settings) (now : ℕ) (c : ConnectionView) : Type 0 where
  timely : IsTimely b now c.timer
  live : IsLive b now c
  below : IsBelowPoint c

closed_below : (c : ConnectionView) → IsBelowPoint c → IsBelowPoint (closed_stream c)
closed_below c h =
    by_test (λ (d : ConnectionView). IsBelowPoint (with_stream stream_state.Closed d)) c.is_reset c (with_fin c) (λ _. stream_below stream_state.Closed c h)
    (λ _. stream_below stream_state.Closed (with_fin c) h)

module _ (bounds : Bounds) (windows : Windows) where
  sending_known : (now : ℕ) (b : Settings) → KeptBySending now (IsSending b now)
  sending_known now b = record {
    ready = λ c h. record { timely = (arrivals_timely bounds now b b).sending.ready c h.timely; live = (sending_live b now).ready c h.live; below = begun_below now c h.below };
    sent = λ c segment h e. record {
      timely = (arrivals_timely bounds now b b).sending.sent c segment h.timely e;
      live = (sending_live b now).sent c segment h.live e;
      below = h.below;
    };
  }

  arrivals_known : (now : ℕ) (b : Settings) → KeptByArrivals now b (IsKnown b now) (IsSending b now)
  arrivals_known now b =
      let t = arrivals_timely bounds now b b in
      record {
        sending = sending_known now b;
        sent = λ c h. record { timely = h.timely; reached = h.live.reached; below = h.below };
        acks = record {
          filled = λ filling pipe c sent h e. record {
            timely = t.acks.filled filling pipe c sent h.timely e;
            live = filling_live b now filling pipe c sent c.established h.live refl e;
            below = noted_below now filling c sent c.established h.below refl;
          };
          entry = λ c h e. record {
            timely = t.acks.entry c h.timely e;
            live = entry_live b now c h.live e;
            below = entered_below (first_run c) (timing_started now (first_run c) c) c.established h.below refl;
          };
          entry_alone = λ c h. record {
            timely = t.acks.entry_alone c h.timely;
            live = entry_alone_live b now c h.live;
            below = entered_below (first_run c) c c.established h.below refl;
          };
          ack = λ segment c h passed. record {
            timely = t.acks.ack segment c h.timely passed;
            live = taking_live b now windows segment c c.established h.reached passed refl;
            below = taking_below now segment c c.established h.below;
          };
          new_segment = λ segment c new h passed e. record {
            timely = t.acks.new_segment segment c new h.timely passed e;
            live = taking_new b now windows segment c new c.established h.reached passed refl e;
            below = taking_below now segment c c.established h.below;
          };
          again = λ segment c first h passed e. record {
            timely = t.acks.again segment c first h.timely passed e;
            live = taking_again b now windows segment c first c.established h.reached passed refl e;
            below = taking_below now segment c c.established h.below;
          };
        };
        established = λ segment c h e. record {
          timely = t.established segment c h.timely e;
          reached = established_reached b now windows segment c h.reached e;
          below = λ sack recovering. absurd cc;
        };
        is_reset = λ c h. record { timely = t.is_reset c h.timely; reached = reset_reached b now c h.reached; below = h.below };
        finished = λ c h. record { timely = t.finished c h.timely; reached = finned_reached b now c h.reached; below = finned_below c h.below };
      }

  first_known : (now : ℕ) → HoldsFirst now (λ b c. IsKnown b now c)
  first_known now b listener segment e =
      record { timely = first_timely bounds now b listener segment e; reached = begun_reached b now listener segment e; below = λ sack. tt }

  calls_known : (now : ℕ) (b : Settings) → KeptByCalls now b (λ _. Unit {0}) (IsKnown b now) (IsSending b now)
  calls_known now b =
      let t = calls_timely bounds now b b in
      record {
        sending = sending_known now b;
        sent = λ c h. record { timely = h.timely; reached = h.live.reached; below = h.below };
        accepted = λ c h e. record {
          timely = t.accepted c h.timely e;
          reached = accepted_reached b now c h.reached e;
          below = stream_below stream_state.Open c h.below;
        };
        nagle = λ on c h. record { timely = t.nagle on c h.timely; reached = nagle_reached b now on c h.reached; below = nagle_below on c h.below };
        queued = λ n c q h unclosed still. record {
          timely = t.queued n c tt h.timely unclosed still;
          live = queued_live b now n c h.reached unclosed still;
          below = h.below;
        };
        finished = λ c q h unclosed still. record {
          timely = t.finished c tt h.timely unclosed still;
          live = finished_live b now c h.reached unclosed still;
          below = closed_below c h.below;
        };
        abandoned = λ c h unclosed was. record {
          timely = t.abandoned c h.timely unclosed was;
          reached = abandoned_reached b now c h.reached unclosed was;
          below = closed_below c h.below;
        };
      }

  expiries_known : KeptByExpiries AreInOrder IsKnown
  expiries_known =
      let t = expiries bounds (λ b. b) in
      record {
        packets = t.packets;
        rest = t.rest;
        ahead = λ b now at c h e. t.ahead b now at c h.timely e;
        handshake = λ b now at c h e is. record {
          timely = t.handshake b now at c h.timely e is;
          reached = resent_reached b now at c h.reached e;
          below = h.below;
        };
        expired = λ b now at c est h e is. record {
          timely = t.expired b now at c est h.timely e is;
          reached = expired_reached b windows now at c est h.reached e is;
          below = λ sack recovering. absurd cc;
        };
        idle = λ b now until c le h e. record {
          timely = t.idle b now until c le h.timely e;
          reached = later_reached b now until c le h.reached;
          below = h.below;
        };
      }

-- the record of a state, and what it is made of

known : (b : Settings) (now : ℕ) (o : Option ConnectionView) → IfSome o (λ c. IsTimely b now c.timer) → IfSome o (IsReached b now)
    → IfSome o IsBelowPoint → IfSome o (IsKnown b now)
known b now None t r p = tt
known b now (Some c) t r p = record { timely = t; reached = r; below = p }

timely_of : (b : Settings) (now : ℕ) (o : Option ConnectionView) → IfSome o (IsKnown b now) → IfSome o (λ c. IsTimely b now c.timer)
timely_of b now None h = tt
timely_of b now (Some c) h = h.timely

reached_of : (b : Settings) (now : ℕ) (o : Option ConnectionView) → IfSome o (IsKnown b now) → IfSome o (IsReached b now)
reached_of b now None h = tt
reached_of b now (Some c) h = h.reached

below_of : (b : Settings) (now : ℕ) (o : Option ConnectionView) → IfSome o (IsKnown b now) → IfSome o IsBelowPoint
below_of b now None h = tt
below_of b now (Some c) h = h.below

abbrev HoldsAt : ℕ → SenderState → Type 0
HoldsAt now s = Holds (AreInOrder now) (λ b c. IsKnown b now c) s

holds : (now : ℕ) (s : SenderState) → IsLawful now s → HoldsAt now s
holds now s h =
    let k : Good s.settings now s = good s.settings now s h.moments in
    record { packets = k.packets; connection = known s.settings now s.endpoint.connection k.connection h.connection h.recovery }

lawful : (now : ℕ) (s : SenderState) → HoldsAt now s → IsLawful now s
lawful now s h = record {
  moments = up_to s.settings now s (record { packets = h.packets; connection = timely_of s.settings now s.endpoint.connection h.connection });
  connection = reached_of s.settings now s.endpoint.connection h.connection;
  recovery = below_of s.settings now s.endpoint.connection h.connection;
}

pub starts_lawful : StartsLawful
starts_lawful settings = record { moments = starts_up_to_date settings; connection = tt; recovery = tt }

pub advances_stay_lawful : Bounds → Windows → AdvancesStayLawful
advances_stay_lawful bounds windows now until s t le h came =
    lawful until t (advanced_holds AreInOrder IsKnown (expiries_known bounds windows) until now s t le (holds now s h) came)

pub arrivals_stay_lawful : Bounds → Windows → ArrivalsStayLawful
arrivals_stay_lawful bounds windows segment now s t h came =
    lawful now t (arrived_holds now (AreInOrder now) (λ b c. IsKnown b now c) (λ b c. IsSending b now c) (one_more now) (arrivals_known bounds windows now)
    (first_known bounds windows now) segment s t (holds now s h) came)

pub calls_stay_lawful : Bounds → Windows → CallsStayLawful
calls_stay_lawful bounds windows call now s t answer h came =
    lawful now t (called_holds now (AreInOrder now) (λ b c. IsKnown b now c) (λ b c. IsSending b now c) (λ _. Unit {0}) (one_more now)
    (calls_known bounds windows now) call s t answer (anything s.endpoint.connection) (holds now s h) came)

pub taking_stays_lawful : TakingStaysLawful
taking_stays_lawful now sender h = record { moments = taking_keeps_up sender.state.settings now sender h.moments; connection = h.connection; recovery = h.recovery }
