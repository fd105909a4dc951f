-- A segment from outside the receive window leaves the connection as it is.
use Rattle.std.proofs.Common.{◌≡◌, ℕ, Bool, true, false, if◌then◌else◌, nat_lt, length, List, ◌∷◌, Option, None, Some, Result, Ok, Err, sym, ap, ◌∙◌}
use Rattle.pd_seg.specs.declared.segments.Segment.{Segment}
use Rattle.pd_seg.specs.declared.segments.Sent.{Sent}
use Rattle.pd_host.specs.Arrivals.{first_failed_check, finished_by, passed_on, arrived_on, is_in_window}
use Rattle.pd_host.specs.Connection.{ConnectionView}
use Rattle.pd_host.specs.InputLaws.{OutsideIsHarmless}
use Rattle.pd_host.specs.Host.{beside, with_outbox, then_on}
use Rattle.pd_host.specs.declared.halts.Halt.{Halt}
use Rattle.pd_host.specs.declared.halts.Halt.TheVariants.{Limit}
use Rattle.pd_host.specs.declared.connection.segment_check.SegmentCheck.{SegmentCheck}
use Rattle.pd_host.specs.declared.connection.segment_check.SegmentCheck.TheVariants.{NotRun, StrayRst, OutsideWindow}
use Rattle.pd_host.specs.declared.endpoint.SenderState.{SenderState}

-- the state that came
abbrev ok : SenderState → Result SenderState Halt
ok s = Ok s

pub given : (x t : SenderState) → ok x ≡ ok t → t ≡ x
given x t h = cc

-- what the first two checks rule goes no further
dropped_keeps : (b : Bool) (packets : List Sent) (segment : Segment) (now : ℕ) (s t : SenderState)
    → then_on (finished_by now segment (Some OutsideWindow)) (beside s (with_outbox s.endpoint (if b then Ok packets else Err Limit))) ≡ Ok t
    → t.endpoint.connection ≡ s.endpoint.connection
dropped_keeps true packets segment now s t h = ap (λ (u : SenderState). u.endpoint.connection) (given _ t h)
dropped_keeps false packets segment now s t h = absurd cc

-- a packet more leaves the connection
pub outbox_keeps : (b : Bool) (packets : List Sent) (s t : SenderState)
    → beside s (with_outbox s.endpoint (if b then Ok packets else Err Limit)) ≡ Ok t
    → t.endpoint.connection ≡ s.endpoint.connection
outbox_keeps true packets s t h = ap (λ (u : SenderState). u.endpoint.connection) (given _ t h)
outbox_keeps false packets s t h = absurd cc

-- of the first two checks one rules
outside : (bad inside rst : Bool) (checks : List (Option SegmentCheck)) (segment : Segment) (now : ℕ) (s t : SenderState) (c : ConnectionView)
    → inside ≡ false
    → passed_on now segment c s (first_failed_check ((if bad then Some NotRun else None) ∷ (if inside then None else Some (if rst then StrayRst else OutsideWindow)) ∷ checks)) ≡ Ok t
    → t.endpoint.connection ≡ s.endpoint.connection
outside true inside rst checks segment now s t c o h = absurd cc
outside false true rst checks segment now s t c o h = absurd cc
outside false false true checks segment now s t c o h = ap (λ (u : SenderState). u.endpoint.connection) (given _ t h)
outside false false false checks segment now s t c o h = dropped_keeps (nat_lt (length s.endpoint.outbox) 1024) _ segment now s t h

pub outside_is_harmless : OutsideIsHarmless
outside_is_harmless segment now s t c has away came =
    outside _ (is_in_window c segment) segment.flags.rst _ segment now s t c away (ap (arrived_on now segment s) (sym has) ∙ came) ∙ has
