-- The sender: what it holds between two inputs, and how a rule changes that or halts.
use Rattle.std.specs.Prelude.{ℕ, ◌+◌, ◌<◌, ◌^◌, List, [], ◌∷◌, ◌++◌, drop, Option, Some, None, unwrap_or, Result, Ok, Err, if◌then◌else◌}
use Rattle.pd_settings.specs.SettingSets.{no_settings}
use Rattle.pd_settings.specs.declared.settings.Settings.{Settings}
use Rattle.pd_seg.specs.declared.segments.Segment.{Segment}
use Rattle.pd_seg.specs.declared.segments.Sent.{Sent}
use Rattle.pd_seg.specs.declared.send_rule.SendRule.{SendRule}
use Rattle.pd_host.specs.Connection.{ConnectionView}
use Rattle.pd_host.specs.OutboxLimit.{has_place}
use Rattle.pd_host.specs.declared.endpoint.Endpoint.{Endpoint}
use Rattle.pd_host.specs.declared.halts.Halt.{Halt}
use Rattle.pd_host.specs.declared.halts.Halt.TheVariants.{Limit}
use Rattle.pd_host.specs.declared.halts.HostEnd.{HostEnd}
use Rattle.pd_host.specs.declared.halts.HostEnd.TheVariants.{OutOfMemory}
use Rattle.pd_host.specs.declared.descriptors.ListenState.TheVariants.{Absent}
use Rattle.pd_host.specs.declared.endpoint.SenderState.{SenderState}

-- a host: its state, and why it has ended, if it has
pub record HostView : Type 0 where
  pub state : SenderState
  pub end_reason : Option HostEnd

-- the number after the last octet that a connection has queued, 0 without one
abbrev pub queued_to : Option ConnectionView → ℕ
queued_to None = 0
queued_to (Some c) = c.board.end

-- the octets that are queued leave room below 2^31 for whatever one call may queue: at most the greatest `sndbuf`
abbrev pub IsShort : SenderState → Type 0
IsShort s = queued_to s.endpoint.connection + 1048576 < 2 ^ 31

-- an endpoint that nothing has happened to
abbrev pub fresh_endpoint : Endpoint
fresh_endpoint = record { listener = Absent; connection = None; outbox = [] }

-- a host that nothing has happened to
abbrev pub fresh_host : Settings → HostView
fresh_host settings = record {
  state = record { settings = settings; consulted_settings = no_settings; endpoint = fresh_endpoint };
  end_reason = None;
}

-- the result of a rule of the endpoint for the whole state: settings and uses stay
abbrev pub beside : SenderState → Result Endpoint Halt → Result SenderState Halt
beside s (Ok endpoint) = Ok (record s { endpoint = endpoint })
beside s (Err halt) = Err halt

-- goes on from what a rule gave, or stays halted
abbrev pub then_on : {A B : Type 0} → (A → Result B Halt) → Result A Halt → Result B Halt
then_on next (Ok s) = next s
then_on next (Err halt) = Err halt

-- the packets that nobody has taken, with one more by a rule, where there is a place for it
abbrev pub with_packet : ℕ → SendRule → Segment → List Sent → Result (List Sent) Halt
with_packet now rule segment packets =
    if has_place packets then Ok (packets ++ record { segment = segment; at = now; rule = rule } ∷ []) else Err Limit

-- the result of the outbox for the whole endpoint
abbrev pub with_outbox : Endpoint → Result (List Sent) Halt → Result Endpoint Halt
with_outbox e (Ok packets) = Ok (record e { outbox = packets })
with_outbox e (Err halt) = Err halt

-- a segment is put out at a moment, by a rule
abbrev pub put_out : ℕ → SendRule → Segment → Endpoint → Result Endpoint Halt
put_out now rule segment e = with_outbox e (with_packet now rule segment e.outbox)

-- the sender without the oldest packet that nobody has taken
abbrev pub without_oldest : HostView → HostView
without_oldest sender = record sender { state = record sender.state { endpoint = rest sender.state.endpoint } }
  where
    rest : Endpoint → Endpoint
    rest e = record e { outbox = drop 1 e.outbox }

-- why a sender for which no memory was found has ended: by that, unless it had ended before
abbrev pub end_of : HostView → HostEnd
end_of sender = unwrap_or sender.end_reason OutOfMemory

-- a sender for which no memory was found has ended
abbrev pub ended_out_of_memory : HostView → HostView
ended_out_of_memory sender = record sender { end_reason = Some (end_of sender) }
