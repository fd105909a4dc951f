-- Definitions that contracts of private functions cite and no public one does.
use Rattle.std.specs.Prelude.{⊤, ◌≤◌, true, List, Some, Result}
use Rattle.std.specs.Option.{option_or}
use Rattle.pd_seg.specs.declared.option_list.SegOption.{SegOption}
use Rattle.pd_seg.specs.declared.option_list.SegOption.TheVariants.{Mss, Wscale, SackOk}
use Rattle.pd_seg.specs.declared.sack_spans.Span.{Span}
use Rattle.pd_recover.specs.declared.ack_action.AckAction.{AckAction}
use Rattle.pd_recover.specs.declared.ack_action.AckAction.TheVariants.{NewSegment}
use Rattle.pd_host.specs.Connection.{ConnectionView}
use Rattle.pd_host.specs.declared.halts.Halt.{Halt}
use Rattle.pd_host.specs.declared.syn_options.SynOptions.{SynOptions}
use Rattle.pd_host.specs.declared.endpoint.SenderState.{SenderState}
use Rattle.pd_seg.specs.declared.call_results.Answer.{Answer}
use Rattle.pd_seg.specs.declared.segments.Sent.{Sent}
use Rattle.pd_host.specs.InputResults.{Gives, GivesAnswer}
use Rattle.pd_host.specs.declared.halts.HostEnd.{HostEnd}

-- The item that is found, and one time of it

-- a segment that ends among the octets that are queued, and isn't acknowledged beyond
abbrev pub IsQueued : Span → ConnectionView → Type 0
IsQueued segment c = (c.board.una ≤ segment.end) × (segment.end ≤ c.board.end)

-- a new segment that follows ends so
abbrev pub FollowsQueued : AckAction → ConnectionView → Type 0
FollowsQueued (NewSegment segment) c = IsQueued segment c
FollowsQueued _ c = ⊤

-- the state with this connection and these packets
abbrev pub with_connection_and_packets : ConnectionView → List Sent → SenderState → SenderState
with_connection_and_packets c packets s = record s { endpoint = record s.endpoint { connection = Some c; outbox = packets } }

-- a rule's result came of a connection and the packets, whatever else the state holds
abbrev pub GivesOn : (SenderState → Result SenderState Halt) → ConnectionView → List Sent → Result (Unit {0}) HostEnd → ConnectionView → List Sent → Type 0
GivesOn rule c packets result d new = (s : SenderState) → Gives (rule (with_connection_and_packets c packets s)) result (with_connection_and_packets d new s)

-- the same of a call, with what it answers
abbrev pub AnswersOn : (SenderState → Result (SenderState × Answer) Halt) → ConnectionView → List Sent → Result Answer HostEnd → ConnectionView → List Sent → Type 0
AnswersOn rule c packets result d new = (s : SenderState) → GivesAnswer (rule (with_connection_and_packets c packets s)) result (with_connection_and_packets d new s)

-- Options

-- the offers with one more option; an earlier offer counts
abbrev pub with_option : SynOptions → SegOption → SynOptions
with_option syn_options (Mss octets) = record syn_options { mss = option_or syn_options.mss (Some octets) }
with_option syn_options (Wscale count) = record syn_options { count = option_or syn_options.count (Some count) }
with_option syn_options SackOk = record syn_options { sack = true }
with_option syn_options _ = syn_options
