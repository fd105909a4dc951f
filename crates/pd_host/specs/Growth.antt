-- How much an input queues.
use Rattle.std.specs.Prelude.{◌≡◌, ℕ, ◌+◌, ◌≤◌, ◌<◌, ◌^◌, min, Option, Some, Ok}
use Rattle.pd_settings.specs.declared.settings.Settings.{Settings}
use Rattle.pd_script.specs.declared.calls.Call.{Call}
use Rattle.pd_seg.specs.declared.call_results.Answer.{Answer}
use Rattle.pd_seg.specs.declared.segments.Segment.{Segment}
use Rattle.pd_host.specs.Arrivals.{arrived}
use Rattle.pd_host.specs.Calls.{called}
use Rattle.pd_host.specs.Expiries.{advanced}
use Rattle.pd_host.specs.Syscalls.{syscall_of}
use Rattle.pd_host.specs.Host.{queued_to}
use Rattle.pd_host.specs.declared.syscall.SocketOperation.{SocketOperation}
use Rattle.pd_host.specs.declared.syscall.SocketOperation.TheVariants.{Write, Close}
use Rattle.pd_host.specs.declared.syscall.Syscall.{Syscall}
use Rattle.pd_host.specs.declared.syscall.Syscall.TheVariants.{On}
use Rattle.pd_host.specs.declared.endpoint.SenderState.{SenderState}

-- the most octets that an operation queues: those that a `write` names, at most as many as the setting `sndbuf` lets wait,
-- and the FIN of a `close`
abbrev pub asked_of : ℕ → SocketOperation → ℕ
asked_of sndbuf (Write n) = min n sndbuf
asked_of sndbuf Close = 1
asked_of sndbuf _ = 0

-- and that a call queues
abbrev pub asked_by : ℕ → Option Syscall → ℕ
asked_by sndbuf (Some (On fd operation)) = asked_of sndbuf operation
asked_by sndbuf _ = 0

-- so many more leave the number after the last octet below 2^31
abbrev pub HasRoomFor : ℕ → SenderState → Type 0
HasRoomFor octets s = queued_to s.endpoint.connection + octets < 2 ^ 31

-- expiries queue nothing,
abbrev pub ExpiriesQueueNothing : Type 0
ExpiriesQueueNothing =
    (until : ℕ) (s t : SenderState) → advanced until s ≡ Ok t
    → queued_to t.endpoint.connection ≡ queued_to s.endpoint.connection

-- an arrival at most our SYN,
abbrev pub ArrivalsQueueOurSyn : Type 0
ArrivalsQueueOurSyn =
    (segment : Segment) (now : ℕ) (s t : SenderState) → arrived segment now s ≡ Ok t
    → queued_to t.endpoint.connection ≤ queued_to s.endpoint.connection + 1

-- a call at most what it asks for,
abbrev pub CallsQueueWhatTheyAsk : Type 0
CallsQueueWhatTheyAsk =
    (call : Call) (now : ℕ) (s t : SenderState) (answer : Answer) → called call now s ≡ Ok (t, answer)
    → queued_to t.endpoint.connection ≤ queued_to s.endpoint.connection + asked_by s.settings.sndbuf (syscall_of call)

-- and that is at most the greatest `sndbuf`
abbrev pub CallsAskFew : Type 0
CallsAskFew = (settings : Settings) (call : Call) → asked_by settings.sndbuf (syscall_of call) ≤ 1048576
