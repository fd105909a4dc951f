-- The rules of calls that an event comes to, and why the sender sends no more after an input.
use Rattle.std.specs.Prelude.{ℕ, ◌==◌, nat_lt, List, [], ◌∷◌, codes, Option, Some, None, if◌then◌else◌}
use Rattle.pd_script.specs.declared.calls.Argument.{Argument}
use Rattle.pd_script.specs.declared.calls.Argument.TheVariants.{Int, Element, Constant as Word}
use Rattle.pd_script.specs.declared.calls.Call.{Call}
use Rattle.pd_script.specs.declared.calls.Constant.{Constant}
use Rattle.pd_script.specs.declared.calls.Constant.TheVariants.{TcpNodelay}
use Rattle.pd_script.specs.declared.calls.ErrorName.{ErrorName}
use Rattle.pd_script.specs.declared.calls.ErrorName.TheVariants.{Ebadf, Einval, Eagain, Epipe, Unknown as OtherError}
use Rattle.pd_script.specs.declared.calls.ExpectedResult.{ExpectedResult}
use Rattle.pd_script.specs.declared.calls.ExpectedResult.TheVariants.{Int as Decimal, Hex, Negative}
use Rattle.pd_script.specs.declared.calls.Function.{Function}
use Rattle.pd_script.specs.declared.calls.Function.TheVariants.{Socket, Bind, Listen, Accept, Setsockopt, Fcntl, Write, Close, Unknown}
use Rattle.pd_host.specs.declared.connection.introspection.SendBlocker.{SendBlocker}
use Rattle.pd_host.specs.declared.connection.introspection.SendBlocker.TheVariants as blocked

-- a call that was refused, by the error that the script names
abbrev pub error_name : Option ErrorName → List ℕ
error_name (Some Ebadf) = codes "own.call.ebadf"
error_name (Some Einval) = codes "own.call.einval"
error_name (Some Eagain) = codes "own.call.eagain"
error_name (Some Epipe) = codes "own.call.epipe"
error_name _ = codes "own.call.error"

-- a `write` that queues all octets, a part of them, or none since it names none
abbrev pub queued_name : ℕ → ℕ → List ℕ
queued_name octets queued =
    if queued == 0 then codes "own.call.write-nothing" else (if nat_lt queued octets then codes "own.call.write-part" else codes "own.call.write")

abbrev pub written_name : List Argument → ℕ → List ℕ
written_name (fd ∷ buffer ∷ Int octets ∷ []) queued = queued_name octets queued
written_name _ queued = codes "own.call.write"

-- `close` of the connection, or of the listening descriptor
abbrev pub closed_name : List Argument → List ℕ
closed_name (Int fd ∷ []) = if fd == 3 then codes "own.call.close-listener" else codes "rfc9293.call.close"
closed_name _ = codes "rfc9293.call.close"

-- TCP_NODELAY of the connection turns Nagle's algorithm off or on (RFC 9293, section 3.7.4); of the listening descriptor it has
-- no effect
abbrev pub nodelay_name : ℕ → ℕ → List ℕ
nodelay_name fd n =
    if fd == 3 then codes "own.call.nodelay-on-listener" else (if n == 1 then codes "rfc9293.nodelay.on" else codes "rfc9293.nodelay.off")

abbrev pub option_name : List Argument → List ℕ
option_name (Int fd ∷ level ∷ Word TcpNodelay ∷ Element n ∷ size ∷ []) = nodelay_name fd n
option_name _ = codes "own.call.reuseaddr"

-- a call that was done, with the number that it answers
abbrev pub done_name : Function → List Argument → ℕ → List ℕ
done_name Socket arguments n = codes "own.call.socket"
done_name Bind arguments n = codes "own.call.bind"
done_name Listen arguments n = codes "own.call.listen"
done_name Accept arguments n = codes "own.call.accept"
done_name Setsockopt arguments n = option_name arguments
done_name Fcntl arguments n = codes "own.call.fcntl"
done_name Write arguments n = written_name arguments n
done_name Close arguments n = closed_name arguments
done_name Unknown arguments n = codes "own.call.error"

-- a call by the result that the script expects, which is the one that it has
abbrev pub answered_name : Call → ExpectedResult → List ℕ
answered_name call (Decimal n) = done_name call.function call.arguments n
answered_name call (Hex n) = done_name call.function call.arguments n
answered_name call (Negative n error) = if n == 0 then done_name call.function call.arguments 0 else error_name error

abbrev pub call_name : Call → List ℕ
call_name call = answered_name call call.result

-- why the sender sends no more after an input
abbrev pub blocker_name : SendBlocker → Option (List ℕ)
blocker_name blocked.Reset = None
blocker_name blocked.NotEstablished = None
blocker_name blocked.Acknowledged = Some (codes "rfc9293.sending.all-acknowledged")
blocker_name blocked.PipeFull = Some (codes "rfc6675.sending.pipe-full")
blocker_name blocked.NothingNext = Some (codes "rfc6675.sending.nothing-next")
blocker_name blocked.Recovering = Some (codes "own.sending.none-by-call-in-recovery")
blocker_name blocked.AllSent = Some (codes "rfc9293.sending.all-sent")
blocker_name blocked.PeerWindow = Some (codes "rfc9293.sending.peer-window")
blocker_name blocked.CongestionWindow = Some (codes "rfc5681.sending.congestion-window")
blocker_name blocked.PartOfSegment = Some (codes "rfc9293.sending.part-of-segment")
blocker_name blocked.Nagle = Some (codes "rfc9293.sending.nagle")
blocker_name blocked.Open = Some (codes "own.sending.none-by-this-input")
