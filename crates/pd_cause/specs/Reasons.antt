-- The names that reasons have in JSON.
use Rattle.std.specs.Prelude.{ℕ, List, codes}
use Rattle.pd_host.specs.declared.connection.introspection.SendBlocker.{SendBlocker}
use Rattle.pd_host.specs.declared.connection.introspection.SendBlocker.TheVariants as send_blocker
use Rattle.pd_cause.specs.declared.causes.not_sent_reason.NotSentReason.{NotSentReason}
use Rattle.pd_cause.specs.declared.causes.not_sent_reason.NotSentReason.TheVariants.{NoOctets, Held}

-- of what holds the sender back
abbrev pub send_blocker_key : SendBlocker → List ℕ
send_blocker_key send_blocker.Reset = codes "reset"
send_blocker_key send_blocker.NotEstablished = codes "not_established"
send_blocker_key send_blocker.Acknowledged = codes "acknowledged"
send_blocker_key send_blocker.PipeFull = codes "pipe_full"
send_blocker_key send_blocker.NothingNext = codes "nothing_next"
send_blocker_key send_blocker.Recovering = codes "recovering"
send_blocker_key send_blocker.AllSent = codes "all_sent"
send_blocker_key send_blocker.PeerWindow = codes "peer_window"
send_blocker_key send_blocker.CongestionWindow = codes "congestion_window"
send_blocker_key send_blocker.PartOfSegment = codes "part_of_segment"
send_blocker_key send_blocker.Nagle = codes "nagle"
send_blocker_key send_blocker.Open = codes "open"

-- of a reason
abbrev pub reason_key : NotSentReason → List ℕ
reason_key NoOctets = codes "no_octets"
reason_key (Held send_blocker) = send_blocker_key send_blocker
