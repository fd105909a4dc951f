-- The meaning of a packet, or an answer of a call, that differs in nothing or in a field.
use Rattle.std.specs.Prelude.{◌≡◌, ℕ, Option, None}
use Rattle.pd_script.specs.declared.calls.ExpectedResult.{ExpectedResult}
use Rattle.pd_script.specs.declared.packets.Packet.{Packet}
use Rattle.pd_seg.specs.declared.call_results.Answer.{Answer}
use Rattle.pd_seg.specs.declared.segments.Sent.{Sent}
use Rattle.pd_match.specs.Agreement.{Agrees, IsFirstFailing, IsResult}
use Rattle.pd_match.specs.Calls.{result_mismatch}
use Rattle.pd_match.specs.Packets.{compared_fields, mismatch}

-- the field in which a packet differs is the first in which it doesn't agree; without one it agrees in all
abbrev pub MismatchIsFirst : Type 0
MismatchIsFirst =
    (packet : Packet) (time_range : Option (ℕ × ℕ)) (sent : Sent) (tolerance : ℕ)
    → IsFirstFailing (Agrees packet time_range sent tolerance) compared_fields (mismatch packet time_range sent tolerance)

-- an answer that differs in nothing is the written result
abbrev pub MatchIsResult : Type 0
MatchIsResult = (expected_result : ExpectedResult) (answer : Answer) → result_mismatch expected_result answer ≡ None → IsResult expected_result answer
