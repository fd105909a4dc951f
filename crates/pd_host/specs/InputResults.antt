-- The answer of a host to an input, and the state that it leaves.
use Rattle.std.specs.Prelude.{◌≡◌, Option, Some, None, Result, Ok, Err}
use Rattle.pd_host.specs.declared.halts.Halt.{Halt}
use Rattle.pd_host.specs.declared.halts.HostEnd.{HostEnd}
use Rattle.pd_host.specs.declared.halts.HostEnd.TheVariants.{Halted, OutOfMemory}
use Rattle.pd_host.specs.declared.endpoint.SenderState.{SenderState}
use Rattle.pd_host.specs.Host.{HostView}

-- the rules gave this: the next state, or the halt. Of a host out of memory nothing is claimed
abbrev pub Gives : {S : Type 0} → Result S Halt → Result (Unit {0}) HostEnd → S → Type 0
Gives outcome (Ok done) new = outcome ≡ Ok new
Gives outcome (Err (Halted halt)) new = outcome ≡ Err halt
Gives outcome (Err OutOfMemory) new = Unit {0}

-- the same, with what is answered
abbrev pub GivesAnswer : {S A : Type 0} → Result (S × A) Halt → Result A HostEnd → S → Type 0
GivesAnswer outcome (Ok answer) new = outcome ≡ Ok (new, answer)
GivesAnswer outcome (Err (Halted halt)) new = outcome ≡ Err halt
GivesAnswer outcome (Err OutOfMemory) new = Unit {0}

-- a host ends exactly where it answers an error, and with that
abbrev pub EndsBy : {A : Type 0} → Result A HostEnd → HostView → Type 0
EndsBy (Ok answer) new = new.end_reason ≡ None
EndsBy (Err ending) new = new.end_reason ≡ Some ending

-- a host that goes on does what the rules say; one that has ended answers that again, and stays as it is
abbrev pub GoesFrom : Option HostEnd → HostView → (SenderState → Result SenderState Halt) → Result (Unit {0}) HostEnd → HostView → Type 0
GoesFrom None old rule result new = Gives (rule old.state) result new.state × EndsBy result new
GoesFrom (Some ending) old rule result new = (result ≡ Err ending) × (new ≡ old)

-- an input of a host, by whether it has ended
abbrev pub Goes : HostView → (SenderState → Result SenderState Halt) → Result (Unit {0}) HostEnd → HostView → Type 0
Goes old rule result new = GoesFrom old.end_reason old rule result new

-- the same, with what is answered
abbrev pub AnswersFrom : {A : Type 0} → Option HostEnd → HostView → (SenderState → Result (SenderState × A) Halt) → Result A HostEnd → HostView → Type 0
AnswersFrom None old rule result new = GivesAnswer (rule old.state) result new.state × EndsBy result new
AnswersFrom (Some ending) old rule result new = (result ≡ Err ending) × (new ≡ old)

-- an input that is answered, by whether the host has ended
abbrev pub Answers : {A : Type 0} → HostView → (SenderState → Result (SenderState × A) Halt) → Result A HostEnd → HostView → Type 0
Answers old rule result new = AnswersFrom old.end_reason old rule result new
