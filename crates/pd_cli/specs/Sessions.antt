-- A session: the commands of an input are answered one after another. The octets that a command may print, why it may have no
-- reply, and whether each row of the last report passes, are handed in, from state to state of the handler.
use Rattle.std.specs.Prelude.{◌≡◌, ◌⊎◌, ℕ, Bool, List, [], ◌∷◌, ◌++◌, Option, Result, Ok, Err, IfSome}
use Rattle.std.specs.Io.KnownBytes.{Appends}
use Rattle.pd_protocol.specs.Commands.{InputItem, does, stops, commands}
use Rattle.pd_protocol.specs.Input.{EndsReading}
use Rattle.pd_protocol.specs.NextCommand.{FaultIn}
use Rattle.pd_protocol.specs.declared.command.Command.{Command}
use Rattle.pd_protocol.specs.declared.command.Command.TheVariants.{Settle}
use Rattle.pd_protocol.specs.declared.faults.ServeFault.{ServeFault}
use Rattle.pd_protocol.specs.declared.faults.ServeFault.TheVariants.{Read, Write}

-- items print these octets, one after another, and this is the state after them
abbrev pub PrintsAll : {S : Type 0} → (S → Command → List ℕ → S → Type 0) → S → List InputItem → List ℕ → S → Type 0
PrintsAll prints state [] octets after = (octets ≡ []) × (after ≡ state)
PrintsAll prints state (stops fault ∷ items) octets after = ⊥
PrintsAll {S = S} prints state (does command ∷ items) octets after =
    (printed rest : List ℕ) × (next : S) × prints state command printed next × PrintsAll prints next items rest after × (octets ≡ printed ++ rest)

-- the first of some items print these octets; this is the state after them, and these items are left
abbrev pub PrintsFirst : {S : Type 0} → (S → Command → List ℕ → S → Type 0) → S → List InputItem → List ℕ → S → List InputItem → Type 0
PrintsFirst prints state items octets now left = (first : List InputItem) × (items ≡ first ++ left) × PrintsAll prints state first octets now

-- why the items that are left aren't answered, and the state then: a fault is there, or reading on failed; or the command
-- that is there has no reply
abbrev pub StopsAt : {S : Type 0} → (ServeFault → S → Command → S → Type 0) → ServeFault → S → List InputItem → S → Type 0
StopsAt fails fault now left last =
    (FaultIn fault left × (last ≡ now)) ⊎ ((command : Command) × (more : List InputItem) × (left ≡ does command ∷ more) × fails fault now command last)

-- a session that wrote these octets ends so, in this state; where a write fails they are a prefix of what items print
abbrev pub EndsBy : {S : Type 0} → (S → Command → List ℕ → S → Type 0) → (ServeFault → S → Command → S → Type 0) → (S → Bool)
    → Result Bool ServeFault → List ℕ → S → List InputItem → S → Type 0
EndsBy prints fails passes (Ok passed) octets state items last = PrintsAll prints state items octets last × (passed ≡ passes last)
EndsBy {S = S} prints fails passes (Err fault) octets state items last =
    ((now : S) × (left : List InputItem) × PrintsFirst prints state items octets now left × StopsAt fails fault now left last)
    ⊎ ((fault ≡ Write) × (more : List ℕ) × (left : List InputItem) × PrintsFirst prints state items (octets ++ more) last left)

-- a writer got what a session on an input writes, which ended so, in this state
abbrev pub ServesBy : {S : Type 0} → (S → Command → List ℕ → S → Type 0) → (ServeFault → S → Command → S → Type 0) → (S → Bool)
    → Result Bool ServeFault → Option (List ℕ) → Option (List ℕ) → Option (List ℕ) → S → S → Type 0
ServesBy prints fails passes result input before after state last =
    (octets : List ℕ) × Appends before after octets × IfSome input (λ input. EndsBy prints fails passes result octets state (commands input) last)

-- commands were answered one after another, and then perhaps one has no reply
abbrev pub HasAnswered : {S : Type 0} → (S → Command → List ℕ → S → Type 0) → (ServeFault → S → Command → S → Type 0) → S → S → Type 0
HasAnswered {S = S} prints fails state last =
    (items : List InputItem) × (octets : List ℕ) × (now : S) × PrintsAll prints state items octets now
    × ((last ≡ now) ⊎ ((fault : ServeFault) × (command : Command) × fails fault now command last))

-- one command was done, with these octets written
abbrev pub DoesBy : {S : Type 0} → (S → Command → List ℕ → S → Type 0) → (ServeFault → S → Command → S → Type 0)
    → Result (Unit {0}) ServeFault → S → Command → S → List ℕ → Type 0
DoesBy prints fails (Ok u) old command new octets = prints old command octets new
DoesBy prints fails (Err fault) old command new octets =
    ((octets ≡ []) × fails fault old command new) ⊎ ((fault ≡ Write) × (more : List ℕ) × prints old command (octets ++ more) new)

-- the last settle was done
abbrev pub SettlesBy : {S : Type 0} → (S → Command → List ℕ → S → Type 0) → (ServeFault → S → Command → S → Type 0) → (S → Bool)
    → Result Bool ServeFault → S → S → List ℕ → Type 0
SettlesBy prints fails passes (Ok passed) old new octets = prints old Settle octets new × (passed ≡ passes new)
SettlesBy prints fails passes (Err fault) old new octets = DoesBy prints fails (Err fault) old Settle new octets

-- a session that ends with 17 isn't read on, or whoever answers ends it so
abbrev pub ReadsBy : {S V : Type 0} → (ServeFault → S → Command → S → Type 0) → Result V ServeFault → Type 0 → Option (List ℕ) → Type 0
ReadsBy {S = S} fails (Err Read) failed input = EndsReading failed input ⊎ ((old new : S) × (command : Command) × fails Read old command new)
ReadsBy fails result failed input = Unit {0}
