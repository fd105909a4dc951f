-- Where reading stops, and why.
use Rattle.std.proofs.Common.{◌≡◌, inl, inr, ℕ, Bool, List, [], Option, Result, Ok, Err, IsErrAnd}
use Rattle.pd_protocol.specs.Input.{IfKnown, Spends, IsCaused, HasCause}
use Rattle.pd_protocol.specs.declared.command.Command.{Command}
use Rattle.pd_protocol.specs.declared.command.Command.TheVariants.{Settle}
use Rattle.pd_protocol.specs.declared.faults.ServeFault.{ServeFault}
use Rattle.pd_protocol.specs.declared.faults.ServeFault.TheVariants.{HistoryFull, NoWorkers, Differs, BadCommand, Truncated, Read, Write, OutOfMemory}
use Rattle.pd_protocol.proofs.Spending.{caused_out}
use Rattle.pd_cli.specs.Sessions.{ServesBy, ReadsBy, DoesBy, SettlesBy}

-- the next command wasn't read to its end
cause_reads : {S V : Type 0} (fails : ServeFault → S → Command → S → Type 0) (r : Result V ServeFault) (failed : Type 0) (all : Option (List ℕ)) → HasCause r failed all → ReadsBy fails r failed all
cause_reads fails (Ok v) failed all h = tt
cause_reads fails (Err Read) failed all h = inl h
cause_reads fails (Err HistoryFull) failed all h = tt
cause_reads fails (Err NoWorkers) failed all h = tt
cause_reads fails (Err Differs) failed all h = tt
cause_reads fails (Err BadCommand) failed all h = tt
cause_reads fails (Err Truncated) failed all h = tt
cause_reads fails (Err Write) failed all h = tt
cause_reads fails (Err OutOfMemory) failed all h = tt

pub caused_reads : {S V : Type 0} (fails : ServeFault → S → Command → S → Type 0) (r : Result V ServeFault) (fault : ServeFault) (failed : Type 0) (mid new : List ℕ × ℕ) (all now : Option (List ℕ))
    → IsErrAnd r (λ x. x ≡ fault) → IfKnown (Spends ([], 1048576) mid) all now → IsCaused failed mid new now fault → ReadsBy fails r failed all
caused_reads fails r fault failed mid new all now i s h = cause_reads fails r failed all (caused_out r fault failed mid new all now i s h)

-- a command had no reply, or its reply wasn't written
does_reads : (V : Type 0) {S : Type 0} (fails : ServeFault → S → Command → S → Type 0) (prints : S → Command → List ℕ → S → Type 0) (fault : ServeFault) (failed : Type 0) (all : Option (List ℕ)) (old new : S) (command : Command) (octets : List ℕ)
    → DoesBy prints fails (Err fault) old command new octets → ReadsBy {V = V} fails (Err fault) failed all
does_reads V fails prints Read failed all old new command octets (inl d) = inr (old, new, command, d.1)
does_reads V fails prints Read failed all old new command octets (inr d) = let e : Read ≡ Write = d.0 in absurd cc
does_reads V fails prints HistoryFull failed all old new command octets d = tt
does_reads V fails prints NoWorkers failed all old new command octets d = tt
does_reads V fails prints Differs failed all old new command octets d = tt
does_reads V fails prints BadCommand failed all old new command octets d = tt
does_reads V fails prints Truncated failed all old new command octets d = tt
does_reads V fails prints Write failed all old new command octets d = tt
does_reads V fails prints OutOfMemory failed all old new command octets d = tt

pub stop_reads : {S V : Type 0} (fails : ServeFault → S → Command → S → Type 0) (prints : S → Command → List ℕ → S → Type 0) (r : Result V ServeFault) (fault : ServeFault) (failed : Type 0) (all : Option (List ℕ)) (old new : S) (command : Command) (octets : List ℕ)
    → IsErrAnd r (λ x. x ≡ fault) → DoesBy prints fails (Err fault) old command new octets → ReadsBy fails r failed all
stop_reads fails prints (Ok v) fault failed all old new command octets i d = absurd i
stop_reads {V = V} fails prints (Err x) fault failed all old new command octets i d = rw i (does_reads V fails prints fault failed all old new command octets d)

pub end_reads : {S : Type 0} (fails : ServeFault → S → Command → S → Type 0) (prints : S → Command → List ℕ → S → Type 0) (passes : S → Bool) (r : Result Bool ServeFault) (failed : Type 0) (all : Option (List ℕ)) (old new : S) (octets : List ℕ)
    → SettlesBy prints fails passes r old new octets → ReadsBy fails r failed all
end_reads fails prints passes (Ok passed) failed all old new octets d = tt
end_reads fails prints passes (Err fault) failed all old new octets d = does_reads Bool fails prints fault failed all old new Settle octets d

-- whoever answers has a reply but for other faults
pub has_cause : {S V : Type 0} (fails : ServeFault → S → Command → S → Type 0) (r : Result V ServeFault) (failed : Type 0) (all : Option (List ℕ)) → ReadsBy fails r failed all → ((a b : S) → (command : Command) → fails Read a command b → ⊥) → HasCause r failed all
has_cause fails (Ok v) failed all h f = tt
has_cause fails (Err Read) failed all (inl h) f = h
has_cause fails (Err Read) failed all (inr (a, b, command, h)) f = absurd (f a b command h)
has_cause fails (Err HistoryFull) failed all h f = tt
has_cause fails (Err NoWorkers) failed all h f = tt
has_cause fails (Err Differs) failed all h f = tt
has_cause fails (Err BadCommand) failed all h f = tt
has_cause fails (Err Truncated) failed all h f = tt
has_cause fails (Err Write) failed all h f = tt
has_cause fails (Err OutOfMemory) failed all h f = tt

-- the same of who served
pub serves_with_cause : {S : Type 0} (prints : S → Command → List ℕ → S → Type 0) (fails : ServeFault → S → Command → S → Type 0) (passes : S → Bool) (r : Result Bool ServeFault) (a last : S) (input before after : Option (List ℕ)) → ServesBy prints fails passes r input before after a last
    → (failed : Type 0) → ReadsBy fails r failed input → ((a b : S) → (command : Command) → fails Read a command b → ⊥) → HasCause r failed input
serves_with_cause prints fails passes r a last input before after h failed reads f = has_cause fails r failed input reads f

-- out of memory is no read
pub memory_caused : {V : Type 0} (r : Result V ServeFault) (failed : Type 0) (all : Option (List ℕ)) → IsErrAnd r (λ x. x ≡ OutOfMemory) → HasCause r failed all
memory_caused (Ok v) failed all i = absurd i
memory_caused (Err x) failed all i = rw i tt
