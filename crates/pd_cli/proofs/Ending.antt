-- How a run of the program ends.
use Rattle.std.proofs.Common.{◌≡◌, ◌≤◌, arith, zero, suc, ℕ, Bool, ◌⊎◌, inl, inr, List, [], Option, Some, None, Result, Ok, Err, IfSome, refl, ap}
use Rattle.std.specs.Io.KnownBytes.{Appends}
use Rattle.pd_settings.specs.declared.settings.Settings.{Settings}
use Rattle.pd_protocol.specs.Commands.{commands}
use Rattle.pd_protocol.specs.Input.{HasCause}
use Rattle.pd_protocol.specs.declared.faults.ServeFault.{ServeFault}
use Rattle.pd_protocol.specs.declared.faults.ServeFault.TheVariants.{OutOfMemory}
use Rattle.pd_protocol.specs.declared.program_faults.ProgramFault.{ProgramFault}
use Rattle.pd_protocol.specs.declared.program_faults.ProgramFault.TheVariants.{Serving}
use Rattle.pd_cli.specs.Beside.{MayAnswer, EndsBeside, ServesBeside}
use Rattle.pd_cli.specs.Grammatical.{Writes, ServesAlone}
use Rattle.pd_cli.specs.Program.{ServedBy, Served, Runs, end_of}

-- settings that are no good
none_by : (workers : ℕ) (settings : Settings) (input : List ℕ) → ServedBy workers settings (Err OutOfMemory) [] input
none_by zero settings input = ([], record { opening = settings; past = [] }, commands input, ([], refl, (refl, refl)))
none_by (suc more) settings input = tt

none_served : (failed : Type 0) (workers : ℕ) (settings : Settings) (input : List ℕ) → Served failed workers settings (Err OutOfMemory) [] input
none_served failed workers settings input = (([], commands input, record { opening = settings; past = [] }, refl, (refl, refl), tt), none_by workers settings input, tt)

settings_runs : (failed : Type 0) (workers : ℕ) (x fault : ProgramFault) (s : Result Settings ProgramFault) (input : List ℕ) → x ≡ fault → (s ≡ Err fault) ⊎ (fault ≡ Serving OutOfMemory) → Runs failed workers s (Err x) [] input
settings_runs failed workers x fault s input i (inl e) = rw e (refl, inl (ap (λ (f : ProgramFault). Err f) i))
settings_runs failed workers x fault (Ok settings) input i (inr e) = rw (i, e) (none_served failed workers settings input)
settings_runs failed workers x fault (Err f) input i (inr e) = rw (i, e) (refl, inr refl)

pub settings_out : (failed : Type 0) (workers : ℕ) (fault : ProgramFault) (s : Result Settings ProgramFault) (all : Option (List ℕ)) → (s ≡ Err fault) ⊎ (fault ≡ Serving OutOfMemory) → IfSome all (Runs failed workers s (Err fault) [])
settings_out failed workers fault s None h = tt
settings_out failed workers fault s (Some input) h = settings_runs failed workers fault fault s input refl h

-- out of memory before anything is read
pub memory_runs : (failed : Type 0) (workers : ℕ) (s : Result Settings ProgramFault) (all : Option (List ℕ)) → IfSome all (Runs failed workers s (Err (Serving OutOfMemory)) [])
memory_runs failed workers s None = tt
memory_runs failed workers s (Some input) = settings_runs failed workers (Serving OutOfMemory) (Serving OutOfMemory) s input refl (inr refl)

-- serving with good settings, with workers or alone
served_runs : (failed : Type 0) (workers : ℕ) (settings : Settings) (s : Result Settings ProgramFault) (end : Result Bool ServeFault) (octets input : List ℕ) → s ≡ Ok settings → Served failed workers settings end octets input → Runs failed workers s (end_of end) octets input
served_runs failed workers settings s (Ok passed) octets input e h = rw e h
served_runs failed workers settings s (Err fault) octets input e h = rw e h

by_workers : (workers : ℕ) (settings : Settings) (end : Result Bool ServeFault) (octets input : List ℕ) → 1 ≤ workers → EndsBeside end → ServedBy workers settings end octets input
by_workers zero settings end octets input some h = absurd (omega (arith, some))
by_workers (suc more) settings end octets input some h = h

known_runs : (Q : List ℕ → Type 0) (failed : Type 0) (workers : ℕ) (settings : Settings) (s : Result Settings ProgramFault) (end : Result Bool ServeFault) (octets : List ℕ) (all : Option (List ℕ)) → s ≡ Ok settings → ((input : List ℕ) → Q input → ServedBy workers settings end octets input)
    → IfSome all (λ input. MayAnswer end octets (record { opening = settings; past = [] }) (commands input) × Q input) → HasCause end failed all → IfSome all (Runs failed workers s (end_of end) octets)
known_runs Q failed workers settings s end octets None e f h c = tt
known_runs Q failed workers settings s end octets (Some input) e f h c = served_runs failed workers settings s end octets input e (h.0, f input h.1, c)

pub ran_beside : (failed : Type 0) (workers : ℕ) (settings : Settings) (s : Result Settings ProgramFault) (end : Result Bool ServeFault) (all before after : Option (List ℕ)) → 1 ≤ workers → s ≡ Ok settings → ServesBeside end settings all before after → HasCause end failed all
    → (octets : List ℕ) × Appends before after octets × IfSome all (Runs failed workers s (end_of end) octets)
ran_beside failed workers settings s end all before after some e h c =
    (h.0, h.1, known_runs (λ input. EndsBeside end) failed workers settings s end h.0 all e (λ input k. by_workers workers settings end h.0 input some k) h.2 c)

pub ran_alone : (failed : Type 0) (settings : Settings) (s : Result Settings ProgramFault) (end : Result Bool ServeFault) (all before after : Option (List ℕ)) → s ≡ Ok settings → ServesAlone end settings all before after → HasCause end failed all
    → (octets : List ℕ) × Appends before after octets × IfSome all (Runs failed 0 s (end_of end) octets)
ran_alone failed settings s end all before after e h c =
    (h.0, h.1, known_runs (λ input. Writes end h.0 (record { opening = settings; past = [] }) (commands input)) failed 0 settings s end h.0 all e (λ input k. k) h.2 c)
