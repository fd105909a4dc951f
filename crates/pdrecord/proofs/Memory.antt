-- Out of memory, before anything is read.
use Rattle.std.proofs.Common.{◌≡◌, ℕ, List, Option, Some, None, Result, Ok, Err, IfSome, ◌⊎◌, inl, inr, refl, codes}
use Rattle.pd_settings.specs.declared.settings.Settings.{Settings}
use Rattle.pd_protocol.specs.declared.faults.ServeFault.TheVariants.{OutOfMemory}
use Rattle.pd_protocol.specs.declared.program_faults.ProgramFault.{ProgramFault}
use Rattle.pd_protocol.specs.declared.program_faults.ProgramFault.TheVariants.{Serving}
use Rattle.pd_protocol.specs.WriterOutput.{WritesTo}
use Rattle.pd_protocol.specs.ProgramFaults.{fault_line}
use Rattle.pd_protocol.specs.declared.exit.Exit.{Exit}
use Rattle.pd_protocol.proofs.Known.{appends_none}
use Rattle.pdrecord.specs.declared.record_options.RecordMode.{RecordMode}
use Rattle.pdrecord.specs.RecordProgram.{Comes}
use Rattle.pdrecord.specs.FileSections.{FinishesFiles}

pub memory_comes : (failed : Type 0) (settings : Result Settings ProgramFault) (tr : RecordMode) (all : Option (List ℕ)) → IfSome all (Comes failed settings tr (Err (Serving OutOfMemory)))
memory_comes failed settings tr None = tt
memory_comes failed (Ok settings) tr (Some input) = (tt, tt)
memory_comes failed (Err fault) tr (Some input) = inr refl

-- the same where files are named
pub memory_files : (settings : Result Settings ProgramFault) (tr : RecordMode) (octets_in : List ℕ → Option (List ℕ)) (names : List (List ℕ)) (exit : Exit) (w v u : Option (List ℕ)) → exit.status ≡ 2 → WritesTo exit.stderr_ok v u (fault_line (codes "pdrecord") (Serving OutOfMemory)) → FinishesFiles settings tr octets_in names exit w w v u
memory_files (Ok settings) tr octets_in names exit w v u s t = inr (s, appends_none w, t)
memory_files (Err fault) tr octets_in names exit w v u s t = inr (s, appends_none w, t)

-- settings that are no good, where files are named
pub fault_files : (settings : Result Settings ProgramFault) (tr : RecordMode) (octets_in : List ℕ → Option (List ℕ)) (names : List (List ℕ)) (f : ProgramFault) (exit : Exit) (w v u : Option (List ℕ)) → (settings ≡ Err f) ⊎ (f ≡ Serving OutOfMemory) → exit.status ≡ 2 → WritesTo exit.stderr_ok v u (fault_line (codes "pdrecord") f) → FinishesFiles settings tr octets_in names exit w w v u
fault_files settings tr octets_in names f exit w v u (inr e) s t = memory_files settings tr octets_in names exit w v u s (rw e at t)
fault_files (Ok settings) tr octets_in names f exit w v u (inl e) s t = absurd cc
fault_files (Err fault) tr octets_in names f exit w v u (inl e) s t = let same : fault ≡ f = cc in inl (s, appends_none w, rw same t)
