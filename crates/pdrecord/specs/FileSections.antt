-- The output of the program that records, for files.
use Rattle.std.specs.Prelude.{◌≡◌, ℕ, Bool, true, false, ◌&&◌, ◌==◌, ◌⊎◌, List, [], ◌∷◌, ◌++◌, take, count_by, codes, Option, Result, Ok, Err, IfSome, if◌then◌else◌}
use Rattle.std.specs.Fmt.{decimal}
use Rattle.std.specs.Io.KnownBytes.{Appends}
use Rattle.pd_settings.specs.declared.settings.Settings.{Settings}
use Rattle.pd_protocol.specs.WriterOutput.{WritesTo}
use Rattle.pd_protocol.specs.ProgramFaults.{fault_line}
use Rattle.pd_protocol.specs.declared.exit.Exit.{Exit}
use Rattle.pd_protocol.specs.declared.faults.ServeFault.{ServeFault}
use Rattle.pd_protocol.specs.declared.faults.ServeFault.TheVariants.{Differs, Read, Write, OutOfMemory}
use Rattle.pd_protocol.specs.declared.program_faults.ProgramFault.{ProgramFault}
use Rattle.pd_protocol.specs.declared.program_faults.ProgramFault.TheVariants.{Serving}
use Rattle.pdrecord.specs.RecordProgram.{IsOutcome}
use Rattle.pdrecord.specs.declared.file_sections.FileFault.{FileFault}
use Rattle.pdrecord.specs.ScriptInput.{script_in}
use Rattle.pdrecord.specs.declared.record_options.RecordMode.{RecordMode}
use Rattle.pdrecord.specs.declared.outcome.Outcome.{Outcome}
use Rattle.pdrecord.specs.declared.outcome.Outcome.TheVariants.{Recorded, Refused}

-- how many lines octets have, each ended by a newline
abbrev pub line_count : List ℕ → ℕ
line_count octets = count_by (λ octet. octet == 10) octets

-- a word, how many lines follow, and the name of a file
abbrev pub title : List ℕ → List ℕ → List ℕ → List ℕ
title word octets name = word ++ decimal (line_count octets) ++ codes " " ++ name ++ codes "\n"

-- the section of a file's script: its recording, or the lines that report why there is none, after a title
abbrev pub section : List ℕ → Outcome → List ℕ
section name (Recorded octets) = title (codes "recorded ") octets.items name ++ octets.items
section name (Refused said) = title (codes "refused ") said.items name ++ said.items

-- a script was recorded
abbrev pub is_recorded : Outcome → Bool
is_recorded (Recorded octets) = true
is_recorded (Refused said) = false

-- these octets are written of a file of this name, which holds an input; and whether its script was recorded
abbrev pub IsSection : Settings → RecordMode → List ℕ → Option (List ℕ) → Bool → List ℕ → Type 0
IsSection settings mode name input done octets =
    (outcome : Outcome) × IfSome input (λ all. IsOutcome settings mode (script_in all) outcome)
    × (done ≡ is_recorded outcome) × (octets ≡ section name outcome)

-- these octets are written of files, one after the other; and whether all their scripts were recorded
abbrev pub AreSections : Settings → RecordMode → (List ℕ → Option (List ℕ)) → List (List ℕ) → Bool → List ℕ → Type 0
AreSections settings mode octets_in [] done octets = (done ≡ true) × (octets ≡ [])
AreSections settings mode octets_in (name ∷ names) done octets =
    (first : Bool) × (others : Bool) × (front : List ℕ) × (rest : List ℕ)
    × IsSection settings mode name (octets_in name) first front × AreSections settings mode octets_in names others rest
    × (done ≡ (first && others)) × (octets ≡ front ++ rest)

-- these octets begin what is written of a file of this name, which holds an input: none of them, or some first ones
abbrev pub BeginsSection : Settings → RecordMode → List ℕ → Option (List ℕ) → List ℕ → Type 0
BeginsSection settings mode name input octets =
    (octets ≡ []) ⊎ ((done : Bool) × (whole : List ℕ) × (n : ℕ) × IsSection settings mode name input done whole × (octets ≡ take n whole))

-- a fault that ends the recording of files
abbrev pub EndsFiles : ServeFault → Type 0
EndsFiles Read = Unit {0}
EndsFiles Write = Unit {0}
EndsFiles OutOfMemory = Unit {0}
EndsFiles Differs = Unit {0}
EndsFiles fault = ⊥

-- that was written of the file of a name, and whether its script was recorded; or at a fault what begins it
abbrev pub WritesOne : Settings → RecordMode → (List ℕ → Option (List ℕ)) → List ℕ → Result Bool ServeFault → Option (List ℕ) → Option (List ℕ) → Type 0
WritesOne settings mode octets_in name (Ok done) before after =
    (octets : List ℕ) × IsSection settings mode name (octets_in name) done octets × Appends before after octets
WritesOne settings mode octets_in name (Err fault) before after =
    (octets : List ℕ) × EndsFiles fault × BeginsSection settings mode name (octets_in name) octets × Appends before after octets

-- that was written of all these files, and whether all their scripts were recorded; or at a fault with one of them what is
-- written of those before it, and what begins its own
abbrev pub Writes : Settings → RecordMode → (List ℕ → Option (List ℕ)) → List (List ℕ) → Result Bool FileFault → Option (List ℕ) → Option (List ℕ) → Type 0
Writes settings mode octets_in names (Ok done) before after =
    (octets : List ℕ) × AreSections settings mode octets_in names done octets × Appends before after octets
Writes settings mode octets_in names (Err stop) before after =
    (whole : List (List ℕ)) × (others : List (List ℕ)) × (done : Bool) × (octets : List ℕ) × (part : List ℕ)
    × EndsFiles stop.fault × (names ≡ whole ++ stop.name.now ∷ others) × AreSections settings mode octets_in whole done octets
    × BeginsSection settings mode stop.name.now (octets_in stop.name.now) part × Appends before after (octets ++ part)

-- the status after files: 0 where all their scripts were recorded, else 1
abbrev pub status_after : Bool → ℕ
status_after done = if done then 0 else 1

-- the line of a fault with the file of a name
abbrev pub file_fault_line : List ℕ → ServeFault → List ℕ
file_fault_line name fault = codes "pdrecord: " ++ fault_line name (Serving fault)

-- a run over files ends: with their status, or at a fault with 2 and, on standard error, its line with the file
abbrev pub EndsAfter : Result Bool FileFault → Exit → Option (List ℕ) → Option (List ℕ) → Type 0
EndsAfter (Ok done) exit before after = (exit.status ≡ status_after done) × (exit.stderr_ok ≡ true) × Appends before after []
EndsAfter (Err stop) exit before after = (exit.status ≡ 2) × WritesTo exit.stderr_ok before after (file_fault_line stop.name.now stop.fault)

-- a run ends at a fault before anything is written
abbrev pub EndsBefore : ProgramFault → Exit → Option (List ℕ) → Option (List ℕ) → Option (List ℕ) → Option (List ℕ) → Type 0
EndsBefore fault exit out_before out_after err_before err_after =
    (exit.status ≡ 2) × Appends out_before out_after [] × WritesTo exit.stderr_ok err_before err_after (fault_line (codes "pdrecord") fault)

-- a run over files of these names, under settings that were read, came to an end with what belongs to what the files hold;
-- settings that are no good end it with their fault, and nothing is written of files; so does a lack of memory before the first
abbrev pub FinishesFiles : Result Settings ProgramFault → RecordMode → (List ℕ → Option (List ℕ)) → List (List ℕ) → Exit → Option (List ℕ) → Option (List ℕ) → Option (List ℕ) → Option (List ℕ) → Type 0
FinishesFiles (Ok settings) mode octets_in names exit out_before out_after err_before err_after =
    ((end : Result Bool FileFault) × Writes settings mode octets_in names end out_before out_after × EndsAfter end exit err_before err_after)
    ⊎ EndsBefore (Serving OutOfMemory) exit out_before out_after err_before err_after
FinishesFiles (Err fault) mode octets_in names exit out_before out_after err_before err_after =
    EndsBefore fault exit out_before out_after err_before err_after ⊎ EndsBefore (Serving OutOfMemory) exit out_before out_after err_before err_after
