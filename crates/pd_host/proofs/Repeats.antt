-- A step that is repeated until nothing more is found: once more, at the end, and without a place.
use Rattle.std.proofs.Common.{◌≡◌, ℕ, zero, suc, if◌then◌else◌, Option, None, Some, Result, Ok, Err, ap}
use Rattle.std.specs.Prelude.{is_some}
use Rattle.pd_host.specs.Sending.{on_found, repeated}
use Rattle.pd_host.specs.declared.halts.Halt.{Halt}
use Rattle.pd_host.specs.declared.halts.Halt.TheVariants.{Limit}

-- what comes where no place is left, by what is found
abbrev without_place : {S X : Type 0} → S → Option X → Result S Halt
without_place s o = if is_some o then Err Limit else Ok s

pub repeated-more : {S X : Type 0} (find : S → Option X) (act : X → S → S) (n : ℕ) (s : S) (x : X) → find s ≡ Some x
    → repeated find act (suc n) s ≡ repeated find act n (act x s)
repeated-more find act n s x h = ap (on_found (repeated find act n) act s) h

pub repeated-none : {S X : Type 0} (find : S → Option X) (act : X → S → S) (n : ℕ) (s : S) → find s ≡ None → repeated find act n s ≡ Ok s
repeated-none find act zero s h = ap (without_place s) h
repeated-none find act (suc n) s h = ap (on_found (repeated find act n) act s) h

pub repeated-full : {S X : Type 0} (find : S → Option X) (act : X → S → S) (s : S) (x : X) → find s ≡ Some x → repeated find act zero s ≡ Err Limit
repeated-full find act s x h = ap (without_place s) h
