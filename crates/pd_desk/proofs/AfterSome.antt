-- A property of a history and the one after it is one of some such two.
use Rattle.std.proofs.Common.{◌≡◌, Bool, true, false, refl, subst, Result, Ok, Err, OnErr}
use Rattle.std.specs.Prelude.{◌≢◌, ◌↔◌, IsTrue, is_ok}
use Rattle.pd_book.specs.Legal.{Legal}
use Rattle.pd_book.specs.History.{History}
use Rattle.pd_seat.specs.Seats.{HeldView, SeatView, Agrees, Unless}
use Rattle.pd_desk.specs.Desk.{AfterSome, IsKept}
use Rattle.pd_desk.specs.Internal.{Compared}
use Rattle.pd_book.specs.declared.faults.FinishFault.{FinishFault}
use Rattle.pd_book.specs.declared.faults.FinishFault.TheVariants as finish

-- unless the reply is out of memory, as it holds of these two
pub after_some : {T Fault : Type 0} → (want : Fault) → (reply : Result T Fault) → (P : History → History → Type 0) → (before after : History)
    → Legal before.opening before.past → Unless want reply (P before after) → Unless want reply (AfterSome P)
after_some want (Ok x) P before after legal holds = (before, after, legal, holds)
after_some want (Err fault) P before after legal holds = λ other. (before, after, legal, holds other)

-- a refusal, by a history that was compared with the seat
compared : (T : Type 0) (fault : FinishFault) (agrees : Bool) (P : History → History → Type 0) (held : HeldView) (after : History) (seat : SeatView)
    → IsKept held → (IsTrue agrees ↔ Agrees held seat) → (fault ≢ finish.OutOfMemory → P held.book.history after) → Compared {T = T} seat (Err fault) agrees P
compared T fault true P held after seat kept told gives = λ other. (held, after, kept, told.0 refl, gives other)
compared T fault false P held after seat kept told gives = (held, kept, λ agrees. (let bad : false ≡ true = told.1 agrees in absurd cc))

-- a reply that is no success, by a history that was compared with the seat after it, since a refusal leaves both
pub compared_by : (T : Type 0) (reply : Result T FinishFault) (agrees : Bool) (P : History → History → Type 0) (held held' : HeldView) (after : History) (seat seat' : SeatView)
    → is_ok reply ≡ false → OnErr reply ((held' ≡ held) × (seat' ≡ seat)) → (IsTrue agrees ↔ Agrees held' seat') → IsKept held' → Unless finish.OutOfMemory reply (P held.book.history after) → Compared seat reply agrees P
compared_by T (Ok x) agrees P held held' after seat seat' failed same told kept gives = absurd cc
compared_by T (Err fault) agrees P held held' after seat seat' failed (same, own) told kept gives =
    compared T fault agrees P held after seat (subst (λ (h : HeldView). IsKept h) same kept)
    (subst (λ (s : SeatView). IsTrue agrees ↔ Agrees held s) own (subst (λ (h : HeldView). IsTrue agrees ↔ Agrees h seat') same told)) gives
