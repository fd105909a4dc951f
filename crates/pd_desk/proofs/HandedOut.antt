-- The job that a start hands out.
use Rattle.std.proofs.Common.{Option, Some, None, Result, Ok, Err, IfOk, IfSome, sym}
use Rattle.pd_book.specs.declared.faults.BookFault.{BookFault}
use Rattle.pd_book.specs.declared.faults.BookFault.TheVariants.{OutOfMemory}
use Rattle.pd_book.specs.Replies.{GivesStart}
use Rattle.pd_book.specs.Legal.{Legal}
use Rattle.pd_book.specs.History.{History, JobView}
use Rattle.pd_seat.specs.Seats.{Unless}
use Rattle.pd_desk.specs.Desk.{IsHandedOut}

-- a start after a legal history hands out a job of that history
pub handed_out : (old new : History) (reply : Result (Option JobView) BookFault) → Unless OutOfMemory reply (GivesStart old reply new)
    → Legal old.opening old.past → IfOk reply (λ given. IfSome given (λ (job : JobView). IsHandedOut job.task))
handed_out old new (Ok (Some job)) gives legal = (old, legal, sym gives.1)
handed_out old new (Ok None) gives legal = tt
handed_out old new (Err fault) gives legal = tt
