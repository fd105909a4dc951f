-- The definitions of the desk: what a settling shows, what a worker leaves in its seat, what a closing says to its seats.
pub use Rattle.pd_seat.specs.Seats
pub use Rattle.pd_seat.specs.Close
pub mod Desk
pub mod Work
pub mod Faults
pub mod Internal
pub mod Laws
