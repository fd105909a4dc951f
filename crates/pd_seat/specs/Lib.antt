-- The definitions of seats: which acts are whose, what a call records, what a report and a closing owe to a seat.
pub use Rattle.pd_book.specs.Replies
pub mod Seats
pub mod Faults
pub mod Close
pub mod SeatInvariants
