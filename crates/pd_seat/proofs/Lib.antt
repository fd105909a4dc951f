-- The lemmas of seats.
pub mod Made
pub mod Jobs
pub mod Noting
pub mod Seated
