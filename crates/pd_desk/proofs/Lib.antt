-- The lemmas of desks.
pub mod Jobs
pub mod HandedOut
pub mod AfterSome
pub mod Others
