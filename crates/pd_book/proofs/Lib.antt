-- The lemmas of the book.
pub mod Searches
pub mod NamedText
pub mod Retained
pub mod Faithful
pub mod Stretches
pub mod Numbers
pub mod Standing
pub mod Ends
pub mod Replayed
pub mod Rows
pub mod Calls
pub mod Splits
pub mod Turns
pub mod Legality
pub mod Settlement
