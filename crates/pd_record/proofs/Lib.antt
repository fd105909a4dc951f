-- The lemmas of this crate.
pub mod After
pub mod Found
pub mod Bounds
pub mod Leaving
pub mod Leaves
pub mod Passing
pub mod Lines
pub mod Again
pub mod Freed
pub mod FreedArrivals
pub mod FreedCalls
pub mod Meeting
pub mod Followed
pub mod Whole
pub mod Right
