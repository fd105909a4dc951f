-- The lemmas of this crate.
pub mod Followers
pub mod Leading
pub mod Staying
