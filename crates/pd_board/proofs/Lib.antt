-- The lemmas of this crate.
pub mod Sets
pub mod Find
pub mod Lost
pub mod Shown
pub mod Chosen
pub mod Merge
pub mod Counted
pub mod Pipe
pub mod Searching
pub mod Edge
pub mod Delivered
