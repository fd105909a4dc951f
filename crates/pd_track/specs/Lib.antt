-- The definitions of checkpoints and of how much of a run they spare.
pub mod Laws
pub mod Reuse
pub mod Resuming
