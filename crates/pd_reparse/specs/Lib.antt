-- The definitions of readings, and of the lists that they are kept in.
pub mod Reading
pub mod Steps
pub mod Laws
pub mod SharedBlocks
