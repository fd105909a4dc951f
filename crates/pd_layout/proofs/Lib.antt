-- The lemmas of this crate.
pub mod Images
pub mod NextLines
pub mod CommentEnds
pub mod Tokens
pub mod Pairs
