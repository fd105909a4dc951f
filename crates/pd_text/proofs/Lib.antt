-- Lemmas on texts.
pub mod SameLines
pub mod Placed
pub mod Ranges
pub mod EditedLines
