-- The definitions of texts, edits, names and refusals.
pub mod Text
pub mod PackedLines
pub mod Edit
pub mod Faults
pub mod Name
