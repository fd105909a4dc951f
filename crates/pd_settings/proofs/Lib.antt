-- The lemmas of this crate.
pub mod Changes
pub mod Names
pub mod Overlays
pub mod Allowed
pub mod ByName
pub mod Agreements
pub mod SameValues
