-- The lemmas of this crate.
pub mod Agreements
pub mod FirstFailing
pub mod Pairs
pub mod Results
