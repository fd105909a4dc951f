-- The definitions that the contracts cite.
pub mod ReadAs
pub mod Traces
pub mod Canonical
pub mod Grammatical
pub mod Internal
