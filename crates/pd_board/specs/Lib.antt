-- The definitions that the contracts cite.
pub mod Octets
pub mod Board
pub mod Loss
pub mod Retransmit
pub mod Laws
pub mod Predicates
pub mod Runs
pub mod Ranges
