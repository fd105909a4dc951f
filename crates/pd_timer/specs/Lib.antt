-- The definitions that the contracts cite.
pub mod Laws
pub mod Rto
