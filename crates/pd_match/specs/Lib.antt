-- The definitions that the contracts cite.
pub mod Packets
pub mod Calls
pub mod Agreement
pub mod Kinds
pub mod Laws
