-- The definitions that the contracts cite.
pub mod Acks
pub mod NextSeg
pub mod Cong
pub mod Laws
pub mod Prr
