-- The definitions that the contracts cite.
pub mod Mending
pub mod Mended
pub mod Inner
