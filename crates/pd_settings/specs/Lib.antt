-- The definitions that the contracts cite.
pub mod Faults
pub mod Words
pub mod Rows
pub mod Keys
pub mod Settings
pub mod Change
pub mod Table
pub mod SettingSets
