-- The lemmas of the proofs.
pub mod Below
mod Gathering
mod Joining
mod Memory
pub mod MendedTexts
mod Sections
mod Words
