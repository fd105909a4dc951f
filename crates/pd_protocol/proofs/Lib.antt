-- The lemmas of the proofs.
pub mod Chains
pub mod Cuts
pub mod Digits
pub mod Fronts
pub mod BuildText
pub mod Known
pub mod Newlines
pub mod Writing
pub mod SettingsText
pub mod Spending
pub mod Together
