-- The lemmas of the proofs.
pub mod Alone
pub mod Beside
pub mod Causes
pub mod Grammatical
pub mod Chains
mod Rows
pub mod Sessions
pub mod Ending
pub mod Observed
pub mod Written
pub mod Settled
pub mod Reported
pub mod JobBlocks
pub mod Passage
pub mod Possible
pub mod Counting
