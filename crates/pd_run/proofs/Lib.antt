-- Lemmas on runs.
pub mod Bounds
pub mod Consulted
pub mod HeaderItems
pub mod Onwards
pub mod Passed
pub mod Queued
pub mod Reasons
pub mod States
pub mod Steps
pub mod StopsFound
pub mod Timed
pub mod Underway
pub mod WithinLimits
