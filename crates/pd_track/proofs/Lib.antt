-- Lemmas on tracks and jobs.
pub mod Beginnings
pub mod Fourths
pub mod Greatest
pub mod Held
pub mod Rebound
pub mod Resume
pub mod Served
pub mod Steps
pub mod Went
