-- The definitions that the contracts cite.
pub mod PlacedScripts
pub mod SenderSnapshots
pub mod Recorder
pub mod Stops
pub mod Recording
pub mod FollowsRun
pub mod Answered
pub mod Inner
