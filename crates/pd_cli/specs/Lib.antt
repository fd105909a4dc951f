-- The definitions of the report, the output and the programs.
pub mod Beside
pub mod BesideSteps
pub mod ExplanationBlocks
pub mod DeskFaults
pub mod Grammatical
pub mod Laws
pub mod Output
pub mod Program
pub mod Report
pub mod Sessions
pub mod StepLines
pub mod Steps
pub mod StartedJobs
pub mod Reported
pub mod Observed
