-- The definitions that the contracts cite.
pub mod Headings
pub mod SendRules
pub mod RuleNames
pub mod RulePhases
pub mod RuleAcks
pub mod RuleTimer
pub mod RuleSegments
pub mod RuleCalls
pub mod RuleTrace
pub mod BlockLines
pub mod States
pub mod Inner
