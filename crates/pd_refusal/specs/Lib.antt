-- The definitions that the contracts cite.
pub mod Escape
pub mod Rules
pub mod Parts
pub mod Alternatives
pub mod RuleViolations
pub mod MarkedPlace
pub mod ForeignSyntax
