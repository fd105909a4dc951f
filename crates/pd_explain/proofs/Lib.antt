-- Lemmas on the lines of a block, facts, and the rules that events come to.
pub mod BlockLemmas
pub mod FactLemmas
pub mod RuleTraceLemmas
