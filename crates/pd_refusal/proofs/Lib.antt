-- Lemmas on rules, inputs that the sender refuses, parts of events, and octets as they are shown.
pub mod RuleLemmas
pub mod EscapeLemmas
pub mod InputLemmas
pub mod PartLemmas
