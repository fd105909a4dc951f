-- The lemmas of this crate.
pub mod DigitLemmas
pub mod Seconds
pub mod Lexemes
pub mod Leaves
pub mod TimeLemmas
pub mod PacketPartLemmas
pub mod OptionParts
pub mod InOneLine
pub mod Events
pub mod LawLemmas
