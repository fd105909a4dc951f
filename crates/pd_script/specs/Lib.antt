-- The definitions that the contracts cite.
pub use Rattle.pd_lex.specs.Places
pub use Rattle.pd_lex.specs.Tokens
pub use Rattle.pd_lex.specs.Lexing
-- the grammar of scripts
pub mod Values
pub mod Items
pub mod Spelling
pub mod Brackets
pub mod Arguments
pub mod PacketGrammar
pub mod Grammar
pub mod Header
pub mod Faults
pub mod Laws
pub mod Range
-- how one is read from left to right
pub mod Reader
pub mod TokenReading
pub mod ArgumentReading
pub mod PacketReading
pub mod EventReading
pub mod Script
pub mod Next
pub mod Cursor
