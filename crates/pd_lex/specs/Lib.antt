-- The definitions that the contracts cite.

-- the tokens of a text
pub mod Octets
pub mod Classes
pub mod Spellings
pub mod Places
pub mod Tokens
pub mod Laws
pub mod Agreement
pub mod Kinds
pub mod Numbers
pub mod Next
-- how they are read, piece by piece
pub mod Pieces
pub mod Scanned
pub mod Lexing
