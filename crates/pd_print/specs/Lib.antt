-- The definitions that the contracts cite.
pub mod Numbers
pub mod Options
pub mod Packets
pub mod Sent
pub mod Answers
pub mod RoundTrip
pub mod Laws
