-- The definitions that the contracts cite.
pub mod AlignedPackets
pub mod SenderSnapshots
pub mod Reasons
pub mod Unexpected
pub mod Outlook
pub mod Origins
pub mod Dropped
pub mod Failures
pub mod Causes
pub mod ActualPackets
pub mod Windows
pub mod Explained
pub mod Leftovers
pub mod Inner
