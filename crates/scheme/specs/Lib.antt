-- The words in which the contracts of the schemes' code are written.
pub mod Counts
pub mod Outlines
pub mod Refusals
pub mod Records
pub mod Rows
