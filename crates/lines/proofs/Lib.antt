-- The laws of lines and turns.
pub mod Holds
pub mod Splits
pub mod Passes
pub mod Turns
pub mod Sessions
