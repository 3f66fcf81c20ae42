-- The laws of the program's turns.
pub mod Streams
pub mod Runs
