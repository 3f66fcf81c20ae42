-- Laws of pieces of texts.
pub mod Texts
pub mod Hexes
pub mod Runs
pub mod Parts
pub mod Copies
pub mod Pairs
pub mod Starts
pub mod Joins
