-- The laws of numerals, once over base and width.
pub mod Arithmetic
pub mod Values
pub mod Shortest
pub mod Spreads
pub mod Splices
pub mod Fields
