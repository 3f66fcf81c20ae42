-- Positional numerals.
pub mod Numeral
