-- Laws that the functions of this crate and their callers lean on.
pub mod Numerals
