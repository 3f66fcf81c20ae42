-- The words in which the contracts of this crate are written.
pub mod Numerics
