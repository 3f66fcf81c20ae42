-- The terms in which the contracts of this crate speak, beside the written rules.
pub mod Controls
pub mod Names
pub mod Parts
pub mod Rests
