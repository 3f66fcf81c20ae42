-- Definitions that the contracts of this crate use beside the written rules. Strings is for callers, Readers for the functions inside.
pub mod Strings
pub mod Readers
