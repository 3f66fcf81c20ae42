-- Definitions for pieces of texts: digits that are read, pieces that are written, how a text begins.
pub mod Digits
pub mod Pieces
pub mod Starts
