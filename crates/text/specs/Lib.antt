-- The words in which the contracts of a text's reader and writer are written.
pub mod Reading
pub mod Writing
