-- The words in which the contracts of the two calls' inner functions are written.
pub mod Words
