-- The answers of the public calls, and two of them one after the other.
pub mod Answers
pub mod Ties
