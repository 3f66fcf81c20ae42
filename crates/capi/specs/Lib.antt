-- The answers of the calls for other languages.
pub mod Replies
