-- The reply to one line: of tagline (document 01, the paragraph before "How to write each place"), and of identity (document 02, C-16).
pub mod Hex
pub mod Replies
pub mod Identities
pub mod Programs
pub mod Writing
