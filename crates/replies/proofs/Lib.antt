-- The laws of replies.
pub mod Hexes
pub mod Pieces
pub mod Answered
pub mod Refusals
pub mod Screens
pub mod Sizes
pub mod IdentitySizes
pub mod Filters
pub mod IdentityReplies
pub mod Programs
