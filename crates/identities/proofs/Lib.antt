-- What is proved of identities.
pub mod Components
pub mod Divisions
pub mod IdentityTexts
pub mod TagTexts
pub mod Held
pub mod Choices
pub mod IdentityReads
pub mod Lengths
pub mod OneAnswer
pub mod Places
pub mod Exact
pub mod Known
