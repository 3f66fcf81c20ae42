-- What the proofs of the two calls rest on.
pub mod Names
pub mod Components
pub mod PartTexts
pub mod Divided
pub mod Pieces
pub mod Verdicts
pub mod Judgements
pub mod Holders
pub mod TagLines
pub mod DirectTags
pub mod Answered
pub mod OneAnswer
