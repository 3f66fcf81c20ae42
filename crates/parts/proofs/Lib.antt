-- Laws: of names, of control fields, then of parts.
pub mod Runs
pub mod Tails
pub mod Keys
pub mod Controls
pub mod FieldsInText
pub mod Fitting
pub mod Standing
pub mod Ends
