-- Laws that the schemes' code and its callers lean on.
pub mod Numbers
pub mod Shapes
pub mod Sums
pub mod Widths
