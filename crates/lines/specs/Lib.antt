-- The lines of a program, and an input that is read in pieces (document 01, the paragraph before "How to write each place").
pub mod Lines
pub mod Turns
