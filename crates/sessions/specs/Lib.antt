-- What the program does, as far as a contract can say it.
pub mod Runs
