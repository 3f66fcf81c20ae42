-- Laws. A caller may want the last ones of Kept (what `read` gives) and of Counts (what `count` gives).
pub mod Kept
pub mod Counts
mod Classes
mod Steps
mod Widths
mod Writes
