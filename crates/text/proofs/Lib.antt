-- Laws that the reader and the writer of a text lean on.
pub mod Starts
pub mod Found
pub mod Lasts
pub mod Whole
pub mod Rooms
pub mod Fields
pub mod Written
