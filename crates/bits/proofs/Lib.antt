-- Laws of fields of bits, and of streams.
pub mod Pieces
pub mod Streams
pub mod Pushes
