-- Bits of bytes, most significant first: a field that is read, a stream that is written.
pub mod Bits
pub mod Streams
