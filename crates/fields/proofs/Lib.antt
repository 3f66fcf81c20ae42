-- Laws: of a bit reader, and of the first one bit.
pub mod Readers
pub mod Zeros
pub mod Ones
