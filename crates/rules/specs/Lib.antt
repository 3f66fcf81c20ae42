-- Documents 01 and 02, in the order of 01. What a reader must believe stands in these files; what is proved of them stands in proofs/.
pub mod Bytes
pub mod Schemes
pub mod Characters
pub mod ControlFields
pub mod Grammar
pub mod Coding
pub mod Answers
pub mod TextNumbers
pub mod BankNumbers
pub mod Raw
pub mod Screen
pub mod Calls
pub mod Conditions
pub mod Promises
