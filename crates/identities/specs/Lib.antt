-- Pure identities: 001, section 6.3, and document 02, C-16. What a reader must believe stands in these files; what is proved of them stands
-- in proofs/.
pub mod Families
pub mod Grammar
pub mod OfTags
pub mod Numbers
pub mod Calls
pub mod Conditions
pub mod Promises
