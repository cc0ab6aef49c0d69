-- The lemmas of the crate, from tests and types up to the rules.
pub mod Facts
pub mod Laid
pub mod Converted
pub mod Integers
pub mod Formed
pub mod Used
pub mod Named
pub mod Reached
pub mod Called
pub mod Unaries
pub mod Binaries
pub mod Compared
pub mod Composed
pub mod Chosen
pub mod Stored
pub mod Made
pub mod Stays
