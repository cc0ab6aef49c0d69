-- The definitions of the crate, in reading order.
pub mod WellFormed
pub mod TypedParts
pub mod Law
pub mod TypesLaw
