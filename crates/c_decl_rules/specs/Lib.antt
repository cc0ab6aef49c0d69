-- The definitions of the crate, in reading order.
pub mod Linkage
pub mod SameType
pub mod DeclaredNames
pub mod Clauses
pub mod Laws
