-- The definitions of the crate, in reading order.
pub mod Scopes
pub mod Named
pub mod Env
pub mod Ruled
pub mod Clauses
pub mod Laws
pub mod Inner
