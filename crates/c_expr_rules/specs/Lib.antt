-- The definitions of the crate, in reading order.
pub mod Targets
pub mod Uses
pub mod Primary
pub mod Unary
pub mod Pointers
pub mod Members
pub mod Casts
pub mod Calls
pub mod Laws
