-- The definitions of the crate, in reading order.
pub mod Jumps
pub mod Labels
pub mod Assertions
pub mod Definitions
pub mod Units
pub mod Laws
