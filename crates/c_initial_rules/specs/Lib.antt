-- The definitions of the crate, in reading order.
pub mod Addresses
pub mod Constants
pub mod Literals
pub mod Initials
pub mod Parts
pub mod Seals
pub mod Stored
