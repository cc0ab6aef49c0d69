-- The definitions of the crate, in reading order.
pub mod Words
pub mod Qualified
pub mod Arrays
pub mod Functions
pub mod Settings
pub mod Tags
pub mod Enumerators
pub mod Members
pub mod Completing
pub mod Laws
