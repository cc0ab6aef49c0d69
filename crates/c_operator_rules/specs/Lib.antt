-- The definitions of the crate, in reading order.
pub mod Joined
pub mod Binary
pub mod Comparisons
pub mod Conditional
pub mod Assignment
pub mod Laws
