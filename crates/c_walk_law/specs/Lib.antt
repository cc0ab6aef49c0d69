-- The definitions of the crate, in reading order.
pub mod InScope
pub mod Literals
pub mod Law
