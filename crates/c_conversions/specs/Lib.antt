-- The definitions of the crate, in reading order.
pub mod Kinds
pub mod Versions
pub mod Contents
pub mod Parts
pub mod Converting
