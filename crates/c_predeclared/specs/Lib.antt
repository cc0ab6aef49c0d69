-- The definitions of the crate, in reading order.
pub mod Predeclared
pub mod Prototypes
pub mod Binds
