-- The definitions.
pub mod Stacks
