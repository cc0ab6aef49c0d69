-- The definitions, in the order in which they are read.
pub mod Kinds
pub mod Numbers
pub mod Operations
