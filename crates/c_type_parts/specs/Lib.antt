-- The definitions of the crate, in reading order.
pub mod Answers
pub mod Environments
pub mod Shapes
pub mod Declaring
pub mod Tagging
pub mod Outlines
pub mod Clauses
pub mod Seen
