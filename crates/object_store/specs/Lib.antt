-- The definitions, in the order in which they are read.
pub mod Object
pub mod Storage
pub mod Messages
pub mod Steps
pub mod Reach
pub mod Marks
pub mod Ranges
pub mod Subranges
pub mod Changes
pub mod Load
