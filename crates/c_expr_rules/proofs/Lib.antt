-- The lemmas of the crate, and the answers to single functions in folders of their names.
pub mod Counting
pub mod Samples
mod Examples
