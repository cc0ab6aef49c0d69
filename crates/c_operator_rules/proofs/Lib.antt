-- The examples of the crate.
mod Examples
