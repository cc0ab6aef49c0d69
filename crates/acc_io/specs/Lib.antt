-- The definitions that the contracts of this crate cite.
pub mod Cause
pub mod Bytes
pub mod Held
pub mod Files
pub mod Plan
pub mod Views
