-- The definitions that the contracts of this crate cite.
pub mod Buffers
pub mod Counting
pub mod Views
pub mod Sights
pub mod Streams
pub mod Texts
