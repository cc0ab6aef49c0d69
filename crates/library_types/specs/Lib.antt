-- The definitions that the contracts of this crate cite.
pub mod LibraryTypes
pub mod ArgumentKinds
pub mod PrototypeLaw
