pub mod Found
pub mod Least
pub mod Growth
pub mod Seen
pub mod Keeps
