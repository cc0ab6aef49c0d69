pub mod Narrowing
pub mod Adding
pub mod Examples
