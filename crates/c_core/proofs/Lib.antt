pub mod Kept
pub mod Parts
pub mod Wider
mod Examples
mod UnitExamples
