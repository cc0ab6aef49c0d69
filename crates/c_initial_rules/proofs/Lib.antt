pub mod Flat
pub mod Elements
pub mod Sealed
pub mod Verdicts
pub mod StoreExamples
pub mod InPlace
pub mod PartTargets
