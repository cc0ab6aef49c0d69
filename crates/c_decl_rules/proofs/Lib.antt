pub mod Verdicts
pub mod Parameters
pub mod NameExamples
