-- Lemmas by topic: how a unit is spelled, what comes of it, and what is written.
pub mod AnswerSteps
pub mod Ends
pub mod Exact
pub mod Fronts
pub mod Lengths
pub mod ReadSoFar
pub mod PartialWrites
pub mod TableLines
pub mod Whole
