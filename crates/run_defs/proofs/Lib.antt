-- Lemmas, by topic.
pub mod Integers
pub mod Judging
pub mod ExampleRuns
pub mod CallExamples
pub mod ExampleLines
pub mod JournalExamples
pub mod TrapExamples
pub mod Outlines
pub mod Worlds
pub mod Following
pub mod Starting
pub mod RowFacts
pub mod RowLines
pub mod Serving
pub mod Completing
