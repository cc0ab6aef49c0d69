-- Lemmas, by topic.
pub mod Adding
pub mod Taking
pub mod Reading
pub mod Answering
pub mod Printing
pub mod Counted
