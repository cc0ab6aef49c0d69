-- The definitions that the contracts of this crate cite.
pub mod Program
pub mod PartEnds
pub mod ProgramView
pub mod Meaning
pub mod Job
pub mod Loading
pub mod JobView
pub mod Answer
pub mod Steps
