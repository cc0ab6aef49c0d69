pub mod Elements
pub mod Given
pub mod RuleExamples
pub mod WordExamples
