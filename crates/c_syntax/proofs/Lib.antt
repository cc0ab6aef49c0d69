-- What holds of trees and their spelling, of the printer, and examples of each rule.
pub mod EmptyLaws
pub mod Examples
pub mod FirstLaws
pub mod HeightLaws
pub mod SpelledLists
pub mod SpelledListsUnit
pub mod Rows
pub mod ScopeExamples
pub mod UnitExamples
