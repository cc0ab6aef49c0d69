-- What holds of the parsers, and of each list of tokens.
pub mod Takes
pub mod TokenTests
pub mod FirstTokens
pub mod BodyTokens
pub mod NodeLists
pub mod LevelLaws
pub mod OneTree
pub mod ParseLaws
pub mod RefusalLaws
pub mod AnswerLaws
pub mod Sound
pub mod Full
pub mod Online
pub mod Grows
pub mod Viable
