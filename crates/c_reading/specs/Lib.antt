-- How the tokens of a unit are read as its tree.
pub mod Parser
pub mod ReadToken
pub mod ReadExpr
pub mod ReadDeclarator
pub mod ReadSpecifier
pub mod ReadBody
