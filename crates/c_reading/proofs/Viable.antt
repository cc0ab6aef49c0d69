-- Where reading stops, some tree begins with the tokens before; where that was too deep, a higher one begins with the
-- next too; class by class.
pub mod Law
pub mod Contexts
pub mod Completions
pub mod Started
pub mod Unfit
pub mod Nodes
pub mod Lists
pub mod Expr
pub mod Unary
pub mod Postfix
pub mod Declarator
pub mod Nested
pub mod Suffix
pub mod Specifier
pub mod Compound
pub mod Initializer
pub mod Declaration
pub mod Assert
pub mod Block
pub mod BlockItem
pub mod Statement
pub mod StatementContexts
pub mod StatementParts
pub mod Unit
