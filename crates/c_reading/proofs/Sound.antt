-- What is read is well-formed, spelled by the tokens that were read, and no higher than is left, class by class.
pub mod Law
pub mod Steps
pub mod Nodes
pub mod Expr
pub mod Postfix
pub mod Declarator
pub mod Suffix
pub mod Specifier
pub mod Compound
pub mod Initializer
pub mod Declaration
pub mod Block
pub mod BlockItem
pub mod Statement
pub mod Unit
