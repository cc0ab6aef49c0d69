-- What is read depends on the tokens that were read and on the next one alone, class by class.
pub mod Law
pub mod Steps
pub mod All
pub mod Expr
pub mod Declarator
pub mod Specifier
pub mod Declaration
pub mod Statement
