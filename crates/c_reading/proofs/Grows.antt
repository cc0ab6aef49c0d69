-- With more height the answer is the same, or it was too deep, class by class.
pub mod Law
pub mod Steps
pub mod All
pub mod Expr
pub mod Declarator
pub mod Specifier
pub mod Declaration
pub mod Statement
