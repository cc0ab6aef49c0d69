-- The definitions of the crate, in reading order.
pub mod Operands
pub mod Uses
pub mod Typing
pub mod Clauses
pub mod Derivations
