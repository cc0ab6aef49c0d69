-- The lemmas of the crate, from answers up to the walk.
pub mod Reaching
pub mod Scopes
pub mod Tags
pub mod Deriving
pub mod Operands
pub mod Walk
