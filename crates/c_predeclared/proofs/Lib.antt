pub mod AddingUp
pub mod Parts
