-- The definitions of the crate, in reading order.
pub mod Types
pub mod CType
pub mod Shapes
pub mod PartCount
pub mod Structures
pub mod Layouts
pub mod Making
pub mod Qualified
pub mod Functions
pub mod Compounds
pub mod Compatible
pub mod Composite
pub mod Inner
