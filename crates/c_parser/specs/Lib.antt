-- What the functions of the parser ensure.
pub mod Known
pub mod Agree
