-- The arguments of a call.
pub mod Argument
