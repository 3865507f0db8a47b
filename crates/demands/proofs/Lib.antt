-- The demands, proved.
pub mod Functions
mod Printing
pub mod Demands
