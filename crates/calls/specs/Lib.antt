-- What the programs print.
pub mod Prints
pub mod Fills
