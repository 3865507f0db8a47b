-- What the proofs lean on.
mod Shape
mod Ranged
pub mod Remembered
pub mod Housing
pub mod Stored
mod Settled
