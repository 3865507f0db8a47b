-- What the proofs lean on.
mod Telling
pub mod Unique
mod Settled
