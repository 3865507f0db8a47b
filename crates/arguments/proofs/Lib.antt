-- What the proofs lean on.
pub mod Reading
pub mod Parting
mod Settled
