-- What the proofs lean on.
pub mod Laid
pub mod Settles
mod Halving
mod Settled
