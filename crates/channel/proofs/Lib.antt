-- What the proofs lean on.
pub mod Laws
mod Settled
