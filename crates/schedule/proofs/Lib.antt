-- What the proofs lean on, and the laws for the crates above.
pub mod Sound
mod Finding
mod Made
pub mod Unique
pub mod Modelled
pub mod Laws
mod Settled
