-- What the proofs lean on.
pub mod Told
pub mod Unique
pub mod Bounds
pub mod Running
pub mod Coming
pub mod Reckoned
pub mod Exists
mod Settled
