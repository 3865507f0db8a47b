-- What the proofs lean on.
pub mod Laying
pub mod Planned
mod Settled
