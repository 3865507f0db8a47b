-- What the proofs lean on.
pub mod Leaving
pub mod Answering
mod Blank
mod Coming
mod Timing
mod Accepting
pub mod Holding
mod Settled
