-- What the proofs lean on, and demand 3.
pub mod Unique
mod Words
pub mod Steps
pub mod Running
pub mod Sound
pub mod Demand
mod Settled
