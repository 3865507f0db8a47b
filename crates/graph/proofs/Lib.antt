-- What the proofs lean on.
pub mod Sorted
mod Bounds
mod Entries
mod Flows
mod Multiples
mod Lasting
mod Shared
mod Refused
mod Made
mod Stopped
pub mod Judging
pub mod Unique
mod Settled
