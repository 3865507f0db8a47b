-- What belongs to no one function.
pub mod Loads
pub mod Offsets
pub mod Fronts
pub mod Made
mod Settled
