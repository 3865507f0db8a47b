-- What belongs to no one function.
pub mod Lookup
pub mod Kept
pub mod Rewritten
pub mod Homes
pub mod Checked
mod Written
mod Reread
mod Short
pub mod Again
mod Listing
mod Fields
mod Standing
mod Progress
pub mod Computed
mod Settled
mod Worked
