-- The rules of a change; then a mode as it is kept to run, and the sums that are kept of it.
pub mod Change
pub mod Work
pub mod Running
pub mod Waits
