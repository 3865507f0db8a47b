-- The starts and the sizes of a mode.
pub mod Starts
pub mod Scheduled
pub mod Reached
pub mod Model
