-- Counts of one kind, the limits, and what follows from them.
pub mod Ticks
pub mod Firings
pub mod Tokens
pub mod Limits
pub mod Bounds
pub mod Products
