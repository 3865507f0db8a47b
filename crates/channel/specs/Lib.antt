-- One channel, for ever.
pub mod Flow
pub mod Cycles
pub mod Pairs
pub mod Phases
pub mod Laws
pub mod Bounds
