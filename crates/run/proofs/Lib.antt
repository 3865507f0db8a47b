-- What demand 3 leans on.
pub mod Tallies
pub mod Sound
pub mod Delay
pub mod Tokens
pub mod Load
pub mod Links
pub mod Buffers
pub mod Processors
pub mod Window
pub mod Beside
pub mod Demand
