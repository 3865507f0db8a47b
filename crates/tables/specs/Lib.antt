-- A table in memory: what stands where, which tables are proper, and that they stay so when they grow.
pub mod Shape
pub mod Proper
pub mod Grown
pub mod Memory
pub mod Parts
pub mod Stored
