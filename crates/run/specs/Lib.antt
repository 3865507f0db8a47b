-- A plan, the machine that runs it, and what demand 3 says of every run.
pub mod Plan
pub mod Machine
pub mod Firing
pub mod Demand
