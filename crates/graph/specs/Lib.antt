-- The rules of a mode's graph, and then the models of the code that finds it.
pub mod Order
pub mod Ends
pub mod Balance
pub mod Load
pub mod Judged
pub mod Laws
pub mod Rounds
pub mod Counts
pub mod Lengths
pub mod Judge
