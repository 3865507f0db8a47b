-- The words of a plan, and the table that is read from them.
pub mod Words
pub mod Blocks
pub mod Read
pub mod Laws
