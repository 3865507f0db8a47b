-- The plan of a text, and the words that it leaves.
pub mod Plans
pub mod Numbers
pub mod Held
pub mod Modes
pub mod Changes
