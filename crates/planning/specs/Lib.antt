-- The plan of a table.
pub mod Shape
pub mod Nothing
pub mod Plan
pub mod Numbers
pub mod OneMode
pub mod Changes
pub mod Steps
