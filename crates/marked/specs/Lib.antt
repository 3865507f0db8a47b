-- The marked lines, and the plan of the printed table in plain numbers.
pub mod Lines
pub mod Planned
