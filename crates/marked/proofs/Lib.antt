-- The theorem of the marked lines, and what it leans on.
mod Reckoned
mod Told
mod Claims
mod Large
pub mod Marked
pub mod Planned
