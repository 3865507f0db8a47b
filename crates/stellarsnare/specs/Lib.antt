-- What firmware is told.
pub mod Face
