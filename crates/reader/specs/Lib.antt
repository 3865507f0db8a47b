-- The rules of a table's text: its rows, when one is refused, what is told of a whole text; and how a table is written.
pub mod Rows
pub mod Told
pub mod Numbers
pub mod Writing
pub mod Lines
pub mod Checks
