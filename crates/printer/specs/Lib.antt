-- The rules of what is printed.
pub mod Texts
pub mod Printed
pub mod Links
