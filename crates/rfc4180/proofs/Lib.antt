-- What belongs to no one function.
mod Classes
pub mod Grammar
pub mod Records
mod Scanning
mod Finding
pub mod Decimals
mod Runs
pub mod Lists
pub mod Laying
mod Settled
