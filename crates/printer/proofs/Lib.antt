-- What belongs to no one function.
mod Laying
pub mod Digits
pub mod Fitting
mod Held
mod Settled
