-- Places, refusals and texts.
pub mod Place
pub mod Refusal
pub mod Text
