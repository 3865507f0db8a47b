-- The period rule, and its model.
pub mod Period
pub mod Reckoned
