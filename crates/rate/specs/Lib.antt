-- The rate rule, the pace of a channel, and the model.
pub mod Rate
pub mod Pace
pub mod Reckoned
