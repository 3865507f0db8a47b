-- What the exports promise, and that it settles their answers.
mod Functions
mod Settled
