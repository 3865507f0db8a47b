-- What the proofs lean on.
mod Counting
