-- What the proofs lean on.
mod Laying
mod Asking
mod Telling
mod Settled
