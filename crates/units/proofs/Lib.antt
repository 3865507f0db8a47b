-- What belongs to no one function.
mod CountsSettled
mod TicksSettled
mod FiringsSettled
mod TokensSettled
mod Settled
