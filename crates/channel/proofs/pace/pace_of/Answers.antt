-- channel::pace::pace_of meets its contract.
use Rattle.std.proofs.Common.{arith}
use native.Mathlib.Nat.{mul-le-mul}
use Rattle.channel.specs.Bounds.{cycle_most, step_is}
use Rattle.channel.proofs.pace.pace_of.Goals as goal

pub times-requires : goal.times-requires
times-requires c =
    rw c.tokens-made.ensures (omega (arith, mul-le-mul c.requires.1.few (cycle_most c.args.producer c.requires.0.producer)))

pub returns : goal.returns
returns c =
    rw (c.times-2.ensures, c.times.ensures, step_is c.args.producer c.args.consumer c.tokens-made.ensures c.ticks-cycle.ensures c.tokens.ensures c.step_of.ensures, c.tokens-made.ensures, c.ticks-cycle.ensures)
