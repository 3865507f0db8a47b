use Rattle.planner.proofs.Holding.{HeldBelow}
use Rattle.planner.proofs.held.modes_hold.Given as goal

abbrev pub invariant-loop-m : goal.invariant-loop-m
invariant-loop-m l = HeldBelow l.words l.m l.homes
