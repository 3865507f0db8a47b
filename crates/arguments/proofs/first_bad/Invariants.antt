use Rattle.std.proofs.Common.{ℕ, ◌+◌, ◌-◌, ◌≤◌, length, drop, Option}
use Rattle.arguments.specs.Argument.{arguments_of, FirstBad}
use Rattle.arguments.proofs.first_bad.Given as goal

abbrev pub invariant-loop-at : goal.invariant-loop-at
invariant-loop-at l =
    (l.number ≤ l.at + 1) × ((n : Option ℕ) → FirstBad l.number (arguments_of (drop l.at l.bytes)) n → FirstBad 1 (arguments_of (drop l.from l.bytes)) n)

abbrev pub decreases-loop-at : goal.decreases-loop-at
decreases-loop-at l = length l.bytes - l.at
