use Prim.Native.Nat.{ℕ, ◌<◌}
use mathlib.Core.Path.{◌≡◌}
use Rattle.numbers.specs.Joined.{part}
use Rattle.layout.specs.Words.{CHANGE_WORDS}
use Rattle.planner.proofs.Timing.{change_in}
use Rattle.planner.proofs.changes.changes_hold.Given as goal

abbrev pub invariant-loop-n : goal.invariant-loop-n
invariant-loop-n l = (k : ℕ) → k < l.n → part CHANGE_WORDS k l.behind ≡ change_in l.modes k
