use Rattle.std.proofs.Common.{ℕ, ◌<◌}
use Rattle.schedule.specs.Reached.{Later}
use Rattle.schedule.proofs.starts.late.Given as goal

abbrev pub invariant-loop-i : goal.invariant-loop-i
invariant-loop-i l = (k : ℕ) → k < l.i → Later l.fn.starts l.active l.startup k → ⊥
