use mathlib.Core.Path.{◌≡◌}
use Rattle.graph.specs.Rounds.{order_from}
use Rattle.graph.proofs.order.order_of.Given as goal

abbrev pub invariant-loop-depth : goal.invariant-loop-depth
invariant-loop-depth l = l.now ≡ order_from l.preds l.active l.depth
