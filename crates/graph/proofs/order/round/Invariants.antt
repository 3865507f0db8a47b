use mathlib.Core.Path.{◌≡◌}
use Rattle.graph.specs.Rounds.{round_from}
use Rattle.graph.proofs.order.round.Given as goal

abbrev pub invariant-loop-i : goal.invariant-loop-i
invariant-loop-i l = l.next ≡ round_from l.fn.preds l.before l.depth l.i
