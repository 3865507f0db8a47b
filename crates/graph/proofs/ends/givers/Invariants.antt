use mathlib.Core.Path.{◌≡◌}
use Rattle.graph.specs.Rounds.{givers_from}
use Rattle.graph.proofs.ends.givers.Given as goal

abbrev pub invariant-loop-froms : goal.invariant-loop-froms
invariant-loop-froms l = l.set ≡ givers_from l.fn.preds l.froms-index
