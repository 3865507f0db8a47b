use mathlib.Core.Path.{◌≡◌}
use Rattle.graph.specs.Lengths.{most_from}
use Rattle.graph.proofs.iteration.most_of.Given as goal

abbrev pub invariant-loop-work : goal.invariant-loop-work
invariant-loop-work l = l.most ≡ most_from l.fn.works l.work-index
