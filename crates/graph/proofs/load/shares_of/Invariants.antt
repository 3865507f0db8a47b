use mathlib.Core.Path.{◌≡◌}
use Rattle.graph.proofs.Shared.{shares_from}
use Rattle.graph.proofs.load.shares_of.Given as goal

abbrev pub invariant-loop-i : goal.invariant-loop-i
invariant-loop-i l = l.shares ≡ shares_from l.fn.actors l.works l.i
