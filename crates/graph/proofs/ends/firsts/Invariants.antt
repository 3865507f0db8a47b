use mathlib.Core.Path.{◌≡◌}
use lib.Dec.{eqb}
use lib.ListN.{get_or}
use Rattle.graph.specs.Rounds.{chosen}
use Rattle.graph.proofs.ends.firsts.Given as goal

abbrev pub invariant-loop-i : goal.invariant-loop-i
invariant-loop-i l = l.set ≡ chosen (λ i. eqb (get_or l.fn.preds i 0) 0) l.active l.i
