use Rattle.graph.proofs.Flows.{Scaling}
use Rattle.graph.proofs.balance.scaled.Given as goal

abbrev pub invariant-loop-i : goal.invariant-loop-i
invariant-loop-i l = Scaling l.fn.counts l.times l.next l.i
