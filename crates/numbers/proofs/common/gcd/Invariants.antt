use Prim.Native.Nat.{◌+◌}
use Rattle.numbers.proofs.Halving.{Halved}
use Rattle.numbers.proofs.common.gcd.Given as goal

abbrev pub invariant-loop-x : goal.invariant-loop-x
invariant-loop-x l = Halved l.a l.b l.shared l.x l.y

abbrev pub decreases-loop-x : goal.decreases-loop-x
decreases-loop-x l = l.x + l.y
