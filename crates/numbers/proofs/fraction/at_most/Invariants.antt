use Prim.Native.Nat.{◌+◌}
use mathlib.Core.Logic.{◌↔◌}
use Rattle.numbers.specs.Fraction.{Proper, AtMost}
use Rattle.numbers.proofs.fraction.at_most.Given as goal

abbrev pub invariant-loop-x : goal.invariant-loop-x
invariant-loop-x l = Proper l.x × Proper l.y × (AtMost l.x l.y ↔ AtMost l.fn.a l.fn.b)

abbrev pub decreases-loop-x : goal.decreases-loop-x
decreases-loop-x l = l.x.under + l.y.under
