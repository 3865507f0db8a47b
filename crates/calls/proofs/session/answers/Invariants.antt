use Prim.Native.Nat.{◌-◌}
use lib.ListN.{length}
use Rattle.calls.proofs.Asking.{Sofar}
use Rattle.calls.proofs.session.answers.Given as goal

abbrev pub invariant-loop-place : goal.invariant-loop-place
invariant-loop-place l = Sofar l.words l.arguments l.initial.machine l.initial.out l.at l.from l.out l.machine l.reached l.place

abbrev pub decreases-loop-place : goal.decreases-loop-place
decreases-loop-place l = length l.arguments - l.place
