-- graph::balance::scaled meets its contract. The invariant: the counts before i are scaled, and stayed within the limit.
use mathlib.Core.Path.{◌≡◌}
use native.Mathlib.Omega.{arith}
use Rattle.units.specs.Limits.{ACTORS}
use Rattle.graph.proofs.Flows.{scaled_all, scaled_over}
use Rattle.graph.proofs.balance.scaled.Goals as goal

pub returns-then-scaled-gt-MOST_CYCLES : goal.returns-then-scaled-gt-MOST_CYCLES
returns-then-scaled-gt-MOST_CYCLES c = scaled_over _ _ c.loop-i.i (omega arith) c.if-scaled-gt-MOST_CYCLES.true

pub returns : goal.returns
returns c = let e : c.loop-i.i ≡ ACTORS = omega arith in scaled_all _ _ c.loop-i.next (rw e at c.loop-i.invariant)
