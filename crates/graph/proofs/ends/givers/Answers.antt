-- graph::ends::givers meets its contract. The invariant: the set has who is in one of the first i sets.
use mathlib.Core.Path.{refl}
use Rattle.graph.specs.Rounds.{givers_from}
use Rattle.graph.proofs.Bounds.{givers_next}
use Rattle.graph.proofs.ends.givers.Goals as goal

pub loop-froms-init : goal.loop-froms-init
unfolding givers_from
loop-froms-init c = refl

pub loop-froms-preserved : goal.loop-froms-preserved
loop-froms-preserved c = simp givers_next (cc)
