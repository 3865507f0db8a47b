-- graph::iteration::most_of meets its contract. The invariant: the work is the greatest of the actors before this one.
use mathlib.Core.Path.{refl}
use Rattle.graph.specs.Lengths.{most_from}
use Rattle.graph.proofs.Lasting.{most_next}
use Rattle.graph.proofs.iteration.most_of.Goals as goal

pub loop-work-init : goal.loop-work-init
unfolding most_from
loop-work-init c = refl

pub loop-work-preserved : goal.loop-work-preserved
loop-work-preserved c = simp most_next (cc)
