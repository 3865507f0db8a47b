-- graph::order::order_of meets its contract. The invariant: the order is that of as many rounds as the depth.
use borrow.Author.Tests.{eq-eqb, ne_eqb}
use mathlib.Core.Path.{refl, ◌∙◌}
use Rattle.graph.specs.Rounds.{order_from}
use Rattle.graph.proofs.Sorted.{order_next}
use Rattle.graph.proofs.order.order_of.Goals.{else-now-ne0, then-now-ne0}
use Rattle.graph.proofs.order.order_of.Goals as goal

pub loop-depth-init : goal.loop-depth-init
unfolding order_from
loop-depth-init c = refl

pub loop-depth-preserved : goal.loop-depth-preserved
loop-depth-preserved c =
    rw (order_next, ← c.loop-depth.invariant)
    (elim c.if-now-ne0.branch [ then-now-ne0 w ↦ rw (ne_eqb _ _ w.if-now-ne0.true) (w.now-is ∙ w.round-now.ensures) | else-now-ne0 w ↦ rw (eq-eqb _ _ w.if-now-ne0.false) w.now-is ])
