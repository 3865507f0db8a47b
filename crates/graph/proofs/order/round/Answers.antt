-- graph::order::round meets its contract. The invariant: the actors below i are moved that were ready before.
use mathlib.Core.Path.{refl, ap, ap₂, ◌∙◌}
use Prim.Native.Nat.{ℕ}
use lib.ListN.{set}
use Rattle.numbers.specs.Bits.{has_is, within_is, with_is, without_is}
use Rattle.graph.specs.declared.order.Order.{Order}
use Rattle.graph.specs.Rounds.{moved, round_from}
use Rattle.graph.proofs.Sorted.{round_next}
use Rattle.graph.proofs.order.round.Goals.{then-has+then-within, else-has, else-has-via-then-has+else-within, else-has-via-else-has}
use Rattle.graph.proofs.order.round.Goals as goal

pub loop-i-init : goal.loop-i-init
unfolding round_from
loop-i-init c = refl

pub loop-i-preserved : goal.loop-i-preserved
loop-i-preserved c =
    let has = has_is _ _ _ c.has.ensures in
    rw round_next
    (elim c.if-has.branch [
      | then-has+then-within w ↦ rw (has ∙ w.if-has.true, within_is _ _ _ w.within.ensures ∙ w.if-within.true)
          (w.next-is
          ∙ ap₂ (λ (x y : ℕ). record { done = x; left = y; depths = set c.loop-i.next.depths c.loop-i.i c.args.depth }) (with_is _ _ w.with.ensures) (without_is _ _ w.without.ensures)
          ∙ ap (λ (o : Order). moved o c.loop-i.i c.args.depth) c.loop-i.invariant)
      | else-has w ↦ elim w.else-has.branch [
        | else-has-via-then-has+else-within v ↦ rw (has ∙ v.if-has.true, within_is _ _ _ v.within.ensures ∙ v.if-within.false) (w.next-is ∙ c.loop-i.invariant)
        | else-has-via-else-has v ↦ rw (has ∙ v.if-has.false) (w.next-is ∙ c.loop-i.invariant)
      ]
    ])
