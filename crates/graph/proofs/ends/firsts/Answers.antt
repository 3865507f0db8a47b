-- graph::ends::firsts meets its contract. The invariant: the set has the first actors below i.
use borrow.Author.Tests.{eq-eqb, ne_eqb}
use mathlib.Core.Path.{refl, ap, ◌∙◌}
use Prim.Native.Nat.{ℕ}
use Rattle.numbers.specs.Bits.{adding, has_is, with_is}
use Rattle.graph.specs.Rounds.{chosen}
use Rattle.graph.proofs.Bounds.{chosen_next}
use Rattle.graph.proofs.ends.firsts.Goals.{then-has+then-froms-eq0, else-has, else-has-via-then-has+else-froms-eq0, else-has-via-else-has}
use Rattle.graph.proofs.ends.firsts.Goals as goal

pub loop-i-init : goal.loop-i-init
unfolding chosen
loop-i-init c = refl

pub loop-i-preserved : goal.loop-i-preserved
loop-i-preserved c =
    let l = c.loop-i in
    let has = has_is _ _ _ c.has.ensures in
    rw chosen_next
    (elim c.if-has.branch [
      | then-has+then-froms-eq0 w ↦ rw (has ∙ w.if-has.true, eq-eqb _ _ w.if-froms-eq0.true) (w.set-is ∙ with_is _ _ w.with-set.ensures ∙ ap (λ (s : ℕ). adding s l.i) l.invariant)
      | else-has w ↦ elim w.else-has.branch [
        | else-has-via-then-has+else-froms-eq0 v ↦ rw (has ∙ v.if-has.true, ne_eqb _ _ v.if-froms-eq0.false) (w.set-is ∙ l.invariant)
        | else-has-via-else-has v ↦ rw (has ∙ v.if-has.false) (w.set-is ∙ l.invariant)
      ]
    ])
