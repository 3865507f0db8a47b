-- graph::load::shares_of meets its contract. The invariant: the shares are those of the actors below i.
use mathlib.Core.Path.{◌≡◌, ◌∙◌}
use Prim.Native.Nat.{ℕ, ◌-◌, ◌<◌}
use native.Mathlib.Omega.{arith}
use lib.ListN.{get_or}
use mathlib.Core.List.{List}
use Rattle.tables.specs.declared.Actor.{Actor}
use Rattle.units.specs.Limits.{PROCESSORS}
use Rattle.tables.specs.Shape.{no_actor}
use Rattle.graph.specs.Lengths.{Fitting}
use Rattle.graph.proofs.Shared.{shares_none, shares_aside, shares_more, share_fits}
use Rattle.graph.proofs.load.shares_of.Goals.{else-actor-ne0, then-actor-ne0}
use Rattle.graph.proofs.load.shares_of.Goals as goal

-- the place of a processor
at : {acts : List Actor} (i : ℕ) → Fitting acts → ((get_or acts i no_actor).processor ≡ 0 → ⊥) → (get_or acts i no_actor).processor - 1 < PROCESSORS
at i fits n = omega (arith, fits.processor i)

pub plus-requires : goal.plus-requires
plus-requires c = share_fits _ _ _ _ c.loop-i.invariant _ (at c.loop-i.i c.requires.0 c.if-actor-ne0.true) c.requires.1 (omega arith)

pub loop-i-preserved : goal.loop-i-preserved
loop-i-preserved c =
    let l = c.loop-i in
    elim c.if-actor-ne0.branch [
      | then-actor-ne0 w ↦ w.shares-is ∙ shares_more _ _ _ _ l.invariant _ (at l.i c.requires.0 w.if-actor-ne0.true) _ (omega arith) w.plus.ensures
      | else-actor-ne0 w ↦ w.shares-is ∙ l.invariant ∙ shares_aside _ _ _ w.if-actor-ne0.false
    ]

pub loop-i-init : goal.loop-i-init
loop-i-init c = shares_none _ _
