-- change::wait::offset_of meets its contract. The invariant: the longest wait is the least or that for an old actor below i.
use mathlib.Core.Path.{sym, ap, ap₂, subst, ◌∙◌}
use Prim.Native.Nat.{◌≤◌}
use native.Mathlib.Omega.{arith}
use Rattle.numbers.specs.Decides.{decides_true}
use Rattle.numbers.specs.Extreme.{most_of}
use Rattle.units.specs.Limits.{limit_of}
use Rattle.units.specs.Ticks.{tick, greater_tick}
use Rattle.units.specs.declared.Tick.{Tick}
use Rattle.tables.specs.declared.Actor.{Actor}
use Rattle.change.specs.declared.wait.Side.{Side}
use Rattle.change.specs.Running.{running_in}
use Rattle.change.specs.Waits.{Part, waits_on}
use Rattle.change.proofs.Fronts.{actor_read, start_read, old_side_law}
use Rattle.change.proofs.Offsets.{since_part, waits_more, waits_no_more}
use Rattle.change.proofs.wait.offset_of.Goals.{else-not-at_most, then-not-at_most}
use Rattle.change.proofs.wait.offset_of.Goals as goal

pub loop-i-init : goal.loop-i-init
unfolding most_of
loop-i-init c = ap tick (omega arith)

pub waits-most-requires : goal.waits-most-requires
waits-most-requires c =
    let side = old_side_law c.requires.0 c.loop-i.i c.loop-i-test.true c.head_of.ensures c.times_at.ensures c.share.ensures in
    (subst Part (sym (ap (λ (x : Side). x.asked) side)) (since_part _ c.requires.0.ready c.loop-i.i c.loop-i-test.true), c.requires.1)

pub loop-i-preserved : goal.loop-i-preserved
loop-i-preserved c =
    let i = c.loop-i.i in let below = c.loop-i-test.true in let f = c.args.old.front.now in let n = running_in c.args.new.front.now in
    elim c.if-not-at_most.branch [
      | then-not-at_most w ↦ w.most-is
          ∙ waits_more limit_of (running_in f) n c.args.least i c.loop-i.invariant
          (w.waits-most.ensures
          ∙ ap₂ (λ (a : Actor) (x : Side). greater_tick c.loop-i.most (tick (waits_on limit_of a.processor x n))) (actor_read f i below w.actor_at.ensures)
          (old_side_law c.requires.0 i below c.head_of.ensures c.times_at.ensures w.share.ensures))
      | else-not-at_most w ↦ w.most-is
          ∙ waits_no_more limit_of (running_in f) n c.args.least i c.loop-i.invariant
          (subst (λ (x : Tick). x.0 ≤ c.loop-i.most.0) (start_read f i below c.times_at.ensures) (decides_true c.at_most.ensures w.if-not-at_most.false))
    ]
