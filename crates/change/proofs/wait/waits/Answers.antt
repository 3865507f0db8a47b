-- change::wait::waits meets its contract. The invariant: the longest wait is the least or that of a new actor below j.
use mathlib.Core.Path.{sym, ap, subst, ◌∙◌}
use native.Mathlib.Omega.{arith}
use Rattle.numbers.specs.Extreme.{most_of}
use Rattle.units.specs.Limits.{LOAD_LIMIT, limit_of}
use Rattle.units.specs.Ticks.{tick, greater_tick}
use Rattle.tables.specs.declared.Actor.{Actor}
use Rattle.change.specs.declared.wait.Side.{Side}
use Rattle.change.specs.Running.{running_in}
use Rattle.change.specs.Waits.{Part, wait_of}
use Rattle.change.proofs.Fronts.{actor_read, new_side_law}
use Rattle.change.proofs.Offsets.{until_part, wait_more, wait_no_more}
use Rattle.change.proofs.wait.waits.Goals.{else-actor_at-processor, then-actor_at-processor}
use Rattle.change.proofs.wait.waits.Goals as goal

pub loop-j-init : goal.loop-j-init
unfolding most_of
loop-j-init c = ap tick (omega arith)

pub wait-most-requires : goal.wait-most-requires
wait-most-requires c =
    let side = new_side_law c.requires.1 c.loop-j.j (omega arith) c.head_of.ensures c.times_at.ensures c.share.ensures in
    (c.requires.0, subst Part (sym (ap (λ (x : Side). x.asked) side)) (until_part _ c.requires.1.ready c.loop-j.j (omega arith)))

pub loop-j-preserved : goal.loop-j-preserved
loop-j-preserved c =
    let n = running_in c.args.new.front.now in
    let on = ap (λ (x : Actor). x.processor) (actor_read c.args.new.front.now c.loop-j.j (omega arith) c.actor_at.ensures) in
    elim c.if-actor_at-processor.branch [
      | then-actor_at-processor w ↦ w.most-is
          ∙ wait_more limit_of c.args.processor c.args.left n c.args.least c.loop-j.j c.loop-j.invariant (sym on ∙ w.if-actor_at-processor.true)
          (w.wait-most.ensures ∙ ap (λ (x : Side). greater_tick c.loop-j.most (wait_of LOAD_LIMIT c.args.left x)) (new_side_law c.requires.1 c.loop-j.j (omega arith) c.head_of.ensures w.times_at.ensures w.share.ensures))
      | else-actor_at-processor w ↦ w.most-is ∙ wait_no_more limit_of c.args.processor c.args.left n c.args.least c.loop-j.j c.loop-j.invariant (λ e. w.if-actor_at-processor.false (on ∙ e))
    ]
