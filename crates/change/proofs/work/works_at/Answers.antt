-- change::work::works_at meets its contract.
use mathlib.Core.Path.{sym, ap, ap₂, ◌∙◌}
use Rattle.units.specs.declared.Tick.{Tick}
use Rattle.tables.specs.declared.Actor.{Actor}
use Rattle.change.specs.Work.{works_of}
use Rattle.change.specs.Running.{running_in}
use Rattle.change.proofs.Loads.{works_nowhere}
use Rattle.change.proofs.Fronts.{actor_read, start_read}
use Rattle.change.proofs.work.works_at.Goals as goal

pub returns-then-processor-eq0 : goal.returns-then-processor-eq0
returns-then-processor-eq0 c =
    let on = ap (λ (x : Actor). x.processor) (actor_read c.args.front.now c.args.i c.requires.2 c.actor_at-processor.ensures) in
    works_nowhere (running_in c.args.front.now) c.requires.1 _ _ (sym on ∙ c.if-processor-eq0.true)

pub returns : goal.returns
returns c =
    let f = c.args.front.now in c.works_of.ensures
    ∙ ap₂ (λ (x : Actor) (t : Tick). works_of (running_in f).actors (running_in f).firings (running_in f).starts x.processor t)
    (actor_read f c.args.i c.requires.2 c.actor_at-processor.ensures) (start_read f c.args.i c.requires.2 c.times_at.ensures)
