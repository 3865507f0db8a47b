-- change::work::works_of meets its contract. The invariant: the works are those of the actors below k.
use mathlib.Core.Path.{◌≡◌, refl, ap, ap₂, ◌∙◌}
use native.Mathlib.Omega.{arith}
use Rattle.numbers.specs.Sum.{sum}
use Rattle.units.specs.Limits.{ACTORS}
use Rattle.units.specs.declared.Tick.{Tick}
use Rattle.tables.specs.declared.Actor.{Actor}
use Rattle.change.specs.Running.{running_in}
use Rattle.change.proofs.Loads.{work_fits, work_more, work_elsewhere, work_uncounted}
use Rattle.change.proofs.Fronts.{actor_read, starts_since, starts_until, since_is, until_is, work_small, counted}
use Rattle.change.proofs.work.works_of.Goals.{then-actor-processor+then-at_most-2, then-actor-processor+else-at_most-2, else-actor-processor, then-at_most, else-at_most}
use Rattle.change.proofs.work.works_of.Goals as goal

pub loop-k-init : goal.loop-k-init
unfolding sum
loop-k-init c = (refl, refl)

pub work-work-requires : goal.work-work-requires
work-work-requires c =
    work_small c.args.front.now c.loop-k.k (omega arith) c.actor_at-actor.ensures c.times_at-times.ensures c.requires.1

pub plus-since-requires : goal.plus-since-requires
plus-since-requires c =
    let s = c.args in let f = s.front.now in let a = c.actor_at-actor.ensures in let t = c.times_at-times.ensures in let below = c.loop-k-test.true in
    let on = since_is f c.loop-k.k below a t s.start c.at_most.ensures ∙ c.if-at_most.true in
    work_fits (running_in f) c.requires.1 s.processor (starts_since f s.start) c.loop-k.k below c.loop-k.invariant.0
    (counted f c.loop-k.k below a t s.processor (starts_since f s.start) c.if-actor-processor.true on c.work-work.ensures)

pub plus-until-requires : goal.plus-until-requires
plus-until-requires c =
    let s = c.args in let f = s.front.now in let a = c.actor_at-actor.ensures in let t = c.times_at-times.ensures in let below = c.loop-k-test.true in
    let on = until_is f c.loop-k.k below a t s.start c.at_most-then-actor-processor.ensures ∙ c.if-at_most-2.true in
    work_fits (running_in f) c.requires.1 s.processor (starts_until f s.start) c.loop-k.k below c.loop-k.invariant.1
    (counted f c.loop-k.k below a t s.processor (starts_until f s.start) c.if-actor-processor.true on c.work-work.ensures)

pub loop-k-preserved : goal.loop-k-preserved
loop-k-preserved c =
    let a = c.actor_at-actor.ensures in let k = c.loop-k.k in let s = c.args in let f = s.front.now in let r = running_in f in
    let below = c.loop-k-test.true in let on = ap (λ (x : Actor). x.processor) (actor_read f k below a) in
    let (since, until) = c.loop-k.invariant in
    let S = starts_since f s.start in let U = starts_until f s.start in
    elim c.if-actor-processor.branch [
      | then-actor-processor+then-at_most-2 w ↦
          let t = w.times_at-times.ensures in let here = w.if-actor-processor.true in (
            elim w.if-at_most.branch [
              | then-at_most v ↦ w.since-is ∙ v.since-is
                  ∙ work_more r s.processor k S since (counted f k below a t s.processor S here (since_is f k below a t s.start w.at_most.ensures ∙ v.if-at_most.true) w.work-work.ensures) v.plus-since.ensures
              | else-at_most v ↦ w.since-is ∙ v.since-is ∙ work_uncounted r s.processor k S since (since_is f k below a t s.start w.at_most.ensures ∙ v.if-at_most.false)
            ],
            w.until-is
                ∙ work_more r s.processor k U until (counted f k below a t s.processor U here (until_is f k below a t s.start w.at_most-then-actor-processor.ensures ∙ w.if-at_most-2.true) w.work-work.ensures) w.plus-until.ensures,
          )
      | then-actor-processor+else-at_most-2 w ↦
          let t = w.times_at-times.ensures in let here = w.if-actor-processor.true in (
            elim w.if-at_most.branch [
              | then-at_most v ↦ w.since-is ∙ v.since-is
                  ∙ work_more r s.processor k S since (counted f k below a t s.processor S here (since_is f k below a t s.start w.at_most.ensures ∙ v.if-at_most.true) w.work-work.ensures) v.plus-since.ensures
              | else-at_most v ↦ w.since-is ∙ v.since-is ∙ work_uncounted r s.processor k S since (since_is f k below a t s.start w.at_most.ensures ∙ v.if-at_most.false)
            ],
            w.until-is ∙ work_uncounted r s.processor k U until (until_is f k below a t s.start w.at_most-then-actor-processor.ensures ∙ w.if-at_most-2.false),
          )
      | else-actor-processor w ↦ (
        w.since-is ∙ work_elsewhere r s.processor k S since (λ e. w.if-actor-processor.false (on ∙ e)),
        w.until-is ∙ work_elsewhere r s.processor k U until (λ e. w.if-actor-processor.false (on ∙ e)),
      )
    ]

pub returns : goal.returns
returns c = let e : c.loop-k.k ≡ ACTORS = omega arith in ap₂ (λ (s u : Tick). record { since = s; until = u }) (rw e at c.loop-k.invariant.0) (rw e at c.loop-k.invariant.1)
