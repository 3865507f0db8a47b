-- channel::claims::greatest meets its contract. The invariant: the most places that are claimed beside the phases below f, and what they take is counted.
use Rattle.std.proofs.Common.{refl, arith}
use Rattle.numbers.specs.Extreme.{most_of, most_next}
use Rattle.numbers.specs.Sum.{sum}
use Rattle.channel.specs.Bounds.{back_early, back_few, few_small, is_phase, fit_here, next_here}
use Rattle.channel.proofs.claims.greatest.Goals as goal

pub loop-f-init : goal.loop-f-init
unfolding most_of sum
loop-f-init c = record { most = refl; taken = refl }

pub back-requires : goal.back-requires
back-requires c =
    let l = is_phase _ c.requires.1.proper c.rates-rate-items.ensures _ c.loop-f-test.true in
    rw (c.ends-at.ensures, c.phases.ensures, c.loop-f.invariant.taken) (c.requires.3, back_early c.args.consumer c.loop-f.f c.requires.1 l c.args.start c.requires.2)

pub most-requires : goal.most-requires
most-requires c =
    let l = is_phase _ c.requires.1.proper c.rates-rate-items.ensures _ c.loop-f-test.true in (
      (λ n. refl),
      (λ k d b. few_small _ (c.requires.0 k d b)),
      rw (c.back.ensures, c.ends-at.ensures, c.phases.ensures, c.loop-f.invariant.taken)
          (few_small _ (back_few c.args.pace _ _ c.requires.3 (back_early c.args.consumer c.loop-f.f c.requires.1 l c.args.start c.requires.2))),
      omega (arith, c.requires.3.common),
    )

pub plus-taken-requires : goal.plus-taken-requires
plus-taken-requires c = fit_here _ c.requires.1.proper c.rates-rate-items.ensures _ c.loop-f-test.true c.loop-f.invariant.taken c.moved.ensures

pub loop-f-preserved : goal.loop-f-preserved
loop-f-preserved c =
    record {
      most = rw (most_next, c.greater-most.ensures, c.loop-f.invariant.most, c.most.ensures, c.back.ensures, c.ends-at.ensures, c.phases.ensures, c.loop-f.invariant.taken);
      taken = next_here _ c.requires.1.proper c.rates-rate-items.ensures _ c.loop-f-test.true c.loop-f.invariant.taken c.moved.ensures c.plus-taken.ensures;
    }
