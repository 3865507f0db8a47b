-- channel::waits::latest meets its contract. The invariant: the latest start that the phases below f ask, and what they take is counted.
use Rattle.std.proofs.Common.{refl}
use Rattle.numbers.specs.Extreme.{most_of, most_next}
use Rattle.numbers.specs.Sum.{sum}
use Rattle.channel.specs.Bounds.{take_early, is_phase, rate_here, fit_here, next_here}
use Rattle.channel.proofs.waits.latest.Goals as goal

pub loop-f-init : goal.loop-f-init
unfolding most_of sum
loop-f-init c = record { latest = refl; taken = refl }

pub plus-taken-requires : goal.plus-taken-requires
plus-taken-requires c = fit_here _ c.requires.1.proper c.rates-rate-items.ensures _ c.loop-f-test.true c.loop-f.invariant.taken c.moved.ensures

pub asked-requires : goal.asked-requires
asked-requires c =
    let l = is_phase _ c.requires.1.proper c.rates-rate-items.ensures _ c.loop-f-test.true in
    let taken = next_here _ c.requires.1.proper c.rates-rate-items.ensures _ c.loop-f-test.true c.loop-f.invariant.taken c.moved.ensures c.plus-taken.ensures in
    rw (c.begins-at.ensures, c.phases.ensures, taken) (c.requires.0, c.requires.2, take_early c.args.consumer c.loop-f.f c.requires.1 l)

pub loop-f-preserved : goal.loop-f-preserved
loop-f-preserved c =
    let rate = rate_here _ c.requires.1.proper c.rates-rate-items.ensures _ c.loop-f-test.true in
    let taken = next_here _ c.requires.1.proper c.rates-rate-items.ensures _ c.loop-f-test.true c.loop-f.invariant.taken c.moved.ensures c.plus-taken.ensures in
    record {
      latest = rw (most_next, c.greater-latest.ensures, c.loop-f.invariant.latest, c.asked.ensures, c.begins-at.ensures, c.phases.ensures, taken, rate);
      taken = taken;
    }
